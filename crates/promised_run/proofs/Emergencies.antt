-- THE EMERGENCIES OF A BOOK, slave by slave.
use Rattle.std.proofs.Common.{◌≡◌, List, [], ◌∷◌, map}
use Rattle.gateway_run.specs.of_run_record.AcceptedMails.{Accepted, AllNoted, emergencies_of}
use Rattle.promised_run.specs.Emergencies.{AllHaveEmergencies}
use Rattle.gateway_run.specs.of_run_book.declared.book.Emergency.{Emergency}
use Rattle.gateway_run.specs.of_run_book.declared.book.SlaveBook.{SlaveBook}
use Rattle.gateway_run.specs.of_run_notes.Heard.{emergencies_in}

heads : (x y : List Emergency) (xs ys : List (List Emergency)) → x ∷ xs ≡ y ∷ ys → x ≡ y
heads x y xs ys e = cc

rests : (x y : List Emergency) (xs ys : List (List Emergency)) → x ∷ xs ≡ y ∷ ys → xs ≡ ys
rests x y xs ys e = cc

none : (x : List Emergency) (xs : List (List Emergency)) → [] ≡ x ∷ xs → ⊥
none x xs e = absurd (cc)

more : (x : List Emergency) (xs : List (List Emergency)) → x ∷ xs ≡ [] → ⊥
more x xs e = absurd (cc)

pub all_emergencies : (mails : List (List Accepted)) (rows : List SlaveBook) → AllNoted mails (emergencies_in rows) → AllHaveEmergencies mails rows
all_emergencies [] [] e = tt
all_emergencies [] (row ∷ rows) e = absurd (more row.emergencies (emergencies_in rows) e)
all_emergencies (ms ∷ mails) [] e = absurd (none (emergencies_of ms) (map emergencies_of mails) e)
all_emergencies (ms ∷ mails) (row ∷ rows) e = (
  heads row.emergencies (emergencies_of ms) (emergencies_in rows) (map emergencies_of mails) e,
  all_emergencies mails rows (rests row.emergencies (emergencies_of ms) (emergencies_in rows) (map emergencies_of mails) e),
)

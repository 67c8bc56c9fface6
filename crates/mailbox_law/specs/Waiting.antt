-- The server of a run of one link: it keeps the mails that it takes, answers none, and has mails waiting in order.
use Rattle.std.specs.Prelude.{ℕ, ◌-◌, ◌≤◌, ◌++◌, length, Option, Some, None, List, [], ◌∷◌, map, Ok, Err}
use Rattle.mailbox_master.specs.of_mailbox_mail.declared.mail.Mail.{Mail}
use Rattle.mailbox_master.specs.of_link_model.Slave.{Server}
use Rattle.mailbox_master.specs.of_link_mails.Body.{Body, uncounted}

-- mails without their counters, as a link carries them
abbrev pub bodies_of : List Mail → List Body
bodies_of ms = map (λ m. Ok (uncounted m)) ms

-- the first that waits
abbrev pub first_of : {A : Type 0} → List A → Option A
first_of [] = None
first_of (x ∷ xs) = Some x

-- those that wait behind the first
abbrev pub others_of : {A : Type 0} → List A → List A
others_of [] = []
others_of (x ∷ xs) = xs

-- as a server of the model it is the list of what waits
abbrev pub keeper : Server Body (List Body)
keeper = record { take = λ waiting body. waiting; next = first_of; rest = others_of }

-- what a contract sees of it: the mails taken, how many more it can take, the most octets of a mail that waits, and the
-- mails waiting
pub record Kept : Type 0 where
  pub taken : List Mail
  pub spare : ℕ
  pub room : ℕ
  pub waiting : List Mail

-- behind a mail that it took; one that does not read leaves nothing
abbrev pub keeps : Kept → Body → Kept
keeps k (Ok m) = record k { taken = k.taken ++ (m ∷ []); spare = k.spare - 1 }
keeps k (Err fault) = k

-- without the first mail that waits
abbrev pub gives : Kept → Kept
gives k = record k { waiting = others_of k.waiting }

-- a mail has at most so many octets
abbrev pub HasRoom : ℕ → Mail → Type 0
HasRoom room m = length m.body.items ≤ room

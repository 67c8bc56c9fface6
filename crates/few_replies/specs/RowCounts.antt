-- HOW MANY MAILS ROWS HAVE, by what each of their services takes at most.
use Rattle.std.specs.Prelude.{◌≡◌, ℕ, ◌+◌, ◌≤◌, true, List, length, sum_by}
use Rattle.slave_parts.specs.of_exchange_model.Exchange.{Exchange, after}
use Rattle.slave_parts.specs.of_exchange_model.Rows.{Row, told_all, heard_all}
use Rattle.few_replies.specs.Counts.{mails_between}

-- SERVICES ARE COUNTED by what no service changes of a server, as the greatest sizes of its entries: each takes so many mails at most
pub record AreCounted {V A M Q R K : Type 0} (x : Exchange V A M Q R) (shape : V → K) (count : K → Q → ℕ) : Type 0 where
  pub within : (v : V) (q : Q) → x.ready v ≡ true → x.speech.valid q ≡ true → mails_between x v q ≤ count (shape v) q
  pub stays : (v : V) (q : Q) → x.ready v ≡ true → x.speech.valid q ≡ true → shape (after x.serve v (x.full v q)) ≡ shape v

-- the mails of rows, told and heard
abbrev pub rows_mails : {M Q R : Type 0} → List (Row M Q R) → ℕ
rows_mails rs = length (told_all rs) + length (heard_all rs)

-- what their services count together
abbrev pub rows_count : {M Q R : Type 0} → (Q → ℕ) → List (Row M Q R) → ℕ
rows_count count rs = sum_by (λ r. count r.service) rs

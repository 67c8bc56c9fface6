-- WHAT WAS HEARD for a mail that is passed on, by how far it has come.
use Rattle.std.specs.Prelude.{◌≡◌, ◌≢◌, ◌⊎◌, Bool, true, false, Option, Some, List, []}
use Rattle.slave_parts.specs.of_exchange_model.Exchange.{Exchange, Speech, given, plain}
use Rattle.slave_parts.specs.of_exchange_model.Rows.{Row}
use Rattle.slave_parts.specs.of_life_model.Lives.{Era}
use Rattle.slave_parts.specs.of_segment_model.Ends.{Passing}
use Rattle.slave_parts.specs.of_serving_model.Passing.{ends_told}

-- no reply, while its slave isn't known to have answered; or replies, of which others follow the last
abbrev pub HeardBy : {M : Type 0} → (M → Bool) → (M → Bool) → Passing → List M → Type 0
HeardBy emission more Passing.Waiting hs = plain emission hs ≡ []
HeardBy emission more Passing.Sent hs = plain emission hs ≡ []
HeardBy emission more Passing.Boxed hs = plain emission hs ≡ []
HeardBy emission more Passing.Served hs = plain emission hs ≡ []
HeardBy emission more Passing.Answered hs = (plain emission hs ≢ []) × (ends_told more (plain emission hs) ≡ false)

-- a row that passes a mail on, which has come so far
pub record IsPassedBy {M Q R : Type 0} (x : Speech M Q R) (more : M → Bool) (passed : Q → Bool) (p : Passing) (now : Option (Row M Q R)) : Type 0 where
  pub row : Row M Q R
  pub is : now ≡ Some row
  pub passes : passed row.service ≡ true
  pub heard : HeardBy x.emission more p row.heard

-- WHILE A MAIL THAT IS PASSED ON ISN'T OVER it is the newest row of its epoch
abbrev pub RowPasses : {M Q R : Type 0} → Speech M Q R → (M → Bool) → (Q → Bool) → Option Passing → Option (Row M Q R) → Type 0
RowPasses x more passed passing now = (p : Passing) → passing ≡ Some p → IsPassedBy x more passed p now

-- of an epoch
abbrev pub EraPasses : {M Q R : Type 0} → Speech M Q R → (M → Bool) → (Q → Bool) → Era M Q R → Type 0
EraPasses x more passed e = RowPasses x more passed e.passing e.side.now

-- A SERVICE'S LAST REPLY TELLS that it is the last: to all its mails there is no reply, or all replies go on but the last
abbrev pub LastTold : {V A M Q R : Type 0} → Exchange V A M Q R → (M → Bool) → Q → Type 0
LastTold {V} x more q = (v : V) → x.ready v ≡ true → (plain x.speech.emission (given x.serve v (x.full v q)) ≡ []) ⊎ (ends_told more (plain x.speech.emission (given x.serve v (x.full v q))) ≡ true)

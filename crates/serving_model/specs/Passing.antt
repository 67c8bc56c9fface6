-- When a mail that is passed on is over, by the contents of its replies.
use Rattle.std.specs.Prelude.{◌≡◌, ◌⊎◌, Bool, true, false, not, if◌then◌else◌, Option, List, [], ◌∷◌}
use Rattle.state_model.specs.of_exchange_model.Exchange.{Exchange, plain}
use Rattle.state_model.specs.of_exchange_model.Rows.{Row}
use Rattle.serving_model.specs.Tagged.{Tagged, Asked, Rowed, untag, is_own, ideal}

-- all of these mails go on but the last: `more` tells that a mail goes on
abbrev pub ends_told : {M : Type 0} → (M → Bool) → List M → Bool
ends_told more [] = false
ends_told more (m ∷ []) = not (more m)
ends_told more (m ∷ (n ∷ ms)) = if more m then ends_told more (n ∷ ms) else false

-- A SERVER'S LAST REPLY TELLS that it is the last: to each mail there is no reply, or all replies go on but the last
abbrev pub LastTells : {V M Q R : Type 0} → Exchange V V M Q R → (M → Bool) → Type 0
LastTells {V} {M} x more = (v : V) (m : M) → x.ready v ≡ true → (plain x.speech.emission (x.serve v m).1 ≡ []) ⊎ (ends_told more (plain x.speech.emission (x.serve v m).1) ≡ true)

-- THE ROW OF A MAIL THAT IS PASSED ON and answered is over: all replies of the server's step were heard in it, in order
pub record PassedWhole {V M Q R : Type 0} (x : Exchange V V M Q R) (more : M → Bool) (w : Rowed V M Q) (m : M) (r : Row (Tagged M Q) (Asked M Q) (Option R)) : Type 0 where
  pub heard : untag (plain (λ t. is_own t.meant) r.heard) ≡ plain x.speech.emission (x.serve (ideal x w) m).1
  -- and the contents of the last tell that it is
  pub told : ends_told more (untag (plain (λ t. is_own t.meant) r.heard)) ≡ true

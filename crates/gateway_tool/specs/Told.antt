-- What a port tells.
use Rattle.std.specs.Prelude.{◌≡◌, ℕ, Bool, List, ◌++◌, Option, Some, None}
use Rattle.gateway_core.specs.of_ec_outside.Port.{HeardGram}
use Rattle.gateway_core.specs.of_ec_outside.declared.port.SentGram.{SentGram}

-- the datagrams heard and sent so far, where they are told, whether the port ended, and its faults
pub record Told : Type 0 where
  pub heard : Option (List HeardGram)
  pub sent : Option (List SentGram)
  pub over : Bool
  pub faults : ℕ

-- what a port tells of these
abbrev pub told : {Q : Type 0} → (Q → Option (List HeardGram)) → (Q → Option (List SentGram)) → (Q → Bool) → (Q → ℕ) → Q → Told
told heard sent over faults port = record { heard = heard port; sent = sent port; over = over port; faults = faults port }

-- these stand in a list besides, in order, where it is told
abbrev pub Adds : {A : Type 0} → Option (List A) → Option (List A) → List A → Type 0
Adds None new more = Unit {0}
Adds (Some old) new more = new ≡ Some (old ++ more)

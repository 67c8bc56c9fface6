-- WHAT SERVICES COUNT, of which each takes so many mails at most; a state service has its control word.
use Rattle.std.specs.Prelude.{ℕ, List, sum_by}
use Rattle.slave_parts.specs.of_state_model.Stated.{Service}

-- one service
abbrev pub service_count : {Q : Type 0} → (Q → ℕ) → Service Q → ℕ
service_count count (Service.Mails q) = count q
service_count count (Service.State target) = 1

-- all of them
abbrev pub services_count : {Q : Type 0} → (Q → ℕ) → List (Service Q) → ℕ
services_count count qs = sum_by (λ q. service_count count q) qs

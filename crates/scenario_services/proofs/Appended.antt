-- Rows that are appended as they are read.
use Rattle.std.proofs.Common.{◌≡◌, List, [], ◌∷◌, ◌++◌, Result, Ok, Err, IfOk, refl, sym, ap}
use Rattle.std.specs.Result.{result_unwrap_or}
use Rattle.scenario_values.specs.of_scenario_keys.declared.refusal.Refusal.{Refusal}
use Rattle.scenario_values.specs.of_scenario_keys.declared.refusal.Stop.{Stop}
use Rattle.scenario_values.specs.of_scenario_keys.declared.refusal.Stop.TheVariants as stops
use Rattle.scenario_values.specs.of_scenario_keys.Reading.{◌>>=◌, Fails}

-- the row that was appended
pub appended : {Y : Type 0} (P : Y → Type 0) (read : Result Y Refusal) (old new : List Y) → (read >>= λ y. Ok (old ++ y ∷ [])) ≡ Ok new → IfOk read P
    → (y : Y) × (read ≡ Ok y) × P y × (new ≡ old ++ y ∷ [])
appended P (Ok y) old new h p = (y, refl, p, sym (ap (λ (r : Result _ Refusal). result_unwrap_or r []) h))
appended P (Err e) old new h p = cc h

abbrev err_or : {A : Type 0} → Refusal → Result A Refusal → Refusal
err_or d (Ok x) = d
err_or d (Err e) = e

-- where none was appended, reading stopped
pub stopped : {Y : Type 0} (read : Result Y Refusal) (old : List Y) (e : Stop) → Fails e (read >>= λ y. Ok (old ++ y ∷ [])) → Fails e read
stopped read old stops.NoMemory h = tt
stopped (Ok y) old (stops.Refused e) h = cc h
stopped (Err d) old (stops.Refused e) h = ap Err (ap (err_or d) h)

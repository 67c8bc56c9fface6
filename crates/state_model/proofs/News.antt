-- Of the news of a slave its statuses alone complete a state service.
use Rattle.std.proofs.Common.{◌≡◌, ℕ, ◌==◌, Option, Some, None, List, [], ◌∷◌, refl, ap, if◌then◌else◌}
use Rattle.segment_model.specs.Record.{News}
use Rattle.segment_model.specs.Ends.{Outcome, state_ends}
use Rattle.state_model.specs.Promises.{statuses}

pub by_statuses : {M : Type 0} (R : Type 0) (target : ℕ) (refusal : Option ℕ) (ns : List (News M)) → state_ends {R = R} target refusal ns ≡ state_ends target refusal (statuses ns)
by_statuses R target None [] = refl
by_statuses R target (Some code) [] = refl
by_statuses R target None (News.Status state None ∷ ns) = ap (λ e. if state == target then Some Outcome.Reached else e) (by_statuses R target None ns)
by_statuses R target (Some code) (News.Status state None ∷ ns) = refl
by_statuses R target None (News.Status state (Some first) ∷ ns) = by_statuses R target (Some first) ns
by_statuses R target (Some code) (News.Status state (Some first) ∷ ns) = by_statuses R target (Some code) ns
by_statuses R target None (News.Told m ∷ ns) = by_statuses R target None ns
by_statuses R target (Some code) (News.Told m ∷ ns) = by_statuses R target (Some code) ns
by_statuses R target None (News.Written ∷ ns) = by_statuses R target None ns
by_statuses R target (Some code) (News.Written ∷ ns) = by_statuses R target (Some code) ns
by_statuses R target None (News.Heard m ∷ ns) = by_statuses R target None ns
by_statuses R target (Some code) (News.Heard m ∷ ns) = by_statuses R target (Some code) ns
by_statuses R target None (News.NothingRead ∷ ns) = by_statuses R target None ns
by_statuses R target (Some code) (News.NothingRead ∷ ns) = by_statuses R target (Some code) ns
by_statuses R target None (News.BoxFull full ∷ ns) = by_statuses R target None ns
by_statuses R target (Some code) (News.BoxFull full ∷ ns) = by_statuses R target (Some code) ns

use Rattle.std.proofs.Common.{◌≡◌, ℕ, ◌<◌, get_or, true}
use Rattle.block_pool.specs.Chained.{Chained}
use Rattle.block_pool.proofs.pool.free_place.Given as goal

abbrev pub invariant-loop-place : goal.invariant-loop-place
invariant-loop-place l = (k : ℕ) (d : Chained) → k < l.place → (get_or l.chains k d).live ≡ true

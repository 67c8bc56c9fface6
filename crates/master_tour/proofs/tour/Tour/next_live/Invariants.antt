use Rattle.std.proofs.Common.{◌≡◌, ◌≤◌, ◌<◌, ℕ, false, length}
use Rattle.master_tour.specs.Goes.{is_live, holds_at}
use Rattle.master_tour.specs.Orders.{start_of, place_in}
use Rattle.master_tour.proofs.tour.Tour.next_live.Given as goal

abbrev pub invariant-loop-k : goal.invariant-loop-k
invariant-loop-k g l = (j : ℕ) → l.self.passed ≤ j → j < l.k → holds_at (λ s. is_live s.stand) l.self.stops.items (place_in (start_of (length l.self.stops.items) l.self.last) (length l.self.stops.items) j) ≡ false

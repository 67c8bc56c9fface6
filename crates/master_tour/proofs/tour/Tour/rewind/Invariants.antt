use Rattle.std.proofs.Common.{◌≡◌, false}
use Rattle.master_tour.specs.Walks.{Walked}
use Rattle.master_tour.proofs.tour.Tour.rewind.Given as goal

abbrev pub invariant-loop-i : goal.invariant-loop-i
invariant-loop-i g l = Walked (λ s t. (t.side ≡ s.side) × (t.stand ≡ s.stand) × (t.place ≡ s.place) × (t.start ≡ s.start) × (t.spare ≡ s.spare) × (t.under ≡ false)) l.i l.initial.self.stops.items l.self.stops.items × (l.self.again ≡ l.initial.self.again) × (l.self.visit ≡ l.initial.self.visit) × (l.self.opened ≡ l.initial.self.opened) × (l.self.last ≡ l.initial.self.last) × (l.self.missed ≡ l.initial.self.missed) × (l.self.retry ≡ l.initial.self.retry)

use Rattle.std.proofs.Common.{◌≡◌}
use Rattle.master_tour.specs.Cursor.{IsAtOne}
use Rattle.master_tour.proofs.cursor.Cursor.seek.Given as goal

abbrev pub invariant-loop-number : goal.invariant-loop-number
invariant-loop-number l = IsAtOne l.octets l.self.number l.self.part × (l.self.number ≡ l.number)

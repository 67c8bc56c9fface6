use Rattle.std.proofs.Common.{◌≡◌, drop}
use Rattle.run_record.specs.Session.{are_at_rest, session_rows}
use Rattle.run_notes.specs.Slaves.{slave_rows}
use Rattle.run_record.proofs.session.Session.are_at_rest.Given as goal

abbrev pub invariant-loop-at : goal.invariant-loop-at
invariant-loop-at l = are_at_rest (session_rows l.self) ≡ are_at_rest (slave_rows l.self.recover (drop l.at l.self.ring.nodes) (drop l.at l.self.notes))

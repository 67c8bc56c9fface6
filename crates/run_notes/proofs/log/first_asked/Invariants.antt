use Rattle.std.proofs.Common.{◌≡◌, [], replicate}
use Rattle.run_notes.proofs.log.first_asked.Given as goal

abbrev pub invariant-loop : goal.invariant-loop
invariant-loop l = l.asked ≡ replicate l.counter []

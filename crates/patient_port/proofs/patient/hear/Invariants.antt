use Rattle.std.proofs.Common.{◌≡◌, []}
use Rattle.patient_port.proofs.patient.hear.Given as goal

abbrev pub invariant-loop : goal.invariant-loop
invariant-loop g l = l.into.items ≡ []

use Rattle.std.proofs.Common.{arith}
use Rattle.ecmbx_call.proofs.Audits.{packets_few}
use Rattle.ecmbx_call.proofs.auditing.audit_capture.Goals as goal

pub audit-requires-clause-few : goal.audit-requires-clause-few
audit-requires-clause-few g c = omega (arith, packets_few c.args.octets.now c.args.capture.now (λ i. (c.type_inv.octets i).fits) c.requires.read, c.requires.few)

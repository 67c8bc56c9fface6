use Rattle.audit_law.proofs.Once.{once}
use Rattle.audit_law.proofs.laws.opening_law.Goals as goal

pub returns : goal.returns
returns c = λ out_len in_len ts steps o p. once out_len in_len ts steps o p

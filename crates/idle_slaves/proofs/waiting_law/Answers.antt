use Rattle.idle_slaves.proofs.Waiting.{spent, idle}
use Rattle.idle_slaves.proofs.waiting_law.Goals as goal

pub returns-clause-spent : goal.returns-clause-spent
returns-clause-spent g c = λ v w q m t k le. spent v w q m t k le

pub returns-clause-idle : goal.returns-clause-idle
returns-clause-idle g c = λ v w q m t x k le may vain. idle v w q m t x k le may vain

use Rattle.seen_slaves.proofs.SeenRows.{state_real}
use Rattle.seen_slaves.proofs.seen_steps.state_seen.Goals as goal

pub returns : goal.returns
returns g c = λ x s k w. state_real x s k w

use Rattle.seen_slaves.proofs.Alone.{alone_as}
use Rattle.seen_slaves.proofs.seen_steps.alone_seen.Goals as goal

pub returns : goal.returns
returns g c = λ x s table hand n k f server u processor tell state carries tells same states. alone_as x s table hand n k f server u processor tell state carries tells same states

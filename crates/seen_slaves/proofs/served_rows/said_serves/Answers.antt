use Rattle.seen_slaves.proofs.ServedSaid.{serves_said}
use Rattle.seen_slaves.proofs.served_rows.said_serves.Goals as goal

pub returns : goal.returns
returns c = λ lens recover retry paces first fs missed ws silent new led. serves_said lens silent recover retry paces first fs missed ws new led

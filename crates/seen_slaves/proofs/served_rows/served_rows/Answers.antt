use Rattle.seen_slaves.proofs.Rows.{serves_pass}
use Rattle.seen_slaves.proofs.served_rows.served_rows.Goals as goal

pub returns : goal.returns
returns c = λ lens recover retry paces first fs missed ws new led. serves_pass lens recover retry paces first fs missed ws new led

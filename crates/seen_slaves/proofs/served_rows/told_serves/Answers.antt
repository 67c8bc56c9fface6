use Rattle.seen_slaves.proofs.Turns.{serves_told}
use Rattle.seen_slaves.proofs.served_rows.told_serves.Goals as goal

pub returns : goal.returns
returns c = λ lens recover retry paces first fs missed ws new led back. serves_told c.seen_is.ensures lens recover retry paces first fs missed ws new led back

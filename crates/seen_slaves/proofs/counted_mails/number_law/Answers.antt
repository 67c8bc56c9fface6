use Rattle.seen_slaves.proofs.Numbers.{told_by_number}
use Rattle.seen_slaves.proofs.counted_mails.number_law.Goals as goal

pub returns : goal.returns
returns c = λ p boot station from e left done is. told_by_number p boot station from e left done is

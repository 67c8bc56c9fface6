use Rattle.seen_slaves.proofs.CountedRows.{rows_counted}
use Rattle.seen_slaves.proofs.counted_mails.rows_law.Goals as goal

pub returns : goal.returns
returns c = λ p boot station v qs. rows_counted p boot station v qs

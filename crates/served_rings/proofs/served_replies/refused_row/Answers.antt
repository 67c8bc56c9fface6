use Rattle.served_rings.proofs.Rows.{counts_one, replies_one}
use Rattle.served_rings.proofs.served_replies.refused_row.Goals as goal

pub returns-clause-replies : goal.returns-clause-replies
returns-clause-replies c = λ p boot station v m none kind. replies_one p boot station v m none kind

pub returns-clause-counts : goal.returns-clause-counts
returns-clause-counts c = λ p boot station v m none kind. counts_one p boot station v m none kind

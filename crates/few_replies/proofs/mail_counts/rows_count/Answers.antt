use Rattle.few_replies.proofs.OfRows.{rows_within}
use Rattle.few_replies.proofs.mail_counts.rows_count.Goals as goal

pub returns : goal.returns
returns g c = λ x shape count law counted v front last now held taken accepted ready at. rows_within x law shape count counted v front last now held taken accepted ready at

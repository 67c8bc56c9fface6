use Rattle.few_replies.proofs.OfEoe.{eoe_within, packet_within}
use Rattle.few_replies.proofs.mail_counts.eoe_counts.Goals as goal

pub returns : goal.returns
returns g c = record {
  between = λ o areas sound sized v q ready valid. eoe_within o sound areas sized v q ready valid;
  fragments = λ room frame octets wide. packet_within room frame octets wide;
}

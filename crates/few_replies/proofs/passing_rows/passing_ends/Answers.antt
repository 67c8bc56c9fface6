use Rattle.few_replies.proofs.Heard.{ends}
use Rattle.few_replies.proofs.passing_rows.passing_ends.Goals as goal

pub returns : goal.returns
returns g c = λ x more q last v ready hs all h. ends x more q last v ready hs all h

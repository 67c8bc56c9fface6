use Rattle.std.proofs.Common.{ap, ◌∙◌}
use Rattle.foe_client.specs.Talk.{areas_of, later}
use Rattle.foe_client.proofs.Sends.{starts_read}
use Rattle.foe_client.proofs.client.FoeClient.start_read.Goals as goal

pub returns-clause-mails : goal.returns-clause-mails
returns-clause-mails c = λ hs. ap (λ v. later v hs) c.begin.ensures ∙ starts_read (areas_of c.args.self.now) c.args.pass c.args.name.now hs

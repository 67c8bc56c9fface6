use Rattle.std.proofs.Common.{ap, ◌∙◌}
use Rattle.coe_client.specs.Talk.{later}
use Rattle.coe_client.proofs.Sends.{starts_planned}
use Rattle.coe_client.proofs.client.CoeClient.start.Goals as goal

pub returns-clause-mails : goal.returns-clause-mails
returns-clause-mails c = λ hs. ap (λ v. later v hs) c.begin_service.ensures ∙ starts_planned c.args.self.now.room c.args.service.now hs

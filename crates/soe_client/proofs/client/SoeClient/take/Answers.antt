use Rattle.std.proofs.Common.{sym, subst}
use Rattle.soe_parts.specs.of_protocol_models.SoeOctets.{soe_mail_heard}
use Rattle.soe_client.specs.Hear.{Heard, TookIs}
use Rattle.soe_client.proofs.TookIs.{took_is}
use Rattle.soe_client.proofs.client.SoeClient.take.Goals as goal

pub returns : goal.returns
returns c =
    subst (λ (h : Heard). TookIs h.0 c.args.self.now (soe_mail_heard c.args.mail.now) h.1) (sym c.hear_mail.ensures) (took_is c.args.self.now (soe_mail_heard c.args.mail.now))

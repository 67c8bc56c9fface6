use Rattle.std.proofs.Common.{ap}
use Rattle.protocol_models.specs.of_mailbox_mail.declared.mail.Kind.TheVariants.{CoE}
use Rattle.protocol_models.proofs.of_coe_codec.Only.{read-only}
use Rattle.protocol_models.specs.CoeMails.{mail}
use Rattle.protocol_models.specs.CoeOctets.{heard, mail_with}
use Rattle.coe_server.specs.Serving.{message_of}
use Rattle.coe_server.proofs.Gives.{given_next}
use Rattle.coe_server.proofs.server.CoeServer.next_into.Goals as goal

pub returns-then-has_message-clause-next : goal.returns-then-has_message-clause-next
returns-then-has_message-clause-next c =
    let message = message_of c.args.self.now in
    let written = c.give_message.ensures.written in
    record {
      first = mail message;
      spelled = ap (mail_with CoE) written.text;
      heard = ap (heard c.give_message.new.body.items) (read-only c.give_message.new.body.items message written.spelled);
      rest = given_next c.args.self.now c.give_message.new.self (mail message) c.give_message.ensures.first c.give_message.ensures.same;
    }

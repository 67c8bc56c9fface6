-- What the read gave is the news of the mail that it brought.
use Rattle.std.proofs.Common.{◌∙◌, refl, ap}
use Rattle.link_mails.specs.of_mailbox_mail.Mail.{mail_read}
use Rattle.link_mails.specs.of_link_model.Master.{InState}
use Rattle.mailbox_master.specs.Halves.{in_half}
use Rattle.link_mails.specs.Body.{mail_brought}
use Rattle.mailbox_master.specs.Next.{accepted_by}
use Rattle.mailbox_master.proofs.Agreement.{clear_read, got_by-accepts}
use Rattle.mailbox_master.proofs.inward.Inward+Clear.answered.Goals as goal

pub returns-clause-agrees : goal.returns-clause-agrees
returns-clause-agrees c = λ s offered accepted box a.
    let area = mail_read c.args.area.now in
    let fresh = ap accepted_by c.read_back.ensures.got ∙ got_by-accepts c.args.self.last c.args.counter area in
    clear_read (in_half InState.Clear c.args.self) (in_half InState.Clear c.read_back.result.0) s offered accepted (accepted_by c.read_back.result.1) (mail_brought c.args.counter area) refl c.read_back.ensures.half fresh box a

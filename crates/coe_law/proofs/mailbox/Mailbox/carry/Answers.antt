use Rattle.std.proofs.Common.{◌≡◌, Ok, Result, ap, ◌∙◌}
use Rattle.coe_client.specs.of_mailbox_mail.Counter.{counter_behind}
use Rattle.coe_client.specs.of_mailbox_mail.declared.mail.Mail.{Mail}
use Rattle.coe_client.specs.of_mailbox_mail.declared.mail.MailFault.{MailFault}
use Rattle.coe_law.specs.Mailboxes.{Posted}
use Rattle.coe_law.proofs.mailbox.Mailbox.carry.Goals as goal

same_mail : (r : Result Mail MailFault) (a b : Mail) → r ≡ Ok a → r ≡ Ok b → a ≡ b
same_mail r a b e f = cc

pub returns-clause-mail : goal.returns-clause-mail
returns-clause-mail c =
    let written : Mail = record c.args.mail { counter = c.next_counter-counter.result } in
    same_mail c.read.result c.in-Ok.mail written c.in-Ok.is (c.read.ensures.only written c.write.ensures.spelled)
    ∙ ap (λ n. record c.args.mail { counter = n }) (c.next_counter-counter.ensures ∙ ap (λ (m : Posted). counter_behind m.counter) c.self.view_is)

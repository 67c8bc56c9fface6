use Rattle.std.proofs.Common.{[], ap, ◌∙◌}
use Rattle.std.proofs.lemmas.Bool.{OnFalse_at}
use Rattle.master_hand.specs.Talk.{client_later}
use Rattle.master_hand.proofs.Knowing.{rest_other, rest_shown, unsent}
use Rattle.master_hand.proofs.Hands.{told_shown}
use Rattle.master_hand.proofs.Replies.{sent_awaits}
use Rattle.master_hand.proofs.hand.InHandHand.take_next.Goals as goal

pub returns-in-Goes-clause-held : goal.returns-in-Goes-clause-held
returns-in-Goes-clause-held c = λ x now h.
    told_shown c.next_mail.result c.args.self.now.course c.args.self.now.which c.args.self.now.clients c.next_mail.new.self c.next_mail.new.held x now c.next_mail.ensures.sent c.in-Goes.is h

pub returns-in-Goes-clause-awaits : goal.returns-in-Goes-clause-awaits
returns-in-Goes-clause-awaits c = λ a. sent_awaits c.next_mail.result c.args.self.now.course c.args.self.now.which c.args.self.now.clients c.next_mail.new.self c.next_mail.new.held c.next_mail.ensures.sent a

pub returns-in-Goes-clause-rest : goal.returns-in-Goes-clause-rest
returns-in-Goes-clause-rest c = λ f k x now h.
    let old = c.args.self.now in
    let same = unsent c.next_mail.result old.which old.clients c.next_mail.new.held c.next_mail.new.self f c.next_mail.ensures.sent in
    rest_shown old.course old.which c.next_mail.new.self x now c.in-Goes.is (ap (λ z. client_later old.which z []) same ∙ OnFalse_at f c.next_mail.ensures.rest) h

pub returns-in-Nothing-clause-rest : goal.returns-in-Nothing-clause-rest
returns-in-Nothing-clause-rest c = λ f k x now h. rest_other c.args.self.now.course c.args.self.now.which c.args.self.now.clients x now c.in-Nothing.is k h

use Rattle.std.proofs.Common.{sym, ◌∙◌, ap, subst, true, false}
use Rattle.master_side.specs.Due.{IsDue}
use Rattle.master_side.specs.of_link_mails.Body.{Body}
use Rattle.foe_client.specs.of_exchange_model.Exchange.{Speech}
use Rattle.master_side.specs.of_master_duty.Reply.{Reply}
use Rattle.master_hand.specs.Spoken.{Asked, is_followed}
use Rattle.master_hand.proofs.Knowing.{due_answered}
use Rattle.eoe_client.specs.of_mailbox_mail.View.{mail_seen}
use Rattle.master_hand.specs.Passed.{body_of}
use Rattle.master_hand.proofs.Hands.{emission_shown, heard_shown}
use Rattle.master_hand.specs.Shown.{awaits_reply, is_awaiting, knows}
use Rattle.master_hand.proofs.Replies.{emission_tells, emission_kept, unawaited_kept, reply_is_kept}
use Rattle.master_hand.proofs.hand.InHandHand.hear.Goals as goal

pub returns-then-hear-clause-shown : goal.returns-then-hear-clause-shown
returns-then-hear-clause-shown c = λ x frame now h.
    emission_shown c.args.self.now.course c.args.self.now.which c.args.self.now.clients (body_of (mail_seen c.args.mail.now)) x frame now (sym c.hear.ensures.emits ∙ c.if-hear.true) h

pub returns-in-Goes-clause-shown : goal.returns-in-Goes-clause-shown
returns-in-Goes-clause-shown c = λ x frame now h.
    heard_shown c.hear_reply.new.self.course c.hear_reply.new.self.which c.args.self.now.clients c.hear_reply.new.self.clients (body_of (mail_seen c.args.mail.now)) x frame now h.0 c.hear_reply.ensures.areas
    (c.hear_reply.ensures.shown frame now (sym c.hear.ensures.emits ∙ c.if-hear.false) h.1)

pub returns-then-hear-clause-tells : goal.returns-then-hear-clause-tells
returns-then-hear-clause-tells c = λ x now h a.
    let b = body_of (mail_seen c.args.mail.now) in
    emission_tells x c.args.self.now.clients.areas b true (is_followed b) h.0 (sym c.if-hear.true ∙ c.hear.ensures.emits)

pub returns-in-Goes-clause-tells : goal.returns-in-Goes-clause-tells
returns-in-Goes-clause-tells c = λ x now h a.
    let b = body_of (mail_seen c.args.mail.now) in
    c.hear_reply.ensures.tells a ∙ emission_tells x c.args.self.now.clients.areas b false (is_followed b) h.0 (sym c.if-hear.false ∙ c.hear.ensures.emits)

pub returns-in-Goes-clause-knows : goal.returns-in-Goes-clause-knows
returns-in-Goes-clause-knows c = λ x now h k d.
    let b = body_of (mail_seen c.args.mail.now) in
    c.hear_reply.ensures.knows now (sym c.hear.ensures.emits ∙ c.if-hear.false) h.1 k (subst (λ (y : Speech Body Asked Reply). IsDue y now b) h.0 d)

pub returns-in-Answered-clause-knows : goal.returns-in-Answered-clause-knows
returns-in-Answered-clause-knows c = λ x now h k d.
    let b = body_of (mail_seen c.args.mail.now) in
    absurd (due_answered c.args.self.now.course c.args.self.now.which c.args.self.now.clients b x now c.in-Answered.is (ap (λ (y : Speech Body Asked Reply). y.emission b) h.0 ∙ sym c.hear.ensures.emits ∙ c.if-hear.false) h d)

pub returns-in-Goes-clause-sure : goal.returns-in-Goes-clause-sure
returns-in-Goes-clause-sure c = λ k. c.hear_reply.ensures.sure k

pub returns-in-Answered-clause-sure : goal.returns-in-Answered-clause-sure
returns-in-Answered-clause-sure c = λ k. ap (λ z. knows z) c.in-Answered.is

pub returns-then-hear-clause-replied : goal.returns-then-hear-clause-replied
returns-then-hear-clause-replied c =
    let old = c.args.self.now in
    emission_kept c.hear.new.self (awaits_reply old.course old.which old.clients) (body_of (mail_seen c.args.mail.now)) (sym c.hear.ensures.emits ∙ c.if-hear.true) c.hear.ensures.reply

pub returns-in-Goes-clause-replied : goal.returns-in-Goes-clause-replied
returns-in-Goes-clause-replied c =
    let old = c.args.self.now in
    reply_is_kept c.hear_reply.new.self.found (awaits_reply old.course old.which old.clients) (mail_seen c.args.mail.now) (sym c.hear.ensures.emits ∙ c.if-hear.false) (c.hear_reply.ensures.reply c.hear.ensures.reply)

pub returns-in-Answered-clause-replied : goal.returns-in-Answered-clause-replied
returns-in-Answered-clause-replied c =
    let old = c.args.self.now in
    unawaited_kept c.hear.new.self old.course old.which old.clients (body_of (mail_seen c.args.mail.now)) (ap (λ z. is_awaiting z) c.in-Answered.is) c.hear.ensures.reply

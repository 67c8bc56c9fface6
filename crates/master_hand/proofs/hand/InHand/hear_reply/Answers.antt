use Rattle.std.proofs.Common.{[], ◌∷◌, sym, subst, ap, ◌∙◌}
use Rattle.std.specs.Prelude.{option_map}
use Rattle.foe_client.specs.of_exchange_model.Rows.{row_heard}
use Rattle.eoe_client.specs.of_mailbox_mail.declared.mail.Mail.{Mail}
use Rattle.eoe_client.specs.of_mailbox_mail.View.{mail_seen}
use Rattle.master_hand.specs.Passed.{body_of}
use Rattle.master_hand.specs.Shown.{HandShows, awaits_reply, knows}
use Rattle.master_hand.specs.Spoken.{hand_speech}
use Rattle.master_hand.specs.Talk.{ClientTook}
use Rattle.master_hand.specs.declared.course.Course.{Course}
use Rattle.master_hand.proofs.Hands.{took_shown}
use Rattle.master_side.specs.declared.hand.Heard.{Heard}
use Rattle.master_side.specs.Passing.{goes_on}
use Rattle.master_hand.proofs.Knowing.{due_knows, sure_before}
use Rattle.master_hand.specs.Replied.{kept_where}
use Rattle.master_hand.proofs.Replies.{took_tells, took_awaits, took_replies}
use Rattle.master_hand.proofs.hand.InHand.hear_reply.Goals as goal

pub returns-clause-shown : goal.returns-clause-shown
returns-clause-shown c = λ frame now e h.
    let old = c.args.self.now in
    let new = c.take-took.new.self in
    let b = body_of (mail_seen c.args.mail.now) in
    let took = subst (λ (m : Mail). ClientTook c.take-took.result old.which old.clients (body_of m) new) c.keep.ensures.mail c.take-took.ensures.took in
    subst (λ (k : Course). HandShows k old.which new (option_map (λ r. row_heard (hand_speech old.clients.areas) frame (b ∷ []) r) now)) (sym c.course_behind-self.ensures)
    (took_shown c.is_left-left.result c.take-took.result old.course old.which old.clients new b frame now took c.is_left-left.ensures.none c.take-took.ensures.areas c.requires.awaits e h)

pub returns-clause-tells : goal.returns-clause-tells
returns-clause-tells c = λ a.
    let old = c.args.self.now in
    let new = c.take-took.new.self in
    let b = body_of (mail_seen c.args.mail.now) in
    let took = subst (λ (m : Mail). ClientTook c.take-took.result old.which old.clients (body_of m) new) c.keep.ensures.mail c.take-took.ensures.took in
    c.heard_of.ensures ∙ took_tells c.take-took.result old.course old.which old.clients new b a took

pub returns-clause-awaits : goal.returns-clause-awaits
returns-clause-awaits c = λ a on.
    let old = c.args.self.now in
    let new = c.take-took.new.self in
    let b = body_of (mail_seen c.args.mail.now) in
    let took = subst (λ (m : Mail). ClientTook c.take-took.result old.which old.clients (body_of m) new) c.keep.ensures.mail c.take-took.ensures.took in
    ap (λ k. awaits_reply k old.which new) c.course_behind-self.ensures
    ∙ took_awaits c.take-took.result c.is_left-left.result old.course old.which old.clients new b a took (ap (λ (h : Heard). goes_on h) (sym c.heard_of.ensures) ∙ on)

pub returns-clause-knows : goal.returns-clause-knows
returns-clause-knows c = λ now e h k d.
    let old = c.args.self.now in
    let new = c.take-took.new.self in
    let b = body_of (mail_seen c.args.mail.now) in
    let took = subst (λ (m : Mail). ClientTook c.take-took.result old.which old.clients (body_of m) new) c.keep.ensures.mail c.take-took.ensures.took in
    ap (λ z. knows z) c.course_behind-self.ensures ∙ due_knows c.is_left-left.result c.take-took.result old.course old.which old.clients new b now c.is_left-left.ensures.all c.requires.awaits k e h d took

pub returns-clause-sure : goal.returns-clause-sure
returns-clause-sure c = λ k. sure_before c.is_left-left.result c.take-took.result c.args.self.now.course (λ e. (c.is_left-left.ensures.none e).0) (sym (ap (λ z. knows z) c.course_behind-self.ensures) ∙ k)

pub returns-clause-reply : goal.returns-clause-reply
returns-clause-reply c = λ n.
    let old = c.args.self.now in
    let new = c.take-took.new.self in
    let b = body_of (mail_seen c.args.mail.now) in
    let took = subst (λ (m : Mail). ClientTook c.take-took.result old.which old.clients (body_of m) new) c.keep.ensures.mail c.take-took.ensures.took in
    c.reply.ensures.reply (c.keep.ensures.reply n)
    ∙ (λ i. kept_where (took_replies c.take-took.result old.course old.which old.clients new b c.requires.awaits took i) (c.keep.ensures.mail i))

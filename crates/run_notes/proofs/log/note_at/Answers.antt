use Rattle.std.proofs.Common.{[], ◌∷◌, refl, sym, subst}
use Rattle.std.proofs.lemmas.Result.{on_ok_weaker}
use Rattle.run_notes.specs.Reports.{Reports}
use Rattle.run_notes.specs.declared.notes.Notes.{Notes}
use Rattle.run_notes.proofs.Reports.{answered_reports}
use Rattle.run_book.specs.of_master_node.declared.event.Event.{Event}
use Rattle.run_notes.specs.Handed.{GoesBy, kind_told}
use Rattle.run_notes.proofs.Handed.{answered_goes, same_goes}
use Rattle.run_notes.proofs.Times.{time_reply}
use Rattle.run_notes.specs.Times.{Goes, behind}
use Rattle.run_notes.proofs.log.note_at.Goals as goal

pub returns-in_ok-reply-in-Answered-clause-told : goal.returns-in_ok-reply-in-Answered-clause-told
returns-in_ok-reply-in-Answered-clause-told c =
    on_ok_weaker c.answered.result (λ is. λ a r. subst (λ (n : Notes). Reports a n) (sym is) (answered_reports a c.args.notes.now r c.in_ok-reply-in-Answered.reply c.args.moment.frame)) c.answered.ensures.is

pub returns-in_ok-reply-in-Answered-clause-mails : goal.returns-in_ok-reply-in-Answered-clause-mails
returns-in_ok-reply-in-Answered-clause-mails c =
    let n = c.args.notes.now in
    let frame = c.args.moment.frame in
    let kind = c.in-Answered.kind in
    let reply = c.in_ok-reply-in-Answered.reply in
    on_ok_weaker c.answered.result
    (λ is. subst (λ (e : Event). GoesBy frame (kind_told e) n c.answered.new.self) (sym c.in-Answered.is)
    (subst (λ (z : Notes). GoesBy frame (kind ∷ []) n z) (sym is) (answered_goes frame n kind reply c.in_ok-reply-in-Answered.ensures.kind c.in_ok-reply-in-Answered.ensures.value)))
    c.answered.ensures.is

pub returns-in-Began-clause-mails : goal.returns-in-Began-clause-mails
returns-in-Began-clause-mails c =
    subst (λ (e : Event). GoesBy c.args.moment.frame (kind_told e) c.args.notes.now c.args.notes.now) (sym c.in-Began.is) (same_goes c.args.moment.frame c.args.notes.now c.args.notes.now refl refl refl refl refl)

pub returns-in-Opened-clause-mails : goal.returns-in-Opened-clause-mails
returns-in-Opened-clause-mails c =
    subst (λ (e : Event). GoesBy c.args.moment.frame (kind_told e) c.args.notes.now c.args.notes.now) (sym c.in-Opened.is) (same_goes c.args.moment.frame c.args.notes.now c.args.notes.now refl refl refl refl refl)

pub returns-in-Emergency-clause-mails : goal.returns-in-Emergency-clause-mails
returns-in-Emergency-clause-mails c =
    subst (λ (e : Event). GoesBy c.args.moment.frame (kind_told e) c.args.notes.now c.args.notes.now) (sym c.in-Emergency.is) (same_goes c.args.moment.frame c.args.notes.now c.args.notes.now refl refl refl refl refl)

pub returns-in-GivenUp-clause-mails : goal.returns-in-GivenUp-clause-mails
returns-in-GivenUp-clause-mails c =
    subst (λ (e : Event). GoesBy c.args.moment.frame (kind_told e) c.args.notes.now c.args.notes.now) (sym c.in-GivenUp.is) (same_goes c.args.moment.frame c.args.notes.now c.args.notes.now refl refl refl refl refl)

pub returns-in-GatewayReply-clause-mails : goal.returns-in-GatewayReply-clause-mails
returns-in-GatewayReply-clause-mails c =
    subst (λ (e : Event). GoesBy c.args.moment.frame (kind_told e) c.args.notes.now c.args.notes.now) (sym c.in-GatewayReply.is) (same_goes c.args.moment.frame c.args.notes.now c.args.notes.now refl refl refl refl refl)

pub returns-in-GatewayDone-clause-mails : goal.returns-in-GatewayDone-clause-mails
returns-in-GatewayDone-clause-mails c =
    subst (λ (e : Event). GoesBy c.args.moment.frame (kind_told e) c.args.notes.now c.args.notes.now) (sym c.in-GatewayDone.is) (same_goes c.args.moment.frame c.args.notes.now c.args.notes.now refl refl refl refl refl)

pub returns-in-Cleared-clause-mails : goal.returns-in-Cleared-clause-mails
returns-in-Cleared-clause-mails c =
    subst (λ (e : Event). GoesBy c.args.moment.frame (kind_told e) c.args.notes.now c.args.notes.now) (sym c.in-Cleared.is) (same_goes c.args.moment.frame c.args.notes.now c.args.notes.now refl refl refl refl refl)

pub returns-in_ok-reply-in-Answered-clause-time : goal.returns-in_ok-reply-in-Answered-clause-time
returns-in_ok-reply-in-Answered-clause-time c =
    let t = behind c.args.moment.frame in
    on_ok_weaker c.answered.result (λ is. subst (λ (z : Notes). Goes t t c.args.notes.now z) (sym is) (time_reply c.args.moment.frame c.args.notes.now c.in_ok-reply-in-Answered.reply)) c.answered.ensures.is

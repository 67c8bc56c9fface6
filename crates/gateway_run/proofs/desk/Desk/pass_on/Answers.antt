use Rattle.std.proofs.Common.{◌∷◌, [], List, Bool, refl, sym, ap, ◌∙◌, subst}
use Rattle.std.specs.Prelude.{Ok}
use Rattle.gateway_core.specs.of_mailbox_mail.Mail.{error_of}
use Rattle.gateway_core.specs.of_mailbox_mail.declared.mail.Mail.{Mail}
use Rattle.run_record.specs.of_run_book.declared.book.GramOut.{GramOut}
use Rattle.run_record.specs.Served.{ServingAsks}
use Rattle.run_record.specs.Session.{Asks, IsDone}
use Rattle.gateway_run.specs.Account.{owing, others}
use Rattle.gateway_run.specs.Desk.{Owes}
use Rattle.gateway_run.proofs.Accounts.{others_push}
use Rattle.gateway_run.proofs.Desks.{put_sound}
use Rattle.gateway_run.proofs.desk.Desk.pass_on.Goals as goal

pub returns-then-branch-clause-sound : goal.returns-then-branch-clause-sound
returns-then-branch-clause-sound c = λ heard o free s. put_sound heard c.args.self.now _ c.args.request refl c.in_ok-push.ensures.items s.owed o free s

pub returns-clause-sound : goal.returns-clause-sound
returns-clause-sound c = λ heard o free s. c.finish.ensures.sound heard (c.in_ok-answer.ensures.sound heard o (put_sound heard c.args.self.now _ c.args.request refl c.in_ok-push.ensures.items s.owed o free s))

pub returns-clause-passes : goal.returns-clause-passes
returns-clause-passes c = λ heard o free.
    let d = c.args.self.now in
    let r = c.args.request in
    let full = c.in_ok-ask.ensures.full in
    let none = c.if-branch.false in (
      full.0 (ap Ok none),
      subst (λ (b : Bool). Asks r.slave r.key c.args.mail.now c.args.session.now c.ask.new.self b) none c.in_ok-ask.ensures.asked,
      c.finish.ensures.requests ∙ ap (others r.key) (c.in_ok-answer.ensures.requests ∙ c.in_ok-push.ensures.items) ∙ others_push r d.requests.items free,
      subst (λ (out : List GramOut). Owes heard (owing (error_of 7) r ∷ []) d.outbox.items out) (sym c.finish.ensures.outbox)
          (subst (λ (m : Mail). Owes heard (owing m r ∷ []) d.outbox.items c.answer.new.self.outbox.items) c.error_mail.ensures (c.in_ok-answer.ensures.owes heard o)),
      subst (λ (b : Bool). ServingAsks r.slave r.key c.args.mail.now c.args.session.now c.ask.new.self b) none c.in_ok-ask.ensures.serves,
    )

pub returns-then-branch-clause-passes : goal.returns-then-branch-clause-passes
returns-then-branch-clause-passes c = λ heard o free.
    let r = c.args.request in
    let some = c.if-branch.true in (
      refl,
      subst (λ (b : Bool). Asks r.slave r.key c.args.mail.now c.args.session.now c.ask.new.self b) some c.in_ok-ask.ensures.asked,
      c.in_ok-push.ensures.items,
      refl,
      subst (λ (b : Bool). ServingAsks r.slave r.key c.args.mail.now c.args.session.now c.ask.new.self b) some c.in_ok-ask.ensures.serves,
    )

pub returns-in_err-ask-clause-busy : goal.returns-in_err-ask-clause-busy
returns-in_err-ask-clause-busy c = λ done. subst IsDone c.in_err-ask.ensures.err done

use Rattle.std.proofs.Common.{◌∷◌, [], sym, ap, ◌∙◌, subst}
use Rattle.std.proofs.lemmas.List.Elements.{All-contains}
use Rattle.gateway_core.specs.of_mailbox_mail.Mail.{error_of}
use Rattle.gateway_core.specs.of_mailbox_mail.declared.mail.Mail.{Mail}
use Rattle.gateway_run.specs.Account.{owing, others}
use Rattle.gateway_run.specs.Desk.{IsOpen, IsSound, Owes}
use Rattle.gateway_run.specs.declared.desk.Desk.{Desk}
use Rattle.gateway_run.proofs.Accounts.{waits_not, waits_no_more}
use Rattle.gateway_run.proofs.Told.{dropped_begun, dropped_waiting}
use Rattle.gateway_run.proofs.desk.Desk.drop_one.Goals as goal
use Rattle.gateway_run.proofs.desk.Desk.drop_one.Goals.{then-not-request+in_ok-answer, else-not-request}

pub returns-clause-told : goal.returns-clause-told
returns-clause-told c = λ heard s.
    let d = c.args.self.now in
    let r = c.args.request in
    let stands = All-contains (IsOpen d.gateway heard) d.requests.items r s.requests c.requires in
    elim c.if-not-request.branch [
      | then-not-request+in_ok-answer w ↦
          dropped_waiting heard d c.finish.new.self r (others r.key d.requests.items) c.if-not-request.self.outbox.items (waits_not r.begun w.if-not-request.true)
          (c.finish.ensures.sound heard (subst (IsSound heard) (sym w.self-is) (w.in_ok-answer.ensures.sound heard stands s)))
          (c.finish.ensures.requests ∙ ap (others r.key) (ap (λ (x : Desk). x.requests.items) w.self-is ∙ w.in_ok-answer.ensures.requests)) c.finish.ensures.outbox
          (subst (λ (x : Desk). Owes heard (owing (error_of 5) r ∷ []) d.outbox.items x.outbox.items) (sym w.self-is)
          (subst (λ (m : Mail). Owes heard (owing m r ∷ []) d.outbox.items w.answer.new.self.outbox.items) w.error_mail.ensures (w.in_ok-answer.ensures.owes heard stands)))
      | else-not-request w ↦
          dropped_begun heard d c.finish.new.self r (others r.key d.requests.items) (waits_no_more r.begun w.if-not-request.false) (c.finish.ensures.sound heard (subst (IsSound heard) (sym w.self-is) s))
          (c.finish.ensures.requests ∙ ap (λ (x : Desk). others r.key x.requests.items) w.self-is) (c.finish.ensures.outbox ∙ ap (λ (x : Desk). x.outbox.items) w.self-is)
    ]

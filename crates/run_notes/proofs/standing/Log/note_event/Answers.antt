use Rattle.std.proofs.Common.{sym, ap, ◌∙◌}
use Rattle.std.proofs.lemmas.Result.{on_ok_weaker}
use Rattle.run_notes.specs.Handed.{kind_told, kinds_of, told_only}
use Rattle.run_notes.proofs.Handings.{behind_as, behind_none, only_none}
use Rattle.run_notes.proofs.standing.Log.note_event.Goals as goal

pub returns-in-Answered-clause-mails : goal.returns-in-Answered-clause-mails
returns-in-Answered-clause-mails c =
    let e = c.in-Answered.is in
    let at = c.in-Answered.slave in
    on_ok_weaker c.note_slave.result
    (λ h. behind_as c.args.moment.frame (told_only at (kind_told c.args.event.now)) (λ k. kinds_of k c.args.event.now) c.args.self.now c.note_slave.new.self (λ k. ap (λ z. told_only at (kind_told z) k) e ∙ sym (ap (λ z. kinds_of k z) e)) h)
    c.note_slave.ensures.mails

pub returns-in-Cleared-clause-mails : goal.returns-in-Cleared-clause-mails
returns-in-Cleared-clause-mails c =
    let e = c.in-Cleared.is in
    let at = c.in-Cleared.slave in
    on_ok_weaker c.note_slave-in-Cleared.result
    (λ h. behind_as c.args.moment.frame (told_only at (kind_told c.args.event.now)) (λ k. kinds_of k c.args.event.now) c.args.self.now c.note_slave-in-Cleared.new.self (λ k. ap (λ z. told_only at (kind_told z) k) e ∙ only_none at k ∙ sym (ap (λ z. kinds_of k z) e)) h)
    c.note_slave-in-Cleared.ensures.mails

pub returns-in-Opened-clause-mails : goal.returns-in-Opened-clause-mails
returns-in-Opened-clause-mails c =
    let e = c.in-Opened.is in
    let at = c.in-Opened.slave in
    on_ok_weaker c.note_slave-in-Opened.result
    (λ h. behind_as c.args.moment.frame (told_only at (kind_told c.args.event.now)) (λ k. kinds_of k c.args.event.now) c.args.self.now c.note_slave-in-Opened.new.self (λ k. ap (λ z. told_only at (kind_told z) k) e ∙ only_none at k ∙ sym (ap (λ z. kinds_of k z) e)) h)
    c.note_slave-in-Opened.ensures.mails

pub returns-in-Began-clause-mails : goal.returns-in-Began-clause-mails
returns-in-Began-clause-mails c = behind_none c.args.moment.frame (λ k. kinds_of k c.args.event.now) c.args.self.now (λ k. sym (ap (λ z. kinds_of k z) c.in-Began.is))

pub returns-in-Emergency-clause-mails : goal.returns-in-Emergency-clause-mails
returns-in-Emergency-clause-mails c = behind_none c.args.moment.frame (λ k. kinds_of k c.args.event.now) c.args.self.now (λ k. sym (ap (λ z. kinds_of k z) c.in-Emergency.is))

pub returns-in-GivenUp-clause-mails : goal.returns-in-GivenUp-clause-mails
returns-in-GivenUp-clause-mails c = behind_none c.args.moment.frame (λ k. kinds_of k c.args.event.now) c.args.self.now (λ k. sym (ap (λ z. kinds_of k z) c.in-GivenUp.is))

pub returns-in-GatewayReply-clause-mails : goal.returns-in-GatewayReply-clause-mails
returns-in-GatewayReply-clause-mails c = behind_none c.args.moment.frame (λ k. kinds_of k c.args.event.now) c.args.self.now (λ k. sym (ap (λ z. kinds_of k z) c.in-GatewayReply.is))

pub returns-in-GatewayDone-clause-mails : goal.returns-in-GatewayDone-clause-mails
returns-in-GatewayDone-clause-mails c = behind_none c.args.moment.frame (λ k. kinds_of k c.args.event.now) c.args.self.now (λ k. sym (ap (λ z. kinds_of k z) c.in-GatewayDone.is))

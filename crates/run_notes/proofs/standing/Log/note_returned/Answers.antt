use Rattle.std.proofs.Common.{suc, [], ◌∙◌}
use Rattle.std.proofs.lemmas.Result.{on_ok_weaker}
use Rattle.run_notes.proofs.Handings.{mails_then, stay_services}
use Rattle.run_notes.proofs.Timings.{goes_then}
use Rattle.run_notes.specs.Stays.{StaysBeside}
use Rattle.run_notes.specs.Times.{behind, between}
use Rattle.run_notes.proofs.standing.Log.note_returned.Goals as goal

pub returns-clause-gave : goal.returns-clause-gave
returns-clause-gave c =
    on_ok_weaker c.note_replies.result
    (λ (s : StaysBeside c.note_emergencies.new.self.notes c.note_replies.new.self.notes). s.gave ∙ c.in_ok-note_emergencies.ensures.gave)
    c.note_replies.ensures.stays

pub returns-clause-heard : goal.returns-clause-heard
returns-clause-heard c =
    on_ok_weaker c.note_replies.result
    (λ (s : StaysBeside c.note_emergencies.new.self.notes c.note_replies.new.self.notes). λ us back hss x noted. s.heard ∙ c.in_ok-note_emergencies.ensures.heard us back hss x noted)
    c.note_replies.ensures.stays

pub returns-clause-told : goal.returns-clause-told
returns-clause-told c =
    on_ok_weaker c.note_replies.result (λ t. λ lens recover as' bs x p r. t lens recover as' bs x p (c.in_ok-note_emergencies.ensures.told as' r)) c.note_replies.ensures.told

pub returns-clause-rows : goal.returns-clause-rows
returns-clause-rows c =
    on_ok_weaker c.note_replies.result
    (λ (s : StaysBeside c.note_emergencies.new.self.notes c.note_replies.new.self.notes). s.rows ∙ c.in_ok-note_emergencies.ensures.rows)
    c.note_replies.ensures.stays

pub returns-clause-mails : goal.returns-clause-mails
returns-clause-mails c =
    let first = c.args.self.now.notes in
    let mid = c.note_emergencies.new.self.notes in
    on_ok_weaker c.note_replies.result
    (λ h. mails_then c.args.frame (λ k. []) first mid c.note_replies.new.self.notes (stay_services c.args.frame first mid c.in_ok-note_emergencies.ensures.services c.in_ok-note_emergencies.ensures.gave) h)
    c.note_replies.ensures.mails

pub returns-clause-time : goal.returns-clause-time
returns-clause-time c =
    let frame = c.args.frame in
    on_ok_weaker c.note_replies.result
    (λ goes. goes_then (λ k. behind frame) (λ k. behind frame) (λ k. between (suc frame)) c.args.self.now.notes c.note_emergencies.new.self.notes c.note_replies.new.self.notes c.in_ok-note_emergencies.ensures.time goes)
    c.note_replies.ensures.time

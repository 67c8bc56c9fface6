use Rattle.std.proofs.Common.{ℕ, List, ◌+◌, length, ◌∙◌, subst}
use Rattle.std.proofs.lemmas.Result.{on_ok_weaker}
use Rattle.run_notes.specs.Switched.{NotesSwitch}
use Rattle.run_notes.proofs.Kept.{slaves_more, at_log}
use Rattle.run_notes.proofs.Ways.{any_ok}
use Rattle.run_notes.proofs.Switched.{switch_at}
use Rattle.run_notes.proofs.Handings.{mails_then, stay_services}
use Rattle.run_notes.specs.Handed.{kinds_in, MailsBehind}
use Rattle.run_book.specs.of_master_node.declared.event.Event.{Event}
use Rattle.run_book.specs.of_master_node.Listing.{events_in}
use Rattle.run_notes.proofs.Timings.{times_after}
use Rattle.run_notes.specs.Times.{TimesGo, behind}
use Rattle.run_notes.proofs.standing.Log.note.Goals as goal

pub returns-clause-slaves : goal.returns-clause-slaves
returns-clause-slaves c = slaves_more c.note_events.ensures.slaves c.note_happened.ensures.slaves

pub returns-clause-gave : goal.returns-clause-gave
returns-clause-gave c = any_ok c.note_happened.result (c.note_happened.ensures.stays.gave ∙ c.in_ok-note_events.ensures.stays.gave)

pub returns-clause-heard : goal.returns-clause-heard
returns-clause-heard c = any_ok c.note_happened.result (c.note_happened.ensures.stays.heard ∙ c.in_ok-note_events.ensures.stays.heard)

pub returns-clause-told : goal.returns-clause-told
returns-clause-told c = any_ok c.note_happened.result (λ as' r. c.note_happened.ensures.told as' (c.in_ok-note_events.ensures.told as' r))

pub returns-clause-frames : goal.returns-clause-frames
returns-clause-frames c = at_log c.note_events.ensures.slaves c.note_happened.ensures.frames

pub returns-clause-switch : goal.returns-clause-switch
returns-clause-switch c =
    on_ok_weaker c.note_happened.result
    (λ notes. switch_at c.args.self.now c.note_events.new.self c.args.moment.sent c.args.master.now.lan.happened c.args.book.now c.note_happened.new.book c.note_events.ensures.slaves
    (subst (λ rows. NotesSwitch (1 + length c.note_events.new.self.ports) c.args.moment.sent rows c.args.book.now c.note_happened.new.book) c.happened.ensures notes))
    c.note_happened.ensures.switch

pub returns-clause-rows : goal.returns-clause-rows
returns-clause-rows c = any_ok c.note_happened.result (c.note_happened.ensures.stays.rows ∙ c.in_ok-note_events.ensures.stays.rows)

pub returns-clause-mails : goal.returns-clause-mails
returns-clause-mails c =
    let first = c.args.self.now in
    let mid = c.note_events.new.self in
    let kinds = λ (k : ℕ). kinds_in k (events_in c.args.master.now) in
    let told : MailsBehind c.args.moment.frame kinds first mid = subst (λ (es : List Event). MailsBehind c.args.moment.frame (λ k. kinds_in k es) first mid) c.events.ensures c.in_ok-note_events.ensures.mails in
    any_ok c.note_happened.result
    (λ at_home. mails_then c.args.moment.frame kinds first.notes mid.notes c.note_happened.new.self.notes (told at_home) (stay_services c.args.moment.frame mid.notes c.note_happened.new.self.notes c.note_happened.ensures.services c.note_happened.ensures.stays.gave))

pub returns-clause-time : goal.returns-clause-time
returns-clause-time c =
    let t = behind c.args.moment.frame in
    let mid = c.note_events.new.self in
    let happened = c.args.master.now.lan.happened in
    on_ok_weaker c.note_happened.result
    (λ times. times_after t t t c.args.moment.sent happened c.args.self.now mid c.note_happened.new.self c.args.book.now c.note_happened.new.book c.note_events.ensures.slaves c.in_ok-note_events.ensures.time (λ m. m)
    (subst (λ rows. TimesGo t t c.args.moment.sent rows c.args.book.now mid c.note_happened.new.book c.note_happened.new.self) c.happened.ensures (times t)))
    c.note_happened.ensures.time

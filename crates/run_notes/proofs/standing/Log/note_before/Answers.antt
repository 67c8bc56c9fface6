use Rattle.std.proofs.Common.{◌+◌, ◌++◌, length, ap, ◌∙◌, subst, arith}
use Rattle.std.proofs.lemmas.Result.{on_ok_weaker}
use Rattle.run_book.specs.of_master_node.Listing.{events_in}
use Rattle.run_notes.specs.Packets.{NotesBeside, beside_at, rows_by}
use Rattle.run_notes.specs.Switched.{NotesSwitch}
use Rattle.run_notes.proofs.Frees.{all_free}
use Rattle.run_notes.proofs.Kept.{slaves_more, at_log}
use Rattle.run_notes.proofs.Ways.{any_ok}
use Rattle.run_notes.proofs.Switched.{switch_at}
use Rattle.run_notes.proofs.Handings.{doubts_services, doubts_then}
use Rattle.run_notes.proofs.Timings.{goes_then, times_after}
use Rattle.run_notes.specs.Times.{Time, TimesGo, making}
use Rattle.run_notes.proofs.standing.Log.note_before.Goals as goal

pub returns-in_err-note_begun-clause-slaves : goal.returns-in_err-note_begun-clause-slaves
returns-in_err-note_begun-clause-slaves c = slaves_more c.note_scripts.ensures.slaves c.note_begun.ensures.slaves

pub returns-clause-slaves : goal.returns-clause-slaves
returns-clause-slaves c = slaves_more (slaves_more c.note_scripts.ensures.slaves c.note_begun.ensures.slaves) c.note_happened.ensures.slaves

pub returns-clause-gave : goal.returns-clause-gave
returns-clause-gave c = any_ok c.note_happened.result (c.note_happened.ensures.stays.gave ∙ c.in_ok-note_begun.ensures.stays.gave ∙ c.in_ok-note_scripts.ensures.stays.gave)

pub returns-clause-heard : goal.returns-clause-heard
returns-clause-heard c = any_ok c.note_happened.result (c.note_happened.ensures.stays.heard ∙ c.in_ok-note_begun.ensures.stays.heard ∙ c.in_ok-note_scripts.ensures.stays.heard)

pub returns-clause-frames : goal.returns-clause-frames
returns-clause-frames c = at_log (slaves_more c.note_scripts.ensures.slaves c.note_begun.ensures.slaves) c.note_happened.ensures.frames

pub returns-clause-told : goal.returns-clause-told
returns-clause-told c =
    any_ok c.note_happened.result (λ lens recover as' bs x p r. c.note_happened.ensures.told bs (c.in_ok-note_begun.ensures.told bs (c.in_ok-note_scripts.ensures.told lens recover as' bs x p r)))

-- the rows beside the scripts
pub returns-clause-begun : goal.returns-clause-begun
returns-clause-begun c =
    let frame = c.args.moment.frame in
    let old = c.args.self.now.notes in
    let mid = c.note_scripts.new.self.notes in
    let new = c.note_begun.new.self.notes in
    any_ok c.note_happened.result
    (λ lens recover as' bs x p r lists k l.
    let free = all_free bs mid (c.in_ok-note_scripts.ensures.told lens recover as' bs x p r) (events_in c.args.master.now) lists in
    let same = c.note_scripts.ensures.slaves.notes in
    let noted = subst (λ es. NotesBeside frame es mid new) c.events.ensures c.in_ok-note_begun.ensures.beside in
    ap (λ z. beside_at z k) c.note_happened.ensures.stays.rows ∙ noted free k (omega (arith, same, l)) ∙ ap (λ z. z ++ rows_by frame k (events_in c.args.master.now)) (c.in_ok-note_scripts.ensures.beside k))

pub returns-clause-switch : goal.returns-clause-switch
returns-clause-switch c =
    let slaves = slaves_more c.note_scripts.ensures.slaves c.note_begun.ensures.slaves in
    on_ok_weaker c.note_happened.result
    (λ notes. switch_at c.args.self.now c.note_begun.new.self c.args.moment.sent c.args.master.now.lan.happened c.args.book.now c.note_happened.new.book slaves
    (subst (λ rows. NotesSwitch (1 + length c.note_begun.new.self.ports) c.args.moment.sent rows c.args.book.now c.note_happened.new.book) c.happened.ensures notes))
    c.note_happened.ensures.switch

pub returns-clause-doubts : goal.returns-clause-doubts
returns-clause-doubts c =
    let first = c.args.self.now.notes in
    let scripts = c.note_scripts.new.self.notes in
    let begun = c.note_begun.new.self.notes in
    let last = c.note_happened.new.self.notes in
    any_ok c.note_happened.result
    (doubts_then first begun last (doubts_then first scripts begun c.in_ok-note_scripts.ensures.stays.doubts c.in_ok-note_begun.ensures.stays.doubts) (doubts_services begun last c.note_happened.ensures.services c.note_happened.ensures.stays.gave))

pub returns-clause-time : goal.returns-clause-time
returns-clause-time c =
    let t : Time = making c.args.moment.frame in
    let mid = c.note_begun.new.self in
    let happened = c.args.master.now.lan.happened in
    on_ok_weaker c.note_happened.result
    (λ times. times_after t t t c.args.moment.sent happened c.args.self.now mid c.note_happened.new.self c.args.book.now c.note_happened.new.book (slaves_more c.note_scripts.ensures.slaves c.note_begun.ensures.slaves)
    (goes_then (λ k. t) (λ k. t) (λ k. t) c.args.self.now.notes c.note_scripts.new.self.notes mid.notes c.in_ok-note_scripts.ensures.stays.time c.in_ok-note_begun.ensures.stays.time) (λ m. m)
    (subst (λ rows. TimesGo t t c.args.moment.sent rows c.args.book.now mid c.note_happened.new.book c.note_happened.new.self) c.happened.ensures (times t)))
    c.note_happened.ensures.time

use Rattle.std.proofs.Common.{suc, ◌∙◌}
use Rattle.std.proofs.lemmas.Result.{on_ok_weaker}
use Rattle.run_notes.proofs.Gaves.{gave_after}
use Rattle.run_notes.proofs.Heard.{heard_after}
use Rattle.run_notes.proofs.Kept.{slaves_more}
use Rattle.run_notes.proofs.Ways.{any_ok}
use Rattle.run_notes.proofs.Handings.{mails_then}
use Rattle.run_notes.specs.Handed.{kinds_in}
use Rattle.run_book.specs.of_master_node.Listing.{events_in}
use Rattle.run_notes.proofs.Timings.{times_before}
use Rattle.run_notes.specs.Times.{behind, between}
use Rattle.run_notes.proofs.standing.Log.note_behind.Goals as goal

pub returns-clause-slaves : goal.returns-clause-slaves
returns-clause-slaves c = slaves_more c.note.ensures.slaves c.note_fate.ensures.slaves

pub returns-clause-gave : goal.returns-clause-gave
returns-clause-gave c =
    on_ok_weaker c.note_fate.result
    (λ by. gave_after c.args.fate c.args.moment.frame c.args.master.now c.args.self.now c.note.new.self c.note_fate.new.self c.note.ensures.slaves c.in_ok-note.ensures.gave by)
    c.note_fate.ensures.gave

pub returns-clause-heard : goal.returns-clause-heard
returns-clause-heard c =
    on_ok_weaker c.note_fate.result
    (λ by. heard_after c.args.fate c.args.moment.frame c.args.master.now c.args.self.now c.note.new.self c.note_fate.new.self c.in_ok-note.ensures.heard by)
    c.note_fate.ensures.heard

pub returns-clause-switch : goal.returns-clause-switch
returns-clause-switch c = any_ok c.note_fate.result c.in_ok-note.ensures.switch

pub returns-clause-rows : goal.returns-clause-rows
returns-clause-rows c = on_ok_weaker c.note_fate.result (λ same. same ∙ c.in_ok-note.ensures.rows) c.note_fate.ensures.rows

pub returns-clause-mails : goal.returns-clause-mails
returns-clause-mails c =
    on_ok_weaker c.note_fate.result
    (λ h. mails_then c.args.moment.frame (λ k. kinds_in k (events_in c.args.master.now)) c.args.self.now.notes c.note.new.self.notes c.note_fate.new.self.notes (c.in_ok-note.ensures.mails c.requires.homes) h)
    c.note_fate.ensures.mails

pub returns-clause-time : goal.returns-clause-time
returns-clause-time c =
    let frame = c.args.moment.frame in
    on_ok_weaker c.note_fate.result
    (λ goes. times_before (behind frame) (behind frame) (between (suc frame)) c.args.moment.sent c.args.master.now.lan.happened c.args.self.now c.note.new.self c.note_fate.new.self c.args.book.now c.note.new.book c.in_ok-note.ensures.time goes)
    c.note_fate.ensures.time

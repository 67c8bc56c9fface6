use Rattle.std.proofs.Common.{refl}
use Rattle.run_notes.proofs.Kept.{slaves_more}
use Rattle.run_notes.proofs.Packets.{noted_first, noted_last, noted_next, stay_then}
use Rattle.run_notes.proofs.Stays.{making_more, making_same}
use Rattle.run_notes.proofs.standing.Log.note_begun.Goals as goal

pub loop-event-init : goal.loop-event-init
loop-event-init c = record {
  slaves = record { notes = refl; homes = refl; asked = refl; ports = refl; recover = refl };
  stays = making_same c.args.frame c.args.self.now.notes;
  told = λ as' r. r;
  beside = noted_first c.args.frame c.args.events.now c.args.self.now.notes;
  free = λ k f. f;
}

pub loop-event-preserved : goal.loop-event-preserved
loop-event-preserved c =
    let inv = c.loop-event.invariant in
    let step = c.note_begun_by.ensures in
    record {
      slaves = slaves_more inv.slaves step.slaves;
      stays = making_more c.args.frame c.args.self.now.notes c.loop-event.self.notes c.note_begun_by.new.self.notes inv.stays c.in_ok-note_begun_by.ensures.stays;
      told = λ as' r. c.in_ok-note_begun_by.ensures.told as' (inv.told as' r);
      beside = noted_next c.args.frame c.args.events.now c.loop-event.event-index c.event-item.result c.args.self.now.notes c.loop-event.self.notes c.note_begun_by.new.self.notes c.loop-event-test.true c.event-item.is inv.slaves.notes inv.beside inv.free c.in_ok-note_begun_by.ensures.beside;
      free = stay_then c.args.self.now.notes c.loop-event.self.notes c.note_begun_by.new.self.notes inv.free c.in_ok-note_begun_by.ensures.free;
    }

pub returns-in_err-note_begun_by-clause-slaves : goal.returns-in_err-note_begun_by-clause-slaves
returns-in_err-note_begun_by-clause-slaves c = slaves_more c.loop-event.invariant.slaves c.note_begun_by.ensures.slaves

pub returns-clause-beside : goal.returns-clause-beside
returns-clause-beside c = noted_last c.args.frame c.args.events.now c.loop-event.event-index c.args.self.now.notes c.loop-event.self.notes c.loop-event-test.false c.loop-event.invariant.beside

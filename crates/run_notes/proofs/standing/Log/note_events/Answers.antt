use Rattle.std.proofs.Common.{refl}
use Rattle.run_notes.proofs.Handings.{behind_last, behind_next, stay_same}
use Rattle.run_notes.proofs.Kept.{slaves_more}
use Rattle.run_notes.proofs.Stays.{stays_more, stays_same}
use Rattle.run_notes.proofs.standing.Log.note_events.Goals as goal

pub loop-event-init : goal.loop-event-init
loop-event-init c = record {
  slaves = record { notes = refl; homes = refl; asked = refl; ports = refl; recover = refl };
  stays = stays_same c.args.self.now.notes;
  told = λ as' r. r;
  time = λ packets all. all;
  mails = λ at_home. stay_same c.args.moment.frame c.args.self.now.notes;
}

pub loop-event-preserved : goal.loop-event-preserved
loop-event-preserved c =
    let inv = c.loop-event.invariant in
    record {
      slaves = slaves_more inv.slaves c.note_event.ensures.slaves;
      stays = stays_more inv.stays c.in_ok-note_event.ensures.stays;
      told = λ as' r. c.in_ok-note_event.ensures.told as' (inv.told as' r);
      time = λ packets all. c.in_ok-note_event.ensures.time packets (inv.time packets all);
      mails = behind_next c.args.moment.frame c.args.events.now c.loop-event.event-index c.event-item.result c.args.self.now c.loop-event.self c.note_event.new.self c.loop-event-test.true c.event-item.is inv.slaves.homes inv.slaves.notes inv.stays.gave inv.mails c.in_ok-note_event.ensures.mails;
    }

pub returns-in_err-note_event-clause-slaves : goal.returns-in_err-note_event-clause-slaves
returns-in_err-note_event-clause-slaves c = slaves_more c.loop-event.invariant.slaves c.note_event.ensures.slaves

pub returns-clause-mails : goal.returns-clause-mails
returns-clause-mails c = behind_last c.args.moment.frame c.args.events.now c.loop-event.event-index c.args.self.now c.loop-event.self c.loop-event-test.false c.loop-event.invariant.mails

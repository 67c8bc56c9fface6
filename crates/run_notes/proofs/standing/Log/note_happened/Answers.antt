use Rattle.std.proofs.Common.{◌+◌, ◌∷◌, [], length, refl, ◌∙◌}
use Rattle.run_notes.proofs.Kept.{slaves_more, frames_more, at_log}
use Rattle.run_notes.proofs.Stays.{stays_more, stays_same}
use Rattle.run_notes.proofs.Switched.{notes_first, notes_next, notes_last, switch_at}
use Rattle.run_notes.proofs.Timings.{times_next}
use Rattle.run_notes.proofs.standing.Log.note_happened.Goals as goal

pub loop-row-init : goal.loop-row-init
loop-row-init c = record {
  slaves = record { notes = refl; homes = refl; asked = refl; ports = refl; recover = refl };
  stays = stays_same c.args.self.now.notes;
  services = refl;
  told = λ as' r. r;
  time = λ t may h. h;
  frames = record { frames = refl; rest = record { slaves = refl; grams = refl; replies = refl; serving = refl; at_port = λ all. all } };
  switch = notes_first (1 + length c.args.self.now.ports) c.args.moment.sent c.args.rows.now c.args.book.now;
}

pub loop-row-preserved : goal.loop-row-preserved
loop-row-preserved c =
    let inv = c.loop-row.invariant in
    let ports = 1 + length c.args.self.now.ports in
    record {
      slaves = slaves_more inv.slaves c.note_switch.ensures.slaves;
      stays = stays_more inv.stays c.note_switch.ensures.stays;
      services = c.note_switch.ensures.services ∙ inv.services;
      told = λ as' r. c.note_switch.ensures.told as' (inv.told as' r);
      time = λ t. times_next t c.args.moment.sent c.args.rows.now c.loop-row.row-index c.row-item.result c.args.self.now c.loop-row.self c.note_switch.new.self c.args.book.now c.loop-row.book c.note_switch.new.book c.loop-row-test.true c.row-item.is inv.slaves (inv.time t) (c.in_ok-note_switch.ensures.time t);
      frames = frames_more ports inv.frames (at_log inv.slaves c.note_switch.ensures.frames);
      switch = notes_next ports c.args.moment.sent c.args.rows.now c.loop-row.row-index c.row-item.result c.args.book.now c.loop-row.book c.note_switch.new.book c.loop-row-test.true c.row-item.is inv.switch
          (switch_at c.args.self.now c.loop-row.self c.args.moment.sent (c.row-item.result ∷ []) c.loop-row.book c.note_switch.new.book inv.slaves c.in_ok-note_switch.ensures.switch);
    }

pub returns-in_err-note_switch-clause-slaves : goal.returns-in_err-note_switch-clause-slaves
returns-in_err-note_switch-clause-slaves c = slaves_more c.loop-row.invariant.slaves c.note_switch.ensures.slaves

pub returns-in_err-note_switch-clause-stays : goal.returns-in_err-note_switch-clause-stays
returns-in_err-note_switch-clause-stays c = stays_more c.loop-row.invariant.stays c.note_switch.ensures.stays

pub returns-in_err-note_switch-clause-told : goal.returns-in_err-note_switch-clause-told
returns-in_err-note_switch-clause-told c = λ as' r. c.note_switch.ensures.told as' (c.loop-row.invariant.told as' r)

pub returns-in_err-note_switch-clause-frames : goal.returns-in_err-note_switch-clause-frames
returns-in_err-note_switch-clause-frames c =
    frames_more (1 + length c.args.self.now.ports) c.loop-row.invariant.frames (at_log c.loop-row.invariant.slaves c.note_switch.ensures.frames)

pub returns-clause-switch : goal.returns-clause-switch
returns-clause-switch c =
    notes_last (1 + length c.args.self.now.ports) c.args.moment.sent c.args.rows.now c.loop-row.row-index c.args.book.now c.loop-row.book c.loop-row-test.false c.loop-row.invariant.switch

pub returns-in_err-note_switch-clause-services : goal.returns-in_err-note_switch-clause-services
returns-in_err-note_switch-clause-services c = c.note_switch.ensures.services ∙ c.loop-row.invariant.services

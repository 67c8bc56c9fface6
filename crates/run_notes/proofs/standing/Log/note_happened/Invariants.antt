use Rattle.std.proofs.Common.{◌≡◌, ◌+◌, length}
use Rattle.run_notes.specs.Reports.{KeepsReports}
use Rattle.run_notes.specs.Slaves.{SameSlaves, SameFrames}
use Rattle.run_notes.specs.Stays.{StaysBeside}
use Rattle.run_notes.proofs.Switched.{NotesTo}
use Rattle.run_notes.specs.Handed.{services_noted}
use Rattle.run_notes.specs.Times.{Time, TimesGo}
use Rattle.run_notes.proofs.standing.Log.note_happened.Given as goal

abbrev pub invariant-loop-row : goal.invariant-loop-row
invariant-loop-row l = record {
  slaves : SameSlaves l.initial.self l.self;
  stays : StaysBeside l.initial.self.notes l.self.notes;
  services : services_noted l.self.notes ≡ services_noted l.initial.self.notes;
  told : KeepsReports l.initial.self.notes l.self.notes;
  time : (t : Time) → TimesGo t t l.moment.sent l.rows l.initial.book l.initial.self l.book l.self;
  frames : SameFrames (1 + length l.initial.self.ports) l.initial.book l.book;
  switch : NotesTo (1 + length l.initial.self.ports) l.moment.sent l.rows l.row-index l.initial.book l.book;
}

use Rattle.std.proofs.Common.{◌≡◌}
use Rattle.run_notes.specs.Heard.{HeardTo}
use Rattle.run_notes.specs.Slaves.{gaves_noted, SameSlaves}
use Rattle.run_notes.specs.Reports.{KeepsReports}
use Rattle.run_notes.specs.Packets.{begun_noted}
use Rattle.run_notes.specs.Handed.{services_noted}
use Rattle.run_notes.specs.Times.{KeepsTime, behind}
use Rattle.run_notes.proofs.standing.Log.note_emergencies.Given as goal

abbrev pub invariant-loop-place : goal.invariant-loop-place
invariant-loop-place l = record {
  slaves : SameSlaves l.initial.self l.self;
  time : KeepsTime (behind l.frame) l.initial.self.notes l.self.notes;
  gave : gaves_noted l.self.notes ≡ gaves_noted l.initial.self.notes;
  heard : HeardTo l.frame l.place l.master l.initial.self.notes l.self.notes;
  services : services_noted l.self.notes ≡ services_noted l.initial.self.notes;
  rows : begun_noted l.self.notes ≡ begun_noted l.initial.self.notes;
  told : KeepsReports l.initial.self.notes l.self.notes;
}

use Rattle.run_notes.specs.Packets.{StayFree}
use Rattle.run_notes.specs.Reports.{KeepsReports}
use Rattle.run_notes.specs.Slaves.{SameSlaves}
use Rattle.run_notes.proofs.Packets.{NotedTo}
use Rattle.run_notes.specs.Stays.{StaysMaking}
use Rattle.run_notes.proofs.standing.Log.note_begun.Given as goal

abbrev pub invariant-loop-event : goal.invariant-loop-event
invariant-loop-event l = record {
  slaves : SameSlaves l.initial.self l.self;
  stays : StaysMaking l.frame l.initial.self.notes l.self.notes;
  told : KeepsReports l.initial.self.notes l.self.notes;
  beside : NotedTo l.frame l.events l.event-index l.initial.self.notes l.self.notes;
  free : StayFree l.initial.self.notes l.self.notes;
}

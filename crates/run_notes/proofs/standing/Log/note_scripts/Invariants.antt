use Rattle.run_notes.specs.Reports.{AllReport, ReportsTo, TurnsAll}
use Rattle.run_notes.specs.Slaves.{SameSlaves}
use Rattle.run_notes.specs.Packets.{SameBeside}
use Rattle.run_notes.specs.Stays.{StaysMaking}
use Rattle.run_notes.proofs.standing.Log.note_scripts.Given as goal

abbrev pub invariant-loop-place : goal.invariant-loop-place
invariant-loop-place l = record {
  slaves : SameSlaves l.initial.self l.self;
  stays : StaysMaking l.frame l.initial.self.notes l.self.notes;
  beside : SameBeside l.initial.self.notes l.self.notes;
  told : TurnsAll l.frame l.master (λ as' bs. AllReport as' l.initial.self.notes → ReportsTo l.place as' bs l.self.notes);
}

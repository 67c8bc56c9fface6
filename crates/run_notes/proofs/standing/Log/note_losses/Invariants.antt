use Rattle.std.proofs.Common.{◌≡◌}
use Rattle.run_notes.specs.Heard.{emergencies_noted}
use Rattle.run_notes.specs.Slaves.{GavesAll, SameSlaves, gaves_noted}
use Rattle.run_notes.specs.Reports.{AllReport, ReportsTo, LosesAll}
use Rattle.run_notes.proofs.Gaves.{walked}
use Rattle.run_notes.specs.Packets.{begun_noted}
use Rattle.run_notes.specs.Handed.{MailsStay}
use Rattle.run_notes.specs.Times.{KeepsTime, behind}
use Rattle.run_notes.proofs.standing.Log.note_losses.Given as goal

abbrev pub invariant-loop-place : goal.invariant-loop-place
invariant-loop-place l = record {
  slaves : SameSlaves l.initial.self l.self;
  gave : GavesAll l.initial.self.recover l.master (λ nows. gaves_noted l.self.notes ≡ walked l.place l.frame nows (gaves_noted l.initial.self.notes));
  heard : emergencies_noted l.self.notes ≡ emergencies_noted l.initial.self.notes;
  mails : MailsStay l.frame l.initial.self.notes l.self.notes;
  time : KeepsTime (behind l.frame) l.initial.self.notes l.self.notes;
  rows : begun_noted l.self.notes ≡ begun_noted l.initial.self.notes;
  told : LosesAll l.frame l.initial.self.recover l.master (λ as' bs. AllReport as' l.initial.self.notes → ReportsTo l.place as' bs l.self.notes);
}

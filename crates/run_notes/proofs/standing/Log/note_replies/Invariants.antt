use Rattle.run_notes.specs.Reports.{AllReport, ReportsTo, PassesAll}
use Rattle.run_notes.specs.Slaves.{SameSlaves}
use Rattle.run_notes.specs.Stays.{StaysBeside}
use Rattle.run_notes.specs.Handed.{MailsStay}
use Rattle.run_notes.specs.Times.{TimeGoes, behind, seen_to}
use Rattle.run_notes.proofs.standing.Log.note_replies.Given as goal

abbrev pub invariant-loop-place : goal.invariant-loop-place
invariant-loop-place l = record {
  slaves : SameSlaves l.initial.self l.self;
  stays : StaysBeside l.initial.self.notes l.self.notes;
  mails : MailsStay l.frame l.initial.self.notes l.self.notes;
  time : TimeGoes (λ k. behind l.frame) (seen_to l.frame l.place) l.initial.self.notes l.self.notes;
  told : PassesAll l.frame l.master (λ as' bs. AllReport as' l.initial.self.notes → ReportsTo l.place as' bs l.self.notes);
}

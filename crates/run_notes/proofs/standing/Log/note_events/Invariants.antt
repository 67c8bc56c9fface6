use Rattle.std.proofs.Common.{take}
use Rattle.run_notes.specs.Reports.{KeepsReports}
use Rattle.run_notes.specs.Slaves.{SameSlaves}
use Rattle.run_notes.specs.Stays.{StaysBeside}
use Rattle.run_notes.specs.Handed.{MailsBehind, kinds_in}
use Rattle.run_notes.specs.Times.{KeepsTime, behind}
use Rattle.run_notes.proofs.standing.Log.note_events.Given as goal

abbrev pub invariant-loop-event : goal.invariant-loop-event
invariant-loop-event l = record {
  slaves : SameSlaves l.initial.self l.self;
  stays : StaysBeside l.initial.self.notes l.self.notes;
  mails : MailsBehind l.moment.frame (λ k. kinds_in k (take l.event-index l.events)) l.initial.self l.self;
  told : KeepsReports l.initial.self.notes l.self.notes;
  time : KeepsTime (behind l.moment.frame) l.initial.self.notes l.self.notes;
}

-- The contract of the top call as one fact.
use Rattle.std.specs.Prelude.{◌≡◌, ◌≢◌, ◌⊎◌, ℕ, List, Option}
use Rattle.gateway_stream.specs.of_ec_outside.Faults.{Rose}
use Rattle.gateway_stream.specs.of_ec_outside.Files.{Table}
use Rattle.tool_call.specs.of_segment_plan.declared.plan.Scenario.{Scenario}
use Rattle.run_report.specs.of_run_book.declared.book.Book.{Book}
use Rattle.run_report.specs.of_run_book.Book.{IsNew}
use Rattle.promised_run.specs.of_gateway_run.Serving.{Told}
use Rattle.tool_call.specs.of_ecmbx_words.declared.form.Form.TheVariants as forms
use Rattle.tool_call.specs.of_ecmbx_words.declared.status.Status.{Status}
use Rattle.tool_call.specs.of_ecmbx_words.declared.status.Status.TheVariants as statuses
use Rattle.tool_call.specs.of_ecmbx_words.Form.{form_in, saved_in}
use Rattle.tool_call.specs.of_ecmbx_words.Files.{Followed}
use Rattle.ecmbx_call.specs.Files.{LeavesFiles}
use Rattle.ecmbx_call.specs.Complete.{CompletesServing, CompletesTo}
use Rattle.ecmbx_call.specs.Course.{Course, Began}
use Rattle.ecmbx_call.specs.Causes.{UsageCause, AbsentCause, LongCause, RefusedCause, DoneCause, GivenUpCause, SpentCause, BrokenCause, EndingAt, PortCause, RunsTo, SavesTo, ServesTo, ShowsTo, AuditsTo, MakesTo}

-- ALL THAT THE TOP CALL PROMISES of words, by what is told before it and behind it: its course, what each form comes to, when each status comes,
-- what the book has, and that no file is changed but by a run with CAPTURE, which changes that; `faulted` and `sunk` say that files and sink had a fault
pub record CallsAs (words : List (List ℕ)) (table saved : Option Table) (faulted sunk : Type 0) (first last : Told) (book : Book) (old new : Option (List ℕ)) (status : Status) : Type 0 where
  pub course : Followed (Course words table saved faulted first last book) old new status
  pub runs : (plan : Scenario) → ¬ faulted → RunsTo words table plan book old new status
  pub saves : (plan : Scenario) → ¬ faulted → SavesTo words table saved plan book old new status
  pub completes : (plan : Scenario) → ¬ faulted → ¬ sunk → CompletesTo words table plan book status
  pub serves : (plan : Scenario) → ¬ faulted → ServesTo words table first last plan book old new status
  pub completes_serving : (plan : Scenario) → ¬ faulted → ¬ sunk → CompletesServing words table first last plan book status
  pub shows : ¬ faulted → ¬ sunk → ShowsTo words table old new status
  pub audits : ¬ faulted → ¬ sunk → AuditsTo words table old new status
  pub makes : ¬ sunk → MakesTo words old new status
  pub usage : UsageCause words status
  pub absent : AbsentCause words table status
  pub too_long : LongCause words table status
  pub refused : RefusedCause words table status
  pub done : DoneCause words table first last book status
  pub given_up : GivenUpCause words table first last book status
  pub budget_spent : SpentCause words table first last book status
  pub audit_no : BrokenCause words table status
  pub file_fault : status ≡ statuses.FileFault → faulted
  pub sink_fault : status ≡ statuses.SinkFault → sunk
  pub port_fault : PortCause words first last status
  pub began : IsNew book ⊎ Began words table first last book
  pub ending : EndingAt status book.ending
  pub same : form_in words ≢ forms.RunSaved → saved ≡ table
  pub files : LeavesFiles (saved_in words) table saved faulted book status

-- the same of files and a sink, by what they tell: the table of the files, their count of faults, what was written, and the sink's count of faults
abbrev pub Calls : {F O : Type 0} → (F → Option Table) → (F → ℕ) → (O → Option (List ℕ)) → (O → ℕ) → List (List ℕ) → Told → Told → Book → F → F → O → O → Status → Type 0
Calls table faults written sink_faults words first last book files files' out out' status =
    CallsAs words (table files) (table files') (Rose (faults files) (faults files')) (Rose (sink_faults out) (sink_faults out')) first last book (written out) (written out') status

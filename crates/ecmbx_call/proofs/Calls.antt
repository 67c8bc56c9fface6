-- All that the top call promises follows from its course.
use Rattle.std.proofs.Common.{◌≡◌, ◌≢◌, ◌⊎◌, ℕ, List, Option}
use Rattle.gateway_stream.specs.of_ec_outside.Files.{Table}
use Rattle.run_report.specs.of_run_book.declared.book.Book.{Book}
use Rattle.run_report.specs.of_run_book.Book.{IsNew}
use Rattle.promised_run.specs.of_gateway_run.Serving.{Told}
use Rattle.tool_call.specs.of_ecmbx_words.declared.form.Form.TheVariants as forms
use Rattle.tool_call.specs.of_ecmbx_words.declared.status.Status.{Status}
use Rattle.tool_call.specs.of_ecmbx_words.declared.status.Status.TheVariants as statuses
use Rattle.tool_call.specs.of_ecmbx_words.Form.{form_in, saved_in}
use Rattle.tool_call.specs.of_ecmbx_words.Files.{Followed}
use Rattle.ecmbx_call.specs.Course.{Course, Began}
use Rattle.ecmbx_call.specs.Calls.{CallsAs}
use Rattle.ecmbx_call.specs.Files.{LeavesFiles}
use Rattle.ecmbx_call.proofs.Complete.{completes_serving, completes_to}
use Rattle.ecmbx_call.proofs.Causes.{usage_cause, absent_cause, long_cause, refused_cause, broken_cause, done_cause, given_up_cause, spent_cause, file_fault_cause, port_cause, ending_is, runs_to, saves_to, serves_to, shows_to, audits_to, makes_to}

module _ (words : List (List ℕ)) (table saved : Option Table) (faulted sunk : Type 0) (first last : Told) (book : Book) (old new : Option (List ℕ)) (status : Status) where
  pub calls_of :
      Followed (Course words table saved faulted first last book) old new status → (status ≡ statuses.SinkFault → sunk) → IsNew book ⊎ Began words table first last book
      → (form_in words ≢ forms.RunSaved → saved ≡ table) → LeavesFiles (saved_in words) table saved faulted book status → CallsAs words table saved faulted sunk first last book old new status
  calls_of course sinks began same files = record {
    course = course;
    runs = λ plan calm. runs_to words table saved faulted first last book old new status course calm plan;
    saves = λ plan calm. saves_to words table saved faulted first last book old new status course calm plan;
    completes = λ plan calm quiet.
        completes_to words table saved sunk plan book old new status sinks quiet (runs_to words table saved faulted first last book old new status course calm plan) (saves_to words table saved faulted first last book old new status course calm plan);
    completes_serving = λ plan calm quiet. completes_serving words table sunk first last plan book old new status sinks quiet (serves_to words table saved faulted first last book old new status course calm plan);
    serves = λ plan calm. serves_to words table saved faulted first last book old new status course calm plan;
    shows = λ calm quiet. shows_to words table saved faulted first last book old new status sunk sinks quiet calm course;
    audits = λ calm quiet. audits_to words table saved faulted first last book old new status sunk sinks quiet calm course;
    makes = λ quiet. makes_to words table saved faulted first last book old new status sunk sinks quiet course;
    usage = usage_cause words table saved faulted first last book old new status course;
    absent = absent_cause words table saved faulted first last book old new status course;
    too_long = long_cause words table saved faulted first last book old new status course;
    refused = refused_cause words table saved faulted first last book old new status course;
    done = done_cause words table saved faulted first last book old new status course;
    given_up = given_up_cause words table saved faulted first last book old new status course;
    budget_spent = spent_cause words table saved faulted first last book old new status course;
    audit_no = broken_cause words table saved faulted first last book old new status course;
    file_fault = file_fault_cause words table saved faulted first last book old new status course;
    sink_fault = sinks;
    port_fault = port_cause words table saved faulted first last book old new status course;
    began = began;
    ending = ending_is words table saved faulted first last book old new status course;
    same = same;
    files = files;
  }

-- What a call of the program does, from its words to its status: one case for each row of the table of answers.
use Rattle.std.specs.Prelude.{◌≡◌, ℕ, ◌≤◌, ◌⊎◌, false, List, [], map, length, All, String, string_bytes, Option, Some, Ok, Err}
use Rattle.std.specs.declared.alloc.Global.{Global}
use Rattle.gateway_stream.specs.of_ec_outside.Faults.{Rose}
use Rattle.gateway_stream.specs.of_ec_outside.Files.{Table}
use Rattle.run_report.specs.of_pcap_frames.declared.capture.Capture.{Capture}
use Rattle.run_report.specs.of_pcap_frames.declared.capture.PcapFault.{PcapFault}
use Rattle.run_report.specs.of_pcap_frames.Reading.{capture_read}
use Rattle.capture_audit.specs.of_capture_view.View.{view_text}
use Rattle.tool_call.specs.of_segment_plan.declared.plan.Scenario.{Scenario}
use Rattle.tool_call.specs.of_scenario_keys.declared.refusal.Refusal.{Refusal}
use Rattle.promised_run.specs.of_scenario.Document.{plan_of}
use Rattle.scenario_made.specs.Made.{text_of as made_text}
use Rattle.run_report.specs.of_run_book.declared.book.Book.{Book}
use Rattle.run_report.specs.of_run_book.Ports.{ports_of, IsAtPort}
use Rattle.run_report.specs.of_run_book.Book.{IsNew}
use Rattle.promised_run.specs.Bounded.{IsBounded}
use Rattle.promised_run.specs.Promised.{IsPromised}
use Rattle.promised_run.specs.Ran.{HasFrames, EndsAs}
use Rattle.run_report.specs.Report.{report_lines}
use Rattle.run_report.specs.Saved.{capture_of}
use Rattle.tool_call.specs.of_ecmbx_words.declared.form.Form.TheVariants as forms
use Rattle.tool_call.specs.of_ecmbx_words.declared.status.Status.{Status}
use Rattle.tool_call.specs.of_ecmbx_words.declared.status.Status.TheVariants as statuses
use Rattle.tool_call.specs.of_ecmbx_words.Form.{form_in, name_in, saved_in}
use Rattle.tool_call.specs.of_ecmbx_words.Ends.{text_of, Ended}
use Rattle.tool_call.specs.of_ecmbx_words.Texts.{usage_line, refused_line, capture_line}
pub use Rattle.tool_call.specs.of_ecmbx_words.Files.{Followed}
pub use Rattle.ecmbx_call.specs.Ends.{status_of}
use Rattle.promised_run.specs.of_gateway_run.Serving.{Told}
use Rattle.ecmbx_call.specs.Audits.{AuditCourse}
use Rattle.ecmbx_call.specs.Serving.{ServeCourse, Served}
use Rattle.tool_call.specs.of_ecmbx_words.Files.{Holds, FileCourse}
use Rattle.ecmbx_call.specs.Files.{limit, AreKept, IsSaved, OthersKept}

-- the octets of the words
abbrev pub words_of : List (String Global) → List (List ℕ)
words_of words = map string_bytes words

-- what the run of a plan left in its book: its frames, fewer than the bound, the promise for each slave, and an ending with its cause; a budget of as many frames as
-- the bound didn't cut it off, and where few frames in a row were lost all is done; it is no serving, and no datagram was heard or sent
pub record HasRun (plan : Scenario) (book : Book) : Type 0 where
  pub frames : HasFrames plan book
  pub promise : IsPromised plan book
  pub bounded : IsBounded plan book
  pub ending : EndsAs plan book book.ending
  pub serving : book.serving ≡ false
  pub unheard : book.grams ≡ []
  pub unsent : book.replies ≡ []

-- a run or serving that can be reported: each slave has its row, and each event is at a port of the switch
pub record IsReportable (plan : Scenario) (book : Book) : Type 0 where
  pub few : length plan.slaves ≤ 16
  pub many : length book.slaves ≡ length plan.slaves
  pub at_port : All (IsAtPort (ports_of plan.slaves)) book.switch

-- a run: refused, or the report of what it came to
pub data RunCourse (book : Book) (octets : List ℕ) : Status → List ℕ → Type 0 where
  refused : (e : Refusal) → plan_of octets ≡ Err e → IsNew book → RunCourse book octets statuses.Refused (refused_line e)
  ran : (plan : Scenario) → plan_of octets ≡ Ok plan → HasRun plan book → RunCourse book octets (status_of book.ending) (text_of (report_lines plan book))

-- a run whose frames are saved: the same, with the capture under its name; or nothing is put behind a save that failed
pub data SavedCourse (name : List ℕ) (before table : Option Table) (faulted : Type 0) (book : Book) (octets : List ℕ) : Status → List ℕ → Type 0 where
  refused : (e : Refusal) → plan_of octets ≡ Err e → IsNew book → SavedCourse name before table faulted book octets statuses.Refused (refused_line e)
  unsaved : (plan : Scenario) → plan_of octets ≡ Ok plan → HasRun plan book → faulted → SavedCourse name before table faulted book octets statuses.FileFault []
  ran : (plan : Scenario) → plan_of octets ≡ Ok plan → HasRun plan book → IsSaved before table name (capture_of book.frames) → SavedCourse name before table faulted book octets (status_of book.ending) (text_of (report_lines plan book))

-- a capture: refused, or its decoding text
pub data ViewCourse (octets : List ℕ) : Status → List ℕ → Type 0 where
  refused : (fault : PcapFault) → capture_read octets ≡ Err fault → ViewCourse octets statuses.Refused (capture_line fault)
  shown : (capture : Capture) → capture_read octets ≡ Ok capture → ViewCourse octets statuses.Done (view_text octets capture)

-- how a call is to end, and the text to be put; `saved` are the files behind it, `first` and `last` what the port told before it and behind it
pub data Course (words : List (List ℕ)) (table saved : Option Table) (faulted : Type 0) (first last : Told) (book : Book) : Status → List ℕ → Type 0 where
  usage : form_in words ≡ forms.Other → IsNew book → Course words table saved faulted first last book statuses.Usage usage_line
  make : (seed size : ℕ) → form_in words ≡ forms.Make seed size → IsNew book → Course words table saved faulted first last book statuses.Done (made_text [] seed size)
  decode : (planned : Status) (text : List ℕ) → form_in words ≡ forms.Decode → IsNew book → FileCourse limit (name_in words) table faulted (Unit {0}) ViewCourse planned text → Course words table saved faulted first last book planned text
  audit : (planned : Status) (text : List ℕ) → form_in words ≡ forms.Audit → IsNew book → FileCourse limit (name_in words) table faulted (Unit {0}) AuditCourse planned text → Course words table saved faulted first last book planned text
  run : (planned : Status) (text : List ℕ) → form_in words ≡ forms.Run → FileCourse limit (name_in words) table faulted (IsNew book) (RunCourse book) planned text → Course words table saved faulted first last book planned text
  run_saved : (planned : Status) (text : List ℕ) → form_in words ≡ forms.RunSaved → FileCourse limit (name_in words) table faulted (IsNew book) (SavedCourse (saved_in words) table saved faulted book) planned text → Course words table saved faulted first last book planned text
  serve : (count : ℕ) (planned : Status) (text : List ℕ) → form_in words ≡ forms.Serve count → FileCourse limit (name_in words) table faulted (IsNew book) (ServeCourse count first last book) planned text → Course words table saved faulted first last book planned text

-- octets that are no scenario: the refusal's line is put, unless memory ran out
abbrev pub IsUnread : List ℕ → Option (List ℕ) → Option (List ℕ) → Status → Type 0
IsUnread octets old new status = (status ≡ statuses.NoMemory) ⊎ ((e : Refusal) × (plan_of octets ≡ Err e) × Ended statuses.Refused (refused_line e) old new status)

-- a save that failed: all files are as they were where memory ran out, and by a fault of the files those of other names are
abbrev pub IsUnsaved : List ℕ → Option Table → Option Table → Type 0 → Status → Type 0
IsUnsaved name before saved faulted status = ((status ≡ statuses.NoMemory) × AreKept before saved) ⊎ ((status ≡ statuses.FileFault) × faulted × OthersKept name before saved)

-- a run of the plan that octets write, and what it left
abbrev pub BeganOn : List ℕ → Book → Type 0
BeganOn octets book = (plan : Scenario) × (plan_of octets ≡ Ok plan) × HasRun plan book

-- the same of the file under a name
abbrev pub BeganIn : List ℕ → Option Table → Book → Type 0
BeganIn name table book = (octets : List ℕ) × Holds table name (Some octets) × BeganOn octets book

-- a run or a serving of the file that the words name
abbrev pub Began : List (List ℕ) → Option Table → Told → Told → Book → Type 0
Began words table first last book = BeganIn (name_in words) table book ⊎ Served words table first last book

-- What a call does to files and a sink: from what they are before it to what they are behind it. What is told of them comes first: the table
-- of the files, their count of faults, and what was written.

-- octets are run, and the frames saved under a name
abbrev pub SavesRun : {F O : Type 0} → (F → Option Table) → (F → ℕ) → (O → Option (List ℕ)) → List ℕ → List ℕ → Book → F → F → O → O → Status → Type 0
SavesRun table faults written octets name book files files' out out' status =
    Followed (SavedCourse name (table files) (table files') (Rose (faults files) (faults files')) book octets) (written out) (written out') status

-- the file under a name is run
abbrev pub RunsFile : {F O : Type 0} → (F → Option Table) → (F → ℕ) → (O → Option (List ℕ)) → List ℕ → Book → F → F → O → O → Status → Type 0
RunsFile table faults written name book files files' out out' status =
    Followed (FileCourse limit name (table files) (Rose (faults files) (faults files')) (IsNew book) (RunCourse book)) (written out) (written out') status

-- the same, and the frames are saved under another name
abbrev pub SavesFile : {F O : Type 0} → (F → Option Table) → (F → ℕ) → (O → Option (List ℕ)) → List ℕ → List ℕ → Book → F → F → O → O → Status → Type 0
SavesFile table faults written name capture book files files' out out' status =
    Followed (FileCourse limit name (table files) (Rose (faults files) (faults files')) (IsNew book) (SavedCourse capture (table files) (table files') (Rose (faults files) (faults files')) book)) (written out) (written out') status

-- the capture under a name is shown
abbrev pub ShowsFile : {F O : Type 0} → (F → Option Table) → (F → ℕ) → (O → Option (List ℕ)) → List ℕ → F → F → O → O → Status → Type 0
ShowsFile table faults written name files files' out out' status =
    Followed (FileCourse limit name (table files) (Rose (faults files) (faults files')) (Unit {0}) ViewCourse) (written out) (written out') status

-- the capture under a name is audited
abbrev pub AuditsFile : {F O : Type 0} → (F → Option Table) → (F → ℕ) → (O → Option (List ℕ)) → List ℕ → F → F → O → O → Status → Type 0
AuditsFile table faults written name files files' out out' status =
    Followed (FileCourse limit name (table files) (Rose (faults files) (faults files')) (Unit {0}) AuditCourse) (written out) (written out') status

-- the words are carried out
abbrev pub CarriesOut : {F O : Type 0} → (F → Option Table) → (F → ℕ) → (O → Option (List ℕ)) → List (List ℕ) → Told → Told → Book → F → F → O → O → Status → Type 0
CarriesOut table faults written words first last book files files' out out' status =
    Followed (Course words (table files) (table files') (Rose (faults files) (faults files')) first last book) (written out) (written out') status

-- When each status comes.
use Rattle.std.specs.Prelude.{◌≡◌, ℕ, ◌<◌, ◌≤◌, ◌⊎◌, Bool, true, false, List, [], ◌∷◌, length, Option, Some, None, Ok, Err}
use Rattle.gateway_stream.specs.of_ec_outside.Faults.{Rose}
use Rattle.gateway_stream.specs.of_ec_outside.Files.{Table, file_of}
use Rattle.gateway_stream.specs.of_ec_outside.Sink.{Wrote}
use Rattle.capture_audit.specs.of_capture_view.View.{view_text}
use Rattle.scenario_made.specs.Made.{text_of as made_text}
use Rattle.run_report.specs.of_pcap_frames.declared.capture.Capture.{Capture}
use Rattle.run_report.specs.of_pcap_frames.declared.capture.PcapFault.{PcapFault}
use Rattle.run_report.specs.of_pcap_frames.Reading.{capture_read}
use Rattle.tool_call.specs.of_segment_plan.declared.plan.Scenario.{Scenario}
use Rattle.tool_call.specs.of_scenario_keys.declared.refusal.Refusal.{Refusal}
use Rattle.promised_run.specs.of_scenario.Document.{plan_of}
use Rattle.run_report.specs.of_run_book.Book.{IsNew}
use Rattle.run_report.specs.of_run_book.declared.book.Book.{Book}
use Rattle.run_report.specs.of_run_book.declared.book.Ending.{Ending}
use Rattle.run_report.specs.of_run_book.declared.book.Ending.TheVariants as endings
use Rattle.promised_run.specs.Left.{LeavesSome, RestAll, ServedLeavesSome}
use Rattle.promised_run.specs.Ran.{IsOver, IsCut}
use Rattle.promised_run.specs.Session.{some_given_up}
use Rattle.promised_run.specs.of_gateway_run.Done.{ServedRestAll}
use Rattle.promised_run.specs.of_gateway_run.Served.{HasAccount}
use Rattle.run_report.specs.Report.{report_lines}
use Rattle.run_report.specs.Saved.{capture_of}
use Rattle.tool_call.specs.of_ecmbx_words.declared.form.Form.{Form}
use Rattle.tool_call.specs.of_ecmbx_words.declared.form.Form.TheVariants as forms
use Rattle.tool_call.specs.of_ecmbx_words.declared.status.Status.{Status}
use Rattle.tool_call.specs.of_ecmbx_words.declared.status.Status.TheVariants as statuses
use Rattle.tool_call.specs.of_ecmbx_words.Form.{form_in, name_in, saved_in}
use Rattle.tool_call.specs.of_ecmbx_words.Ends.{text_of, Ended, IsAmong}
use Rattle.capture_audit.specs.declared.station.StationAudit.{StationAudit}
use Rattle.capture_audit.specs.declared.verdict.Verdict.TheVariants.{Yes, No}
use Rattle.capture_audit.specs.Audit.{verdict_of}
use Rattle.ecmbx_call.specs.Audits.{verdict_status, verdict_text}
use Rattle.tool_call.specs.of_ecmbx_words.Files.{Holds, IsLong}
use Rattle.ecmbx_call.specs.Files.{limit, IsSaved}
use Rattle.promised_run.specs.of_gateway_run.Serving.{Told}
use Rattle.ecmbx_call.specs.Course.{HasRun, status_of}
use Rattle.ecmbx_call.specs.Serving.{HasServed}

-- the file that a form loads
abbrev pub loaded_by : Form → List ℕ → Option (List ℕ)
loaded_by forms.Run name = Some name
loaded_by forms.RunSaved name = Some name
loaded_by forms.Decode name = Some name
loaded_by forms.Audit name = Some name
loaded_by (forms.Make seed size) name = None
loaded_by (forms.Serve count) name = Some name
loaded_by forms.Other name = None

-- the file that the words load
abbrev pub loaded_in : List (List ℕ) → Option (List ℕ)
loaded_in words = loaded_by (form_in words) (name_in words)

-- octets that a form refuses
abbrev pub IsRefused : Form → List ℕ → Type 0
IsRefused forms.Decode octets = (fault : PcapFault) × (capture_read octets ≡ Err fault)
IsRefused forms.Audit octets = (fault : PcapFault) × (capture_read octets ≡ Err fault)
IsRefused _ octets = (e : Refusal) × (plan_of octets ≡ Err e)

-- a file that the words load and that is found whole
pub record IsFound (words : List (List ℕ)) (table : Option Table) (octets : List ℕ) : Type 0 where
  pub name : List ℕ
  pub files : Table
  pub said : loaded_in words ≡ Some name
  pub told : table ≡ Some files
  pub there : file_of name files ≡ Some octets
  pub fits : length octets ≤ limit

-- Usage comes exactly where the words are no form, but for a fault of the sink.
abbrev pub UsageCause : List (List ℕ) → Status → Type 0
UsageCause words status =
    (status ≡ statuses.Usage → form_in words ≡ forms.Other) × (form_in words ≡ forms.Other → IsAmong (statuses.Usage ∷ statuses.SinkFault ∷ statuses.NoMemory ∷ []) status)

-- Absent comes exactly where the file isn't there, but for a fault.
abbrev pub AbsentCause : List (List ℕ) → Option Table → Status → Type 0
AbsentCause words table status =
    (status ≡ statuses.Absent → (name : List ℕ) × (loaded_in words ≡ Some name) × Holds table name None)
    × ((name : List ℕ) (files : Table) → loaded_in words ≡ Some name → table ≡ Some files → file_of name files ≡ None
    → IsAmong (statuses.Absent ∷ statuses.FileFault ∷ statuses.SinkFault ∷ statuses.NoMemory ∷ []) status)

-- TooLong comes exactly where the file is too long, but for a fault.
abbrev pub LongCause : List (List ℕ) → Option Table → Status → Type 0
LongCause words table status =
    (status ≡ statuses.TooLong → (name : List ℕ) × (loaded_in words ≡ Some name) × IsLong limit table name)
    × ((name octets : List ℕ) (files : Table) → loaded_in words ≡ Some name → table ≡ Some files → file_of name files ≡ Some octets → limit < length octets
    → IsAmong (statuses.TooLong ∷ statuses.FileFault ∷ statuses.SinkFault ∷ statuses.NoMemory ∷ []) status)

-- Refused comes exactly where the octets are no scenario or, for `decode` and `audit`, no capture, but for a fault.
abbrev pub RefusedCause : List (List ℕ) → Option Table → Status → Type 0
RefusedCause words table status =
    (status ≡ statuses.Refused → (name octets : List ℕ) × (loaded_in words ≡ Some name) × Holds table name (Some octets) × IsRefused (form_in words) octets)
    × ((octets : List ℕ) → IsFound words table octets → IsRefused (form_in words) octets
    → IsAmong (statuses.Refused ∷ statuses.FileFault ∷ statuses.SinkFault ∷ statuses.NoMemory ∷ []) status)

-- words that ask for a run
abbrev pub IsRunning : List (List ℕ) → Type 0
IsRunning words = (form_in words ≡ forms.Run) ⊎ (form_in words ≡ forms.RunSaved)

-- the plan that the octets of the words' file write
pub record IsNamed (words : List (List ℕ)) (table : Option Table) (plan : Scenario) : Type 0 where
  pub octets : List ℕ
  pub holds : Holds table (name_in words) (Some octets)
  pub fits : length octets ≤ limit
  pub writes : plan_of octets ≡ Ok plan

-- WHAT CAME OF THE PLAN of the words' file: a run, which heard no datagrams, or a serving, which heard so many at most
pub data CameOf (words : List (List ℕ)) (table : Option Table) (first last : Told) (plan : Scenario) (book : Book) : ℕ → Type 0 where
  ran : IsRunning words → IsNamed words table plan → HasRun plan book → CameOf words table first last plan book 0
  served : (count : ℕ) → form_in words ≡ forms.Serve count → IsNamed words table plan → HasServed plan count first last book → CameOf words table first last plan book count

-- nothing was left to do, by the lives that its frames lead
abbrev pub LeavesNoWork : {words : List (List ℕ)} {table : Option Table} {first last : Told} {plan : Scenario} {book : Book} {grams : ℕ} → CameOf words table first last plan book grams → Type 0
LeavesNoWork {plan = plan} {book = book} (CameOf.ran runs named did) = RestAll plan did.promise.led.leads book
LeavesNoWork {plan = plan} {book = book} (CameOf.served count is named did) = (a : HasAccount plan count book book.ending) × ServedRestAll plan a.answers.serving.leading.serves book

-- something was left to do
abbrev pub LeavesWork : {words : List (List ℕ)} {table : Option Table} {first last : Told} {plan : Scenario} {book : Book} {grams : ℕ} → CameOf words table first last plan book grams → Type 0
LeavesWork {plan = plan} {book = book} (CameOf.ran runs named did) = LeavesSome plan book did.promise.led
LeavesWork {plan = plan} {book = book} (CameOf.served count is named did) = ServedLeavesSome plan count book

-- a run or serving ended with nothing left to do, and a slave was given up or none
pub record EndedWith (some : Bool) (words : List (List ℕ)) (table : Option Table) (first last : Told) (book : Book) : Type 0 where
  pub plan : Scenario
  pub grams : ℕ
  pub came : CameOf words table first last plan book grams
  pub over : IsOver plan book some
  pub rests : LeavesNoWork came

-- a status, but for a fault of a file, the sink or the port, and want of memory
abbrev pub IsUnlessFault : Status → Status → Type 0
IsUnlessFault one status = IsAmong (one ∷ statuses.FileFault ∷ statuses.SinkFault ∷ statuses.PortFault ∷ statuses.NoMemory ∷ []) status

-- a status comes wherever nothing was left to do and a slave was given up or none, but for a fault
abbrev pub ComesAt : Bool → Status → List (List ℕ) → Option Table → Told → Told → Book → Status → Type 0
ComesAt some one words table first last book status =
    (plan : Scenario) (grams : ℕ) (came : CameOf words table first last plan book grams) → LeavesNoWork came → some_given_up book.slaves ≡ some → IsUnlessFault one status

-- GivenUp comes exactly where nothing was left to do and a slave was given up, but for a fault.
abbrev pub GivenUpCause : List (List ℕ) → Option Table → Told → Told → Book → Status → Type 0
GivenUpCause words table first last book status =
    (status ≡ statuses.GivenUp → EndedWith true words table first last book) × ComesAt true statuses.GivenUp words table first last book status

-- a call that is done as it was to be: a text was made, a capture shown or found to obey the rules, or a run or serving ended with nothing left to do and no slave given up
pub data HasDone (words : List (List ℕ)) (table : Option Table) (first last : Told) (book : Book) : Type 0 where
  made : (seed size : ℕ) → form_in words ≡ forms.Make seed size → HasDone words table first last book
  shown : (octets : List ℕ) (capture : Capture) → form_in words ≡ forms.Decode → Holds table (name_in words) (Some octets) → capture_read octets ≡ Ok capture → HasDone words table first last book
  obeys : (octets : List ℕ) (capture : Capture) (stations : List StationAudit) → form_in words ≡ forms.Audit → Holds table (name_in words) (Some octets) → capture_read octets ≡ Ok capture → verdict_of octets capture ≡ Yes stations → HasDone words table first last book
  over : EndedWith false words table first last book → HasDone words table first last book

-- Done comes only so; and of a run or serving wherever nothing was left to do and no slave was given up, but for a fault.
abbrev pub DoneCause : List (List ℕ) → Option Table → Told → Told → Book → Status → Type 0
DoneCause words table first last book status =
    (status ≡ statuses.Done → HasDone words table first last book) × ComesAt false statuses.Done words table first last book status

-- a run or serving ended with as many frames as the budget allows, and something was left to do
pub record EndedCut (words : List (List ℕ)) (table : Option Table) (first last : Told) (book : Book) : Type 0 where
  pub plan : Scenario
  pub grams : ℕ
  pub came : CameOf words table first last plan book grams
  pub cut : IsCut plan grams book
  pub left : LeavesWork came

-- BudgetSpent comes exactly where something was left to do, of as many frames as the budget allows, but for a fault.
abbrev pub SpentCause : List (List ℕ) → Option Table → Told → Told → Book → Status → Type 0
SpentCause words table first last book status =
    (status ≡ statuses.BudgetSpent → EndedCut words table first last book)
    × ((plan : Scenario) (grams : ℕ) (came : CameOf words table first last plan book grams) → LeavesWork came → IsUnlessFault statuses.BudgetSpent status)

-- words that ask for a serving
abbrev pub IsServing : List (List ℕ) → Type 0
IsServing words = (count : ℕ) × (form_in words ≡ forms.Serve count)

-- no serving began
abbrev pub ServesNone : List (List ℕ) → Book → Type 0
ServesNone words book = (¬ IsServing words) ⊎ IsNew book

-- PortFault comes only of a serving whose port's count of faults rose.
abbrev pub PortCause : List (List ℕ) → Told → Told → Status → Type 0
PortCause words first last status = status ≡ statuses.PortFault → IsServing words × Rose first.faults last.faults

-- a capture with a datagram that breaks a rule
abbrev pub IsBroken : List ℕ → Type 0
IsBroken octets = (capture : Capture) × (rule packet : ℕ) × (capture_read octets ≡ Ok capture) × (verdict_of octets capture ≡ No rule packet)

-- AuditNo comes exactly where a capture that is audited breaks a rule, but for a fault.
abbrev pub BrokenCause : List (List ℕ) → Option Table → Status → Type 0
BrokenCause words table status =
    (status ≡ statuses.AuditNo → (form_in words ≡ forms.Audit) × (octets : List ℕ) × Holds table (name_in words) (Some octets) × IsBroken octets)
    × ((octets : List ℕ) → form_in words ≡ forms.Audit → IsFound words table octets → IsBroken octets
    → IsAmong (statuses.AuditNo ∷ statuses.FileFault ∷ statuses.SinkFault ∷ statuses.NoMemory ∷ []) status)

-- How a book's run ended, by the status: as the status says, or, where no run began, not at all. After a fault of file or sink, and want of
-- memory, each is possible but for what the fault's own clause says.
abbrev pub EndingAt : Status → Ending → Type 0
EndingAt statuses.GivenUp ending = ending ≡ endings.GivenUp
EndingAt statuses.BudgetSpent ending = ending ≡ endings.BudgetSpent
EndingAt statuses.PortFault ending = ending ≡ endings.PortFault
EndingAt statuses.Done ending = (ending ≡ endings.Done) ⊎ (ending ≡ endings.Unfinished)
EndingAt statuses.Usage ending = ending ≡ endings.Unfinished
EndingAt statuses.Absent ending = ending ≡ endings.Unfinished
EndingAt statuses.TooLong ending = ending ≡ endings.Unfinished
EndingAt statuses.Refused ending = ending ≡ endings.Unfinished
EndingAt statuses.AuditNo ending = ending ≡ endings.Unfinished
EndingAt statuses.NoAnswer ending = ending ≡ endings.Unfinished
EndingAt _ ending = Unit {0}

-- no fault came in a call, by the count of faults before it and behind it
abbrev pub IsCalm : {F : Type 0} → (F → ℕ) → F → F → Type 0
IsCalm faults one other = ¬ Rose (faults one) (faults other)

-- a scenario that is found is run: the book has the run of its plan, and its report is written, or a prefix of that where the sink failed
abbrev pub RunsTo : List (List ℕ) → Option Table → Scenario → Book → Option (List ℕ) → Option (List ℕ) → Status → Type 0
RunsTo words table plan book old new status =
    (octets : List ℕ) → form_in words ≡ forms.Run → IsFound words table octets → plan_of octets ≡ Ok plan
    → (status ≡ statuses.NoMemory) ⊎ (HasRun plan book × Ended (status_of book.ending) (text_of (report_lines plan book)) old new status)

-- the same, and the frames are saved
abbrev pub SavesTo : List (List ℕ) → Option Table → Option Table → Scenario → Book → Option (List ℕ) → Option (List ℕ) → Status → Type 0
SavesTo words table saved plan book old new status =
    (octets : List ℕ) → form_in words ≡ forms.RunSaved → IsFound words table octets → plan_of octets ≡ Ok plan
    → (status ≡ statuses.NoMemory) ⊎ (HasRun plan book × IsSaved table saved (saved_in words) (capture_of book.frames) × Ended (status_of book.ending) (text_of (report_lines plan book)) old new status)

-- a scenario that is found is served: the book has what the serving of its plan left, and its report is written, or a prefix of that where
-- the sink failed
abbrev pub ServesTo : List (List ℕ) → Option Table → Told → Told → Scenario → Book → Option (List ℕ) → Option (List ℕ) → Status → Type 0
ServesTo words table first last plan book old new status =
    (octets : List ℕ) (count : ℕ) → form_in words ≡ forms.Serve count → IsFound words table octets → plan_of octets ≡ Ok plan
    → (status ≡ statuses.NoMemory) ⊎ (HasServed plan count first last book × Ended (status_of book.ending) (text_of (report_lines plan book)) old new status)

-- a capture that is found is shown whole
abbrev pub ShowsTo : List (List ℕ) → Option Table → Option (List ℕ) → Option (List ℕ) → Status → Type 0
ShowsTo words table old new status =
    (octets : List ℕ) (capture : Capture) → form_in words ≡ forms.Decode → IsFound words table octets → capture_read octets ≡ Ok capture
    → (status ≡ statuses.NoMemory) ⊎ ((status ≡ statuses.Done) × Wrote old new (view_text octets capture))

-- a capture that is found is audited whole
abbrev pub AuditsTo : List (List ℕ) → Option Table → Option (List ℕ) → Option (List ℕ) → Status → Type 0
AuditsTo words table old new status =
    (octets : List ℕ) (capture : Capture) → form_in words ≡ forms.Audit → IsFound words table octets → capture_read octets ≡ Ok capture
    → (status ≡ statuses.NoMemory) ⊎ ((status ≡ verdict_status (verdict_of octets capture)) × Wrote old new (verdict_text (verdict_of octets capture)))

-- a scenario is made whole
abbrev pub MakesTo : List (List ℕ) → Option (List ℕ) → Option (List ℕ) → Status → Type 0
MakesTo words old new status =
    (seed size : ℕ) → form_in words ≡ forms.Make seed size → (status ≡ statuses.NoMemory) ⊎ ((status ≡ statuses.Done) × Wrote old new (made_text [] seed size))

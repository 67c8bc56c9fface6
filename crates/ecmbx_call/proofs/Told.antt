-- What a course says of its status, case by case.
use Rattle.std.proofs.Common.{◌≡◌, ◌≢◌, ℕ, ◌<◌, ◌≤◌, ◌⊎◌, List, [], ◌∷◌, length, Option, Some, None, Ok, Bool, true, false, refl, sym, subst, ap, ◌∙◌, inl, inr}
use Rattle.gateway_stream.specs.of_ec_outside.Files.{Table, file_of}
use Rattle.run_report.specs.of_pcap_frames.declared.capture.Capture.{Capture}
use Rattle.run_report.specs.of_pcap_frames.Reading.{capture_read}
use Rattle.capture_audit.specs.of_capture_view.View.{view_text}
use Rattle.tool_call.specs.of_segment_plan.declared.plan.Scenario.{Scenario}
use Rattle.promised_run.specs.of_scenario.Document.{plan_of}
use Rattle.scenario_made.specs.Made.{text_of as made_text}
use Rattle.run_report.specs.of_run_book.declared.book.Book.{Book}
use Rattle.run_report.specs.of_run_book.declared.book.Ending.{Ending}
use Rattle.run_report.specs.of_run_book.declared.book.Ending.TheVariants as endings
use Rattle.run_report.specs.of_run_book.Book.{IsNew}
use Rattle.run_report.specs.Report.{report_lines}
use Rattle.run_report.specs.Saved.{capture_of}
use Rattle.tool_call.specs.of_ecmbx_words.declared.form.Form.{Form}
use Rattle.tool_call.specs.of_ecmbx_words.declared.form.Form.TheVariants as forms
use Rattle.tool_call.specs.of_ecmbx_words.declared.status.Status.{Status}
use Rattle.tool_call.specs.of_ecmbx_words.declared.status.Status.TheVariants as statuses
use Rattle.tool_call.specs.of_ecmbx_words.Form.{form_in, name_in, saved_in}
use Rattle.tool_call.specs.of_ecmbx_words.Ends.{text_of, Ended, IsAmong}
use Rattle.capture_audit.specs.declared.station.StationAudit.{StationAudit}
use Rattle.capture_audit.specs.declared.verdict.Verdict.{Verdict}
use Rattle.capture_audit.specs.declared.verdict.Verdict.TheVariants.{Yes, No}
use Rattle.capture_audit.specs.Audit.{verdict_of}
use Rattle.ecmbx_call.specs.Audits.{verdict_text, verdict_status, AuditCourse}
use Rattle.tool_call.specs.of_ecmbx_words.Files.{Holds, IsLong, FileCourse}
use Rattle.ecmbx_call.specs.Files.{limit, IsSaved}
use Rattle.ecmbx_call.specs.Course.{HasRun, status_of, RunCourse, SavedCourse, ViewCourse, Course}
use Rattle.promised_run.specs.of_gateway_run.Serving.{Told as PortTold}
use Rattle.ecmbx_call.specs.Serving.{HasServed, ServeCourse}
use Rattle.ecmbx_call.specs.Causes.{loaded_by, loaded_in, IsRefused, IsNamed, CameOf, HasDone, IsBroken}

-- ---- what a planned status says

-- all that a course has behind the words: what each status is, as cases of one sum
pub data Told (words : List (List ℕ)) (table saved : Option Table) (faulted : Type 0) (first last : PortTold) (book : Book) (planned : Status) (text : List ℕ) : Type 0 where
  usage : form_in words ≡ forms.Other → IsNew book → planned ≡ statuses.Usage → Told words table saved faulted first last book planned text
  fault : (name : List ℕ) → loaded_in words ≡ Some name → faulted → planned ≡ statuses.FileFault → Told words table saved faulted first last book planned text
  absent : (name : List ℕ) → loaded_in words ≡ Some name → Holds table name None → IsNew book → planned ≡ statuses.Absent → Told words table saved faulted first last book planned text
  long : (name : List ℕ) → loaded_in words ≡ Some name → IsLong limit table name → IsNew book → planned ≡ statuses.TooLong → Told words table saved faulted first last book planned text
  refused : (name octets : List ℕ) → loaded_in words ≡ Some name → Holds table name (Some octets) → length octets ≤ limit → IsRefused (form_in words) octets → IsNew book → planned ≡ statuses.Refused → Told words table saved faulted first last book planned text
  made : (seed size : ℕ) → form_in words ≡ forms.Make seed size → IsNew book → planned ≡ statuses.Done → text ≡ made_text [] seed size → Told words table saved faulted first last book planned text
  shown : (name octets : List ℕ) (capture : Capture) → form_in words ≡ forms.Decode → loaded_in words ≡ Some name → Holds table name (Some octets) → length octets ≤ limit → capture_read octets ≡ Ok capture → IsNew book → planned ≡ statuses.Done → text ≡ view_text octets capture → Told words table saved faulted first last book planned text
  passed : (name octets : List ℕ) (capture : Capture) (stations : List StationAudit) → form_in words ≡ forms.Audit → loaded_in words ≡ Some name → Holds table name (Some octets) → length octets ≤ limit → capture_read octets ≡ Ok capture → verdict_of octets capture ≡ Yes stations → IsNew book → planned ≡ statuses.Done → text ≡ verdict_text (Yes stations) → Told words table saved faulted first last book planned text
  failed : (name octets : List ℕ) (capture : Capture) (rule packet : ℕ) → form_in words ≡ forms.Audit → loaded_in words ≡ Some name → Holds table name (Some octets) → length octets ≤ limit → capture_read octets ≡ Ok capture → verdict_of octets capture ≡ No rule packet → IsNew book → planned ≡ statuses.AuditNo → text ≡ verdict_text (No rule packet) → Told words table saved faulted first last book planned text
  ran : (name octets : List ℕ) (plan : Scenario) → form_in words ≡ forms.Run → loaded_in words ≡ Some name → Holds table name (Some octets) → length octets ≤ limit → plan_of octets ≡ Ok plan → HasRun plan book
      → planned ≡ status_of book.ending → text ≡ text_of (report_lines plan book) → Told words table saved faulted first last book planned text
  kept : (name octets : List ℕ) (plan : Scenario) → form_in words ≡ forms.RunSaved → loaded_in words ≡ Some name → Holds table name (Some octets) → length octets ≤ limit → plan_of octets ≡ Ok plan → HasRun plan book → IsSaved table saved (saved_in words) (capture_of book.frames)
      → planned ≡ status_of book.ending → text ≡ text_of (report_lines plan book) → Told words table saved faulted first last book planned text
  served : (name octets : List ℕ) (plan : Scenario) (count : ℕ) → form_in words ≡ forms.Serve count → loaded_in words ≡ Some name → Holds table name (Some octets) → length octets ≤ limit → plan_of octets ≡ Ok plan → HasServed plan count first last book
      → planned ≡ status_of book.ending → text ≡ text_of (report_lines plan book) → Told words table saved faulted first last book planned text

module _ (words : List (List ℕ)) (table saved : Option Table) (faulted : Type 0) (first last : PortTold) (book : Book) where
  pub told_octets : (octets : List ℕ) (planned : Status) (text : List ℕ) → form_in words ≡ forms.Decode → IsNew book → Holds table (name_in words) (Some octets) → length octets ≤ limit → ViewCourse octets planned text → Told words table saved faulted first last book planned text
  told_octets octets _ _ f fresh holds fits (ViewCourse.refused flaw is) = Told.refused (name_in words) octets (rw f refl) holds fits (rw f (flaw, is)) fresh refl
  told_octets octets _ _ f fresh holds fits (ViewCourse.shown capture is) = Told.shown (name_in words) octets capture f (rw f refl) holds fits is fresh refl refl

  pub told_view : (planned : Status) (text : List ℕ) → form_in words ≡ forms.Decode → IsNew book → FileCourse limit (name_in words) table faulted (Unit {0}) ViewCourse planned text → Told words table saved faulted first last book planned text
  told_view _ _ f fresh (FileCourse.fault rose u) = Told.fault (name_in words) (rw f refl) rose refl
  told_view _ _ f fresh (FileCourse.absent holds u) = Told.absent (name_in words) (rw f refl) holds fresh refl
  told_view _ _ f fresh (FileCourse.long is u) = Told.long (name_in words) (rw f refl) is fresh refl
  told_view _ _ f fresh (FileCourse.found octets planned text holds fits course) = told_octets octets planned text f fresh holds fits course

  pub told_verdict : (octets : List ℕ) (capture : Capture) (planned : Status) (text : List ℕ) (v : Verdict) → form_in words ≡ forms.Audit → IsNew book → Holds table (name_in words) (Some octets) → length octets ≤ limit → capture_read octets ≡ Ok capture
      → verdict_of octets capture ≡ v → planned ≡ verdict_status v → text ≡ verdict_text v → Told words table saved faulted first last book planned text
  told_verdict octets capture planned text (Yes stations) f fresh holds fits read is e t = Told.passed (name_in words) octets capture stations f (rw f refl) holds fits read is fresh e t
  told_verdict octets capture planned text (No rule packet) f fresh holds fits read is e t = Told.failed (name_in words) octets capture rule packet f (rw f refl) holds fits read is fresh e t

  pub told_audited : (octets : List ℕ) (planned : Status) (text : List ℕ) → form_in words ≡ forms.Audit → IsNew book → Holds table (name_in words) (Some octets) → length octets ≤ limit → AuditCourse octets planned text → Told words table saved faulted first last book planned text
  told_audited octets _ _ f fresh holds fits (AuditCourse.refused flaw is) = Told.refused (name_in words) octets (rw f refl) holds fits (rw f (flaw, is)) fresh refl
  told_audited octets _ _ f fresh holds fits (AuditCourse.audited capture is) = told_verdict octets capture _ _ (verdict_of octets capture) f fresh holds fits is refl refl refl

  pub told_audit : (planned : Status) (text : List ℕ) → form_in words ≡ forms.Audit → IsNew book → FileCourse limit (name_in words) table faulted (Unit {0}) AuditCourse planned text → Told words table saved faulted first last book planned text
  told_audit _ _ f fresh (FileCourse.fault rose u) = Told.fault (name_in words) (rw f refl) rose refl
  told_audit _ _ f fresh (FileCourse.absent holds u) = Told.absent (name_in words) (rw f refl) holds fresh refl
  told_audit _ _ f fresh (FileCourse.long is u) = Told.long (name_in words) (rw f refl) is fresh refl
  told_audit _ _ f fresh (FileCourse.found octets planned text holds fits course) = told_audited octets planned text f fresh holds fits course

  pub told_run : (planned : Status) (text : List ℕ) → form_in words ≡ forms.Run → FileCourse limit (name_in words) table faulted (IsNew book) (RunCourse book) planned text → Told words table saved faulted first last book planned text
  told_run _ _ f (FileCourse.fault rose fresh) = Told.fault (name_in words) (rw f refl) rose refl
  told_run _ _ f (FileCourse.absent holds fresh) = Told.absent (name_in words) (rw f refl) holds fresh refl
  told_run _ _ f (FileCourse.long is fresh) = Told.long (name_in words) (rw f refl) is fresh refl
  told_run _ _ f (FileCourse.found octets _ _ holds fits (RunCourse.refused e is fresh)) = Told.refused (name_in words) octets (rw f refl) holds fits (rw f (e, is)) fresh refl
  told_run _ _ f (FileCourse.found octets _ _ holds fits (RunCourse.ran plan is run)) = Told.ran (name_in words) octets plan f (rw f refl) holds fits is run refl refl

  pub told_saved : (planned : Status) (text : List ℕ) → form_in words ≡ forms.RunSaved → FileCourse limit (name_in words) table faulted (IsNew book) (SavedCourse (saved_in words) table saved faulted book) planned text → Told words table saved faulted first last book planned text
  told_saved _ _ f (FileCourse.fault rose fresh) = Told.fault (name_in words) (rw f refl) rose refl
  told_saved _ _ f (FileCourse.absent holds fresh) = Told.absent (name_in words) (rw f refl) holds fresh refl
  told_saved _ _ f (FileCourse.long is fresh) = Told.long (name_in words) (rw f refl) is fresh refl
  told_saved _ _ f (FileCourse.found octets _ _ holds fits (SavedCourse.refused e is fresh)) = Told.refused (name_in words) octets (rw f refl) holds fits (rw f (e, is)) fresh refl
  told_saved _ _ f (FileCourse.found octets _ _ holds fits (SavedCourse.unsaved plan is run rose)) = Told.fault (name_in words) (rw f refl) rose refl
  told_saved _ _ f (FileCourse.found octets _ _ holds fits (SavedCourse.ran plan is run stored)) = Told.kept (name_in words) octets plan f (rw f refl) holds fits is run stored refl refl

  pub told_serve : (count : ℕ) (planned : Status) (text : List ℕ) → form_in words ≡ forms.Serve count → FileCourse limit (name_in words) table faulted (IsNew book) (ServeCourse count first last book) planned text → Told words table saved faulted first last book planned text
  told_serve count _ _ f (FileCourse.fault rose fresh) = Told.fault (name_in words) (rw f refl) rose refl
  told_serve count _ _ f (FileCourse.absent holds fresh) = Told.absent (name_in words) (rw f refl) holds fresh refl
  told_serve count _ _ f (FileCourse.long is fresh) = Told.long (name_in words) (rw f refl) is fresh refl
  told_serve count _ _ f (FileCourse.found octets _ _ holds fits (ServeCourse.refused e is fresh)) = Told.refused (name_in words) octets (rw f refl) holds fits (rw f (e, is)) fresh refl
  told_serve count _ _ f (FileCourse.found octets _ _ holds fits (ServeCourse.served plan is run)) = Told.served (name_in words) octets plan count f (rw f refl) holds fits is run refl refl

  pub told : (planned : Status) (text : List ℕ) → Course words table saved faulted first last book planned text → Told words table saved faulted first last book planned text
  told _ _ (Course.usage f fresh) = Told.usage f fresh refl
  told _ _ (Course.make seed size f fresh) = Told.made seed size f fresh refl refl
  told planned text (Course.decode _ _ f fresh c) = told_view planned text f fresh c
  told planned text (Course.audit _ _ f fresh c) = told_audit planned text f fresh c
  told planned text (Course.run _ _ f c) = told_run planned text f c
  told planned text (Course.run_saved _ _ f c) = told_saved planned text f c
  told planned text (Course.serve count _ _ f c) = told_serve count planned text f c

-- a run's status is none of those of words and files
abbrev pub is_own : Status → Bool
is_own statuses.Usage = true
is_own statuses.Absent = true
is_own statuses.TooLong = true
is_own statuses.Refused = true
is_own statuses.FileFault = true
is_own statuses.AuditNo = true
is_own _ = false

pub own_of : (ending : Ending) → is_own (status_of ending) ≡ false
own_of endings.Unfinished = refl
own_of endings.Done = refl
own_of endings.GivenUp = refl
own_of endings.BudgetSpent = refl
own_of endings.PortFault = refl
own_of endings.NoMemory = refl

pub ends_not : (answer planned : Status) (ending : Ending) → is_own answer ≡ true → planned ≡ status_of ending → planned ≡ answer → ⊥
ends_not answer planned ending own is e =
    let same : is_own answer ≡ false = ap is_own (sym e ∙ is) ∙ own_of ending in
    absurd cc

-- a run that ended with a slave given up or its budget spent
abbrev pub is_run : Status → Bool
is_run statuses.GivenUp = true
is_run statuses.BudgetSpent = true
is_run _ = false

pub run_not : (wanted planned : Status) (ending : Ending) → is_run wanted ≡ false → planned ≡ wanted → planned ≡ status_of ending → is_run (status_of ending) ≡ true → ⊥
run_not wanted planned ending not is end own =
    let same : is_run wanted ≡ true = ap is_run (sym is ∙ end) ∙ own in
    absurd cc

-- a status that neither the sink nor memory gives is the planned one
pub planned_is : (wanted planned : Status) (text : List ℕ) (old new : Option (List ℕ)) (status : Status) → (wanted ≡ statuses.SinkFault → ⊥) → Ended planned text old new status → status ≡ wanted → planned ≡ wanted
planned_is wanted planned text old new status other (inl e) is = sym e.0 ∙ is
planned_is wanted planned text old new status other (inr e) is = absurd (other (sym is ∙ e.0))

pub settle_one : (one planned : Status) (text : List ℕ) (old new : Option (List ℕ)) (status : Status) → planned ≡ one → Ended planned text old new status → IsAmong (one ∷ statuses.SinkFault ∷ statuses.NoMemory ∷ []) status
settle_one one planned text old new status is (inl e) = inl (e.0 ∙ is)
settle_one one planned text old new status is (inr e) = inr (inl e.0)

pub settle_two : (one two planned : Status) (text : List ℕ) (old new : Option (List ℕ)) (status : Status) → (planned ≡ one) ⊎ (planned ≡ two) → Ended planned text old new status → IsAmong (one ∷ two ∷ statuses.SinkFault ∷ statuses.NoMemory ∷ []) status
settle_two one two planned text old new status among (inr e) = inr (inr (inl e.0))
settle_two one two planned text old new status (inl is) (inl e) = inl (e.0 ∙ is)
settle_two one two planned text old new status (inr is) (inl e) = inr (inl (e.0 ∙ is))

-- what stands under a name of told files
pub held : (name : List ℕ) (file : Option (List ℕ)) (files : Table) (table : Option Table) → table ≡ Some files → Holds table name file → file_of name files ≡ file
held name file files None is h = absurd cc
held name file files (Some others) is h = let same : others ≡ files = cc in rw (← same) h

pub held_long : (name : List ℕ) (files : Table) (table : Option Table) → table ≡ Some files → IsLong limit table name → (octets : List ℕ) × (file_of name files ≡ Some octets) × (limit < length octets)
held_long name files None is h = absurd cc
held_long name files (Some others) is h = let same : others ≡ files = cc in rw (← same) h

-- words without a file, and words of another form
pub no_file : (form : Form) (file name : List ℕ) → form ≡ forms.Other → loaded_by form file ≡ Some name → ⊥
no_file form file name is said = let none : loaded_by form file ≡ None = rw is refl in absurd cc

pub no_made : (form : Form) (file name : List ℕ) (seed size : ℕ) → form ≡ forms.Make seed size → loaded_by form file ≡ Some name → ⊥
no_made form file name seed size is said = let none : loaded_by form file ≡ None = rw is refl in absurd cc

-- the name that a form loads is the word behind the first
pub loaded_name : (form : Form) (file name : List ℕ) → loaded_by form file ≡ Some name → file ≡ name
loaded_name forms.Run file name said = cc
loaded_name forms.RunSaved file name said = cc
loaded_name forms.Decode file name said = cc
loaded_name forms.Audit file name said = cc
loaded_name (forms.Make seed size) file name said = absurd cc
loaded_name (forms.Serve count) file name said = cc
loaded_name forms.Other file name said = absurd cc

-- what stands there
loaded_held : (words : List (List ℕ)) (table : Option Table) (name octets : List ℕ) → loaded_in words ≡ Some name → Holds table name (Some octets) → Holds table (name_in words) (Some octets)
loaded_held words table name octets said holds = subst (λ n. Holds table n (Some octets)) (sym (loaded_name (form_in words) (name_in words) name said)) holds

-- the plan of the words' file
named : (words : List (List ℕ)) (table : Option Table) (plan : Scenario) (name octets : List ℕ) → loaded_in words ≡ Some name → Holds table name (Some octets) → length octets ≤ limit → plan_of octets ≡ Ok plan → IsNamed words table plan
named words table plan name octets said holds fits read = record { octets = octets; holds = loaded_held words table name octets said holds; fits = fits; writes = read }

module _ (words : List (List ℕ)) (table saved : Option Table) (faulted : Type 0) (first last : PortTold) (book : Book) (planned : Status) (text : List ℕ) where
  pub told_usage : Told words table saved faulted first last book planned text → planned ≡ statuses.Usage → form_in words ≡ forms.Other
  told_usage (Told.usage f fresh is) e = f
  told_usage (Told.fault name said rose is) e = absurd cc
  told_usage (Told.absent name said holds fresh is) e = absurd cc
  told_usage (Told.long name said big fresh is) e = absurd cc
  told_usage (Told.refused name octets said holds fits refusal fresh is) e = absurd cc
  told_usage (Told.made seed size f fresh is text) e = absurd cc
  told_usage (Told.shown name octets capture f said holds fits read fresh is text) e = absurd cc
  told_usage (Told.passed name octets capture stations f said holds fits read verdict fresh is text) e = absurd cc
  told_usage (Told.failed name octets capture rule packet f said holds fits read verdict fresh is text) e = absurd cc
  told_usage (Told.ran name octets plan f said holds fits read run is text) e = absurd (ends_not statuses.Usage planned book.ending refl is e)
  told_usage (Told.kept name octets plan f said holds fits read run file is text) e = absurd (ends_not statuses.Usage planned book.ending refl is e)
  told_usage (Told.served name octets plan count f said holds fits read run is text) e = absurd (ends_not statuses.Usage planned book.ending refl is e)

  pub told_other : Told words table saved faulted first last book planned text → form_in words ≡ forms.Other → planned ≡ statuses.Usage
  told_other (Told.usage f fresh is) o = is
  told_other (Told.fault name said rose is) o = absurd (no_file (form_in words) (name_in words) name o said)
  told_other (Told.absent name said holds fresh is) o = absurd (no_file (form_in words) (name_in words) name o said)
  told_other (Told.long name said big fresh is) o = absurd (no_file (form_in words) (name_in words) name o said)
  told_other (Told.refused name octets said holds fits refusal fresh is) o = absurd (no_file (form_in words) (name_in words) name o said)
  told_other (Told.made seed size f fresh is text) o = absurd cc
  told_other (Told.shown name octets capture f said holds fits read fresh is text) o = absurd cc
  told_other (Told.passed name octets capture stations f said holds fits read verdict fresh is text) o = absurd cc
  told_other (Told.failed name octets capture rule packet f said holds fits read verdict fresh is text) o = absurd cc
  told_other (Told.ran name octets plan f said holds fits read run is text) o = absurd cc
  told_other (Told.kept name octets plan f said holds fits read run file is text) o = absurd cc
  told_other (Told.served name octets plan count f said holds fits read run is text) o = absurd cc

  pub told_absent : Told words table saved faulted first last book planned text → planned ≡ statuses.Absent → (name : List ℕ) × (loaded_in words ≡ Some name) × Holds table name None
  told_absent (Told.usage f fresh is) e = absurd cc
  told_absent (Told.fault name said rose is) e = absurd cc
  told_absent (Told.absent name said holds fresh is) e = (name, said, holds)
  told_absent (Told.long name said big fresh is) e = absurd cc
  told_absent (Told.refused name octets said holds fits refusal fresh is) e = absurd cc
  told_absent (Told.made seed size f fresh is text) e = absurd cc
  told_absent (Told.shown name octets capture f said holds fits read fresh is text) e = absurd cc
  told_absent (Told.passed name octets capture stations f said holds fits read verdict fresh is text) e = absurd cc
  told_absent (Told.failed name octets capture rule packet f said holds fits read verdict fresh is text) e = absurd cc
  told_absent (Told.ran name octets plan f said holds fits read run is text) e = absurd (ends_not statuses.Absent planned book.ending refl is e)
  told_absent (Told.kept name octets plan f said holds fits read run file is text) e = absurd (ends_not statuses.Absent planned book.ending refl is e)
  told_absent (Told.served name octets plan count f said holds fits read run is text) e = absurd (ends_not statuses.Absent planned book.ending refl is e)

  pub told_long : Told words table saved faulted first last book planned text → planned ≡ statuses.TooLong → (name : List ℕ) × (loaded_in words ≡ Some name) × IsLong limit table name
  told_long (Told.usage f fresh is) e = absurd cc
  told_long (Told.fault name said rose is) e = absurd cc
  told_long (Told.absent name said holds fresh is) e = absurd cc
  told_long (Told.long name said big fresh is) e = (name, said, big)
  told_long (Told.refused name octets said holds fits refusal fresh is) e = absurd cc
  told_long (Told.made seed size f fresh is text) e = absurd cc
  told_long (Told.shown name octets capture f said holds fits read fresh is text) e = absurd cc
  told_long (Told.passed name octets capture stations f said holds fits read verdict fresh is text) e = absurd cc
  told_long (Told.failed name octets capture rule packet f said holds fits read verdict fresh is text) e = absurd cc
  told_long (Told.ran name octets plan f said holds fits read run is text) e = absurd (ends_not statuses.TooLong planned book.ending refl is e)
  told_long (Told.kept name octets plan f said holds fits read run file is text) e = absurd (ends_not statuses.TooLong planned book.ending refl is e)
  told_long (Told.served name octets plan count f said holds fits read run is text) e = absurd (ends_not statuses.TooLong planned book.ending refl is e)

  pub told_refused : Told words table saved faulted first last book planned text → planned ≡ statuses.Refused → (name octets : List ℕ) × (loaded_in words ≡ Some name) × Holds table name (Some octets) × IsRefused (form_in words) octets
  told_refused (Told.usage f fresh is) e = absurd cc
  told_refused (Told.fault name said rose is) e = absurd cc
  told_refused (Told.absent name said holds fresh is) e = absurd cc
  told_refused (Told.long name said big fresh is) e = absurd cc
  told_refused (Told.refused name octets said holds fits refusal fresh is) e = (name, octets, said, holds, refusal)
  told_refused (Told.made seed size f fresh is text) e = absurd cc
  told_refused (Told.shown name octets capture f said holds fits read fresh is text) e = absurd cc
  told_refused (Told.passed name octets capture stations f said holds fits read verdict fresh is text) e = absurd cc
  told_refused (Told.failed name octets capture rule packet f said holds fits read verdict fresh is text) e = absurd cc
  told_refused (Told.ran name octets plan f said holds fits read run is text) e = absurd (ends_not statuses.Refused planned book.ending refl is e)
  told_refused (Told.kept name octets plan f said holds fits read run file is text) e = absurd (ends_not statuses.Refused planned book.ending refl is e)
  told_refused (Told.served name octets plan count f said holds fits read run is text) e = absurd (ends_not statuses.Refused planned book.ending refl is e)

  pub told_fault : Told words table saved faulted first last book planned text → planned ≡ statuses.FileFault → faulted
  told_fault (Told.usage f fresh is) e = absurd cc
  told_fault (Told.fault name said rose is) e = rose
  told_fault (Told.absent name said holds fresh is) e = absurd cc
  told_fault (Told.long name said big fresh is) e = absurd cc
  told_fault (Told.refused name octets said holds fits refusal fresh is) e = absurd cc
  told_fault (Told.made seed size f fresh is text) e = absurd cc
  told_fault (Told.shown name octets capture f said holds fits read fresh is text) e = absurd cc
  told_fault (Told.passed name octets capture stations f said holds fits read verdict fresh is text) e = absurd cc
  told_fault (Told.failed name octets capture rule packet f said holds fits read verdict fresh is text) e = absurd cc
  told_fault (Told.ran name octets plan f said holds fits read run is text) e = absurd (ends_not statuses.FileFault planned book.ending refl is e)
  told_fault (Told.kept name octets plan f said holds fits read run file is text) e = absurd (ends_not statuses.FileFault planned book.ending refl is e)
  told_fault (Told.served name octets plan count f said holds fits read run is text) e = absurd (ends_not statuses.FileFault planned book.ending refl is e)

  pub told_broken : Told words table saved faulted first last book planned text → planned ≡ statuses.AuditNo → (form_in words ≡ forms.Audit) × (octets : List ℕ) × Holds table (name_in words) (Some octets) × IsBroken octets
  told_broken (Told.usage f fresh is) e = absurd cc
  told_broken (Told.fault name said rose is) e = absurd cc
  told_broken (Told.absent name said holds fresh is) e = absurd cc
  told_broken (Told.long name said big fresh is) e = absurd cc
  told_broken (Told.refused name octets said holds fits refusal fresh is) e = absurd cc
  told_broken (Told.made seed size f fresh is text) e = absurd cc
  told_broken (Told.shown name octets capture f said holds fits read fresh is text) e = absurd cc
  told_broken (Told.passed name octets capture stations f said holds fits read verdict fresh is text) e = absurd cc
  told_broken (Told.failed name octets capture rule packet f said holds fits read verdict fresh is text) e =
      (f, octets, loaded_held words table name octets said holds, (capture, rule, packet, read, verdict))
  told_broken (Told.ran name octets plan f said holds fits read run is text) e = absurd (ends_not statuses.AuditNo planned book.ending refl is e)
  told_broken (Told.kept name octets plan f said holds fits read run file is text) e = absurd (ends_not statuses.AuditNo planned book.ending refl is e)
  told_broken (Told.served name octets plan count f said holds fits read run is text) e = absurd (ends_not statuses.AuditNo planned book.ending refl is e)

  -- a run with its ending
  pub told_ran : Told words table saved faulted first last book planned text → (e : Ending) → planned ≡ status_of e → is_run (status_of e) ≡ true → (plan : Scenario) × (grams : ℕ) × CameOf words table first last plan book grams × (planned ≡ status_of book.ending)
  told_ran (Told.usage f fresh is) e end own = absurd (run_not statuses.Usage planned e refl is end own)
  told_ran (Told.fault name said rose is) e end own = absurd (run_not statuses.FileFault planned e refl is end own)
  told_ran (Told.absent name said holds fresh is) e end own = absurd (run_not statuses.Absent planned e refl is end own)
  told_ran (Told.long name said big fresh is) e end own = absurd (run_not statuses.TooLong planned e refl is end own)
  told_ran (Told.refused name octets said holds fits refusal fresh is) e end own = absurd (run_not statuses.Refused planned e refl is end own)
  told_ran (Told.made seed size f fresh is text) e end own = absurd (run_not statuses.Done planned e refl is end own)
  told_ran (Told.shown name octets capture f said holds fits read fresh is text) e end own = absurd (run_not statuses.Done planned e refl is end own)
  told_ran (Told.passed name octets capture stations f said holds fits read verdict fresh is text) e end own = absurd (run_not statuses.Done planned e refl is end own)
  told_ran (Told.failed name octets capture rule packet f said holds fits read verdict fresh is text) e end own = absurd (run_not statuses.AuditNo planned e refl is end own)
  told_ran (Told.ran name octets plan f said holds fits read did is text) e end own = (plan, 0, CameOf.ran (inl f) (named words table plan name octets said holds fits read) did, is)
  told_ran (Told.kept name octets plan f said holds fits read did file is text) e end own = (plan, 0, CameOf.ran (inr f) (named words table plan name octets said holds fits read) did, is)
  told_ran (Told.served name octets plan count f said holds fits read did is text) e end own = (plan, count, CameOf.served count f (named words table plan name octets said holds fits read) did, is)

  -- a call that is done, by its words and file or by its run's ending
  pub told_done :
      Told words table saved faulted first last book planned text → planned ≡ statuses.Done
      → HasDone words table first last book ⊎ ((plan : Scenario) × (grams : ℕ) × CameOf words table first last plan book grams × (planned ≡ status_of book.ending))
  told_done (Told.usage f fresh is) e = absurd cc
  told_done (Told.fault name said rose is) e = absurd cc
  told_done (Told.absent name said holds fresh is) e = absurd cc
  told_done (Told.long name said big fresh is) e = absurd cc
  told_done (Told.refused name octets said holds fits refusal fresh is) e = absurd cc
  told_done (Told.made seed size f fresh is text) e = inl (HasDone.made seed size f)
  told_done (Told.shown name octets capture f said holds fits read fresh is text) e = inl (HasDone.shown octets capture f (loaded_held words table name octets said holds) read)
  told_done (Told.passed name octets capture stations f said holds fits read verdict fresh is text) e = inl (HasDone.obeys octets capture stations f (loaded_held words table name octets said holds) read verdict)
  told_done (Told.failed name octets capture rule packet f said holds fits read verdict fresh is text) e = absurd cc
  told_done (Told.ran name octets plan f said holds fits read did is text) e = inr (plan, 0, CameOf.ran (inl f) (named words table plan name octets said holds fits read) did, is)
  told_done (Told.kept name octets plan f said holds fits read did file is text) e = inr (plan, 0, CameOf.ran (inr f) (named words table plan name octets said holds fits read) did, is)
  told_done (Told.served name octets plan count f said holds fits read did is text) e = inr (plan, count, CameOf.served count f (named words table plan name octets said holds fits read) did, is)

  -- where a run or a serving ended, the planned status is that of its ending, unless the files had a fault
  pub told_ended : Told words table saved faulted first last book planned text → book.ending ≢ endings.Unfinished → (planned ≡ status_of book.ending) ⊎ (planned ≡ statuses.FileFault)
  told_ended (Told.usage f fresh is) ended = absurd (ended fresh.ending)
  told_ended (Told.fault name said rose is) ended = inr is
  told_ended (Told.absent name said holds fresh is) ended = absurd (ended fresh.ending)
  told_ended (Told.long name said big fresh is) ended = absurd (ended fresh.ending)
  told_ended (Told.refused name octets said holds fits refusal fresh is) ended = absurd (ended fresh.ending)
  told_ended (Told.made seed size f fresh is text) ended = absurd (ended fresh.ending)
  told_ended (Told.shown name octets capture f said holds fits read fresh is text) ended = absurd (ended fresh.ending)
  told_ended (Told.passed name octets capture stations f said holds fits read verdict fresh is text) ended = absurd (ended fresh.ending)
  told_ended (Told.failed name octets capture rule packet f said holds fits read verdict fresh is text) ended = absurd (ended fresh.ending)
  told_ended (Told.ran name octets plan f said holds fits read did is text) ended = inl is
  told_ended (Told.kept name octets plan f said holds fits read did file is text) ended = inl is
  told_ended (Told.served name octets plan count f said holds fits read did is text) ended = inl is

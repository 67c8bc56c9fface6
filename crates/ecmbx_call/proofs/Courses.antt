-- What each step of a call adds to its course.
use Rattle.std.proofs.Common.{◌≡◌, ◌≢◌, ℕ, List, [], ◌∷◌, length, map, get_or, codes, String, string_bytes, Bool, if◌then◌else◌, true, false, Option, Result, Ok, Err, OnOk, is_err, ◌⊎◌, refl, sym, subst, ap, inl, inr}
use Rattle.std.specs.declared.alloc.Global.{Global}
use Rattle.std.specs.Str.{bytes_eq}
use Rattle.gateway_stream.specs.of_ec_outside.Files.{Table}
use Rattle.tool_call.specs.of_segment_plan.declared.plan.Scenario.{Scenario}
use Rattle.tool_call.specs.of_scenario_keys.declared.place.Place.{Place}
use Rattle.tool_call.specs.of_scenario_keys.declared.refusal.Refusal.{Refusal}
use Rattle.tool_call.specs.of_scenario_keys.declared.refusal.ReadErr.TheVariants as errors
use Rattle.tool_call.specs.of_scenario_keys.Rules.{Answers}
use Rattle.promised_run.specs.of_scenario.Document.{plan_of}
use Rattle.run_report.specs.of_run_book.declared.book.Book.{Book}
use Rattle.run_report.specs.of_run_book.declared.book.Ending.{Ending}
use Rattle.run_report.specs.of_run_book.declared.book.Ending.TheVariants as endings
use Rattle.tool_call.specs.of_segment_plan.Sound.{IsPlan}
use Rattle.run_report.specs.of_run_book.Book.{IsNew}
use Rattle.promised_run.specs.Bounded.{IsBounded}
use Rattle.promised_run.specs.Promised.{IsPromised}
use Rattle.promised_run.specs.Ran.{HasFrames, EndsAs}
use Rattle.tool_call.specs.of_ecmbx_words.declared.status.Status.{Status}
use Rattle.tool_call.specs.of_ecmbx_words.declared.status.Status.TheVariants as statuses
use Rattle.tool_call.specs.of_ecmbx_words.declared.form.Form.TheVariants as forms
use Rattle.tool_call.specs.of_ecmbx_words.Form.{form_in, name_in, saved_in}
use Rattle.tool_call.specs.of_ecmbx_words.Ends.{PutAll}
use Rattle.tool_call.specs.of_ecmbx_words.Texts.{refusal_line, refused_line, capture_line}
use Rattle.run_report.specs.of_pcap_frames.declared.capture.Capture.{Capture}
use Rattle.run_report.specs.of_pcap_frames.declared.capture.PcapFault.{PcapFault}
use Rattle.run_report.specs.of_pcap_frames.declared.capture.PcapFault.TheVariants as faults
use Rattle.run_report.specs.of_pcap_frames.Reading.{capture_read, UnlessNoMemory}
use Rattle.tool_call.proofs.of_ecmbx_words.Loads.{said, turned, nothing_put}
use Rattle.tool_call.specs.of_ecmbx_words.Files.{FileCourse, Followed, IsLoaded}
use Rattle.ecmbx_call.specs.Files.{limit}
use Rattle.promised_run.specs.of_gateway_run.Serving.{Told as PortTold}
use Rattle.ecmbx_call.specs.Audits.{AuditCourse}
use Rattle.ecmbx_call.specs.Serving.{ServeCourse}
use Rattle.ecmbx_call.specs.Course.{HasRun, IsReportable, RunCourse, SavedCourse, ViewCourse, Course, IsUnread, IsUnsaved, BeganOn, BeganIn}

-- the book of a file that was loaded
pub began_in : (name octets : List ℕ) (table : Option Table) (book : Book) → IsLoaded limit name table octets → IsNew book ⊎ BeganOn octets book → IsNew book ⊎ BeganIn name table book
began_in name octets table book is (inl new) = inl new
began_in name octets table book is (inr began) = inr (octets, is.holds, began)

-- a fault of a save stands behind the load
saved_course : (name : List ℕ) (before table : Option Table) (one other : Type 0) → (one → other) → (book : Book) (octets : List ℕ) (planned : Status) (text : List ℕ) → SavedCourse name before table one book octets planned text → SavedCourse name before table other book octets planned text
saved_course name before table one other turn book octets _ _ (SavedCourse.refused e is new) = SavedCourse.refused e is new
saved_course name before table one other turn book octets _ _ (SavedCourse.unsaved plan is ran rose) = SavedCourse.unsaved plan is ran (turn rose)
saved_course name before table one other turn book octets _ _ (SavedCourse.ran plan is ran held) = SavedCourse.ran plan is ran held

pub saved_later : (name : List ℕ) (before table : Option Table) (one other : Type 0) → (one → other) → (book : Book) (octets : List ℕ) (old new : Option (List ℕ)) (status : Status) → Followed (SavedCourse name before table one book octets) old new status → Followed (SavedCourse name before table other book octets) old new status
saved_later name before table one other turn book octets old new status h =
    turned (SavedCourse name before table one book octets) (SavedCourse name before table other book octets) (saved_course name before table one other turn book octets) old new status h

-- ---- runs

refused_with : (octets : List ℕ) (read : Result Scenario Refusal) (rule : ℕ) (place : Place) (old new : Option (List ℕ)) (status : Status) → plan_of octets ≡ read → Answers (Err (errors.Refused rule place)) read → PutAll statuses.Refused (refusal_line rule place) old new status → IsUnread octets old new status
refused_with octets (Ok plan) rule place old new status is answers put = absurd answers
refused_with octets (Err e) rule place old new status is answers (inl memory) = inl memory
refused_with octets (Err e) rule place old new status is answers (inr ended) = inr (e, is, rw (← answers.0, ← answers.1) ended)

-- octets that are refused
pub unread : (octets : List ℕ) (rule : ℕ) (place : Place) (old new : Option (List ℕ)) (status : Status) → Answers (Err (errors.Refused rule place)) (plan_of octets) → PutAll statuses.Refused (refusal_line rule place) old new status → IsUnread octets old new status
unread octets rule place old new status answers put = refused_with octets (plan_of octets) rule place old new status refl answers put

pub run_unread : (book : Book) (octets : List ℕ) (old new : Option (List ℕ)) (status : Status) → IsNew book → IsUnread octets old new status → Followed (RunCourse book octets) old new status
run_unread book octets old new status fresh (inl memory) = inl memory
run_unread book octets old new status fresh (inr (e, is, ended)) = inr (statuses.Refused, refused_line e, RunCourse.refused e is fresh, ended)

pub save_unread : (name : List ℕ) (before table : Option Table) (faulted : Type 0) (book : Book) (octets : List ℕ) (old new : Option (List ℕ)) (status : Status) → IsNew book → IsUnread octets old new status → Followed (SavedCourse name before table faulted book octets) old new status
save_unread name before table faulted book octets old new status fresh (inl memory) = inl memory
save_unread name before table faulted book octets old new status fresh (inr (e, is, ended)) = inr (statuses.Refused, refused_line e, SavedCourse.refused e is fresh, ended)

-- what a run left
pub has_run : (plan : Scenario) (book : Book) (ending : Ending) → HasFrames plan book → IsPromised plan book → IsBounded plan book → EndsAs plan book ending → book.ending ≡ ending → book.serving ≡ false → book.grams ≡ [] → book.replies ≡ [] → HasRun plan book
has_run plan book ending frames promise bounded ends is serving unheard unsent =
    record { frames = frames; promise = promise; bounded = bounded; ending = subst (λ e. EndsAs plan book e) (sym is) ends; serving = serving; unheard = unheard; unsent = unsent }

-- a save that failed ends a run without a text
pub save_failed : (name : List ℕ) (before table : Option Table) (faulted : Type 0) (plan : Scenario) (book : Book) (octets : List ℕ) (old : Option (List ℕ)) (status : Status) → plan_of octets ≡ Ok plan → HasRun plan book → IsUnsaved name before table faulted status → Followed (SavedCourse name before table faulted book octets) old old status
save_failed name before table faulted plan book octets old status is ran (inl both) = inl both.0
save_failed name before table faulted plan book octets old status is ran (inr failed) = inr (statuses.FileFault, [], SavedCourse.unsaved plan is ran failed.1, inl (failed.0, nothing_put old))

-- a run that ended has a row for each slave
rows_of : (plan : Scenario) (book : Book) (ending : Ending) → EndsAs plan book ending → ending ≢ endings.NoMemory → length book.slaves ≡ length plan.slaves
rows_of plan book endings.Unfinished ends other = absurd ends
rows_of plan book endings.Done ends other = ends.rows.many
rows_of plan book endings.GivenUp ends other = ends.rows.many
rows_of plan book endings.BudgetSpent ends other = ends.rows.many
rows_of plan book endings.PortFault ends other = absurd ends
rows_of plan book endings.NoMemory ends other = absurd (other refl)

-- what can be reported of a run that ended
pub is_reportable : (plan : Scenario) (book : Book) (ending : Ending) → IsPlan plan → HasFrames plan book → EndsAs plan book ending → ending ≢ endings.NoMemory → IsReportable plan book
is_reportable plan book ending sound frames ends other = record {
  few = sound.laid.few_slaves;
  many = rows_of plan book ending ends other;
  at_port = frames.at_port;
}

-- what an answer without an error says
pub ok_of : {E : Type 0} (r : Result (Unit {0}) E) (P : Type 0) → is_err r ≡ false → OnOk r P → P
ok_of (Ok done) P is h = h
ok_of (Err e) P is h = absurd cc

-- octets that are no capture
pub capture_refused : (octets : List ℕ) (course : Status → List ℕ → Type 0) → ((fault : PcapFault) → capture_read octets ≡ Err fault → course statuses.Refused (capture_line fault)) → (read : Result Capture PcapFault) (fault : PcapFault) (old new : Option (List ℕ)) (status : Status) → read ≡ Err fault → UnlessNoMemory read (read ≡ capture_read octets) → PutAll statuses.Refused (capture_line fault) old new status → (fault ≡ faults.NoMemory → status ≡ statuses.NoMemory)
    → Followed course old new status
capture_refused octets course turn read (faults.Short at) old new status is h put memory = let exact = rw is at h in said course statuses.Refused (capture_line (faults.Short at)) old new status (turn (faults.Short at) (sym exact)) put
capture_refused octets course turn read faults.Magic old new status is h put memory = let exact = rw is at h in said course statuses.Refused (capture_line faults.Magic) old new status (turn faults.Magic (sym exact)) put
capture_refused octets course turn read faults.Version old new status is h put memory = let exact = rw is at h in said course statuses.Refused (capture_line faults.Version) old new status (turn faults.Version (sym exact)) put
capture_refused octets course turn read faults.LinkType old new status is h put memory = let exact = rw is at h in said course statuses.Refused (capture_line faults.LinkType) old new status (turn faults.LinkType (sym exact)) put
capture_refused octets course turn read (faults.RecordCut at) old new status is h put memory = let exact = rw is at h in said course statuses.Refused (capture_line (faults.RecordCut at)) old new status (turn (faults.RecordCut at) (sym exact)) put
capture_refused octets course turn read (faults.RecordTooLong at) old new status is h put memory = let exact = rw is at h in said course statuses.Refused (capture_line (faults.RecordTooLong at)) old new status (turn (faults.RecordTooLong at) (sym exact)) put
capture_refused octets course turn read faults.NoMemory old new status is h put memory = inl (memory refl)

-- ---- the words

module _ (words : List (List ℕ)) (table saved : Option Table) (faulted : Type 0) (first last : PortTold) (book : Book) (name : List ℕ) (old new : Option (List ℕ)) (status : Status) where
  pub run_course : form_in words ≡ forms.Run → name ≡ name_in words → Followed (FileCourse limit name table faulted (IsNew book) (RunCourse book)) old new status → Followed (Course words table saved faulted first last book) old new status
  run_course f is h =
      turned (FileCourse limit name table faulted (IsNew book) (RunCourse book)) (Course words table saved faulted first last book)
      (λ planned text c. Course.run planned text f (subst (λ n. FileCourse limit n table faulted (IsNew book) (RunCourse book) planned text) is c)) old new status h

  pub decode_course : form_in words ≡ forms.Decode → name ≡ name_in words → IsNew book → Followed (FileCourse limit name table faulted (Unit {0}) ViewCourse) old new status → Followed (Course words table saved faulted first last book) old new status
  decode_course f is fresh h =
      turned (FileCourse limit name table faulted (Unit {0}) ViewCourse) (Course words table saved faulted first last book)
      (λ planned text c. Course.decode planned text f fresh (subst (λ n. FileCourse limit n table faulted (Unit {0}) ViewCourse planned text) is c)) old new status h

  pub audit_course : form_in words ≡ forms.Audit → name ≡ name_in words → IsNew book → Followed (FileCourse limit name table faulted (Unit {0}) AuditCourse) old new status → Followed (Course words table saved faulted first last book) old new status
  audit_course f is fresh h =
      turned (FileCourse limit name table faulted (Unit {0}) AuditCourse) (Course words table saved faulted first last book)
      (λ planned text c. Course.audit planned text f fresh (subst (λ n. FileCourse limit n table faulted (Unit {0}) AuditCourse planned text) is c)) old new status h

  pub saved_words : (capture : List ℕ) → form_in words ≡ forms.RunSaved → name ≡ name_in words → capture ≡ saved_in words → Followed (FileCourse limit name table faulted (IsNew book) (SavedCourse capture table saved faulted book)) old new status
      → Followed (Course words table saved faulted first last book) old new status
  saved_words capture f is also h =
      turned (FileCourse limit name table faulted (IsNew book) (SavedCourse capture table saved faulted book)) (Course words table saved faulted first last book)
      (λ planned text c. Course.run_saved planned text f (subst (λ n. FileCourse limit n table faulted (IsNew book) (SavedCourse (saved_in words) table saved faulted book) planned text) is
      (subst (λ n. FileCourse limit name table faulted (IsNew book) (SavedCourse n table saved faulted book) planned text) also c))) old new status h

  pub serve_course : (count : ℕ) → form_in words ≡ forms.Serve count → name ≡ name_in words → Followed (FileCourse limit name table faulted (IsNew book) (ServeCourse count first last book)) old new status → Followed (Course words table saved faulted first last book) old new status
  serve_course count f is h =
      turned (FileCourse limit name table faulted (IsNew book) (ServeCourse count first last book)) (Course words table saved faulted first last book)
      (λ planned text c. Course.serve count planned text f (subst (λ n. FileCourse limit n table faulted (IsNew book) (ServeCourse count first last book) planned text) is c)) old new status h

-- the word behind the first, where there is one
pub name_at : (words : List (String Global)) (word : String Global) → word ≡ get_or words 1 word → (form_in (map string_bytes words) ≡ forms.Other → ⊥) → string_bytes word ≡ name_in (map string_bytes words)
name_at [] word is other = absurd (other refl)
name_at (a ∷ []) word is other = absurd (other refl)
name_at (a ∷ b ∷ words) word is other = ap string_bytes is

-- two words don't save a capture
pair_by : (run decode audit : Bool) → (if run then forms.Run else (if decode then forms.Decode else (if audit then forms.Audit else forms.Other))) ≡ forms.RunSaved → ⊥
pair_by true decode audit is = absurd cc
pair_by false true audit is = absurd cc
pair_by false false true is = absurd cc
pair_by false false false is = absurd cc

-- the word behind the second, of a form that saves a capture
pub saved_at : (words : List (String Global)) (word : String Global) → word ≡ get_or words 2 word → form_in (map string_bytes words) ≡ forms.RunSaved → string_bytes word ≡ saved_in (map string_bytes words)
saved_at [] word is f = absurd cc
saved_at (a ∷ []) word is f = absurd cc
saved_at (a ∷ b ∷ []) word is f = absurd (pair_by (bytes_eq (string_bytes a) (codes "run")) (bytes_eq (string_bytes a) (codes "decode")) (bytes_eq (string_bytes a) (codes "audit")) f)
saved_at (a ∷ b ∷ d ∷ words) word is f = ap string_bytes is

-- no form is none
pub run_other : forms.Other ≡ forms.Run → ⊥
run_other is = absurd cc

pub saved_other : forms.Other ≡ forms.RunSaved → ⊥
saved_other is = absurd cc

pub decode_other : forms.Other ≡ forms.Decode → ⊥
decode_other is = absurd cc

pub audit_other : forms.Other ≡ forms.Audit → ⊥
audit_other is = absurd cc

pub serve_other : (count : ℕ) → forms.Other ≡ forms.Serve count → ⊥
serve_other count is = absurd cc

-- What a serving adds to the course of a call.
use Rattle.std.proofs.Common.{◌≡◌, ◌≢◌, ℕ, ◌<◌, ◌⊎◌, List, [], ◌∷◌, length, codes, Bool, if◌then◌else◌, true, false, Option, Some, None, nat_le, ◌&&◌, refl, sym, subst, inl, inr, arith}
use Rattle.std.specs.Str.{bytes_eq}
use Rattle.std.proofs.lemmas.Bool.{leb-true}
use Rattle.gateway_stream.specs.of_ec_outside.Files.{Table}
use Rattle.tool_call.specs.of_segment_plan.declared.plan.Scenario.{Scenario}
use Rattle.tool_call.specs.of_segment_plan.Sound.{IsPlan}
use Rattle.run_report.specs.of_run_book.declared.book.Book.{Book}
use Rattle.run_report.specs.of_run_book.declared.book.Ending.{Ending}
use Rattle.run_report.specs.of_run_book.declared.book.Ending.TheVariants as endings
use Rattle.run_report.specs.of_run_book.Book.{IsNew}
use Rattle.promised_run.specs.Due.{IsServedDue}
use Rattle.promised_run.specs.Given.{IsServedGiven}
use Rattle.promised_run.specs.Left.{IsServedLeft}
use Rattle.promised_run.specs.Ran.{HasSent}
use Rattle.promised_run.specs.Rested.{IsServedRested}
use Rattle.promised_run.specs.SentWhole.{IsServedSentWhole}
use Rattle.promised_run.specs.ServedBooks.{IsServedBooked}
use Rattle.promised_run.specs.ServedBounded.{IsServedBounded}
use Rattle.promised_run.specs.ServedPorts.{IsServedAtPorts}
use Rattle.promised_run.specs.ServedReported.{IsServedReported}
use Rattle.promised_run.specs.Through.{IsServedThrough, IsServedWhole}
use Rattle.promised_run.specs.Visits.{IsServedVisited}
use Rattle.promised_run.specs.Written.{IsServedWritten}
use Rattle.promised_run.specs.of_gateway_run.Serving.{Told}
use Rattle.promised_run.specs.of_gateway_run.Served.{IsServed}
use Rattle.tool_call.specs.of_ecmbx_words.declared.form.Form.TheVariants as forms
use Rattle.tool_call.specs.of_ecmbx_words.declared.status.Status.{Status}
use Rattle.tool_call.specs.of_ecmbx_words.declared.status.Status.TheVariants as statuses
use Rattle.tool_call.specs.of_ecmbx_words.Form.{form_in, made_in, served_in, number_in}
use Rattle.tool_call.specs.of_ecmbx_words.Texts.{refused_line}
use Rattle.tool_call.specs.of_ecmbx_words.Files.{Followed, IsLoaded}
use Rattle.ecmbx_call.specs.Files.{limit}
use Rattle.ecmbx_call.specs.Course.{IsReportable, IsUnread}
use Rattle.ecmbx_call.specs.Serving.{HasServed, ServeCourse, ServedOn, ServedIn}

-- octets that write no plan aren't served
pub serve_unread : (count : ℕ) (first last : Told) (book : Book) (octets : List ℕ) (old new : Option (List ℕ)) (status : Status) → IsNew book → IsUnread octets old new status → Followed (ServeCourse count first last book octets) old new status
serve_unread count first last book octets old new status fresh (inl memory) = inl memory
serve_unread count first last book octets old new status fresh (inr (e, is, ended)) = inr (statuses.Refused, refused_line e, ServeCourse.refused e is fresh, ended)

-- what a serving left
pub has_served : (plan : Scenario) (count : ℕ) (first last : Told) (book : Book) (ending : Ending) → HasSent plan count book → IsServed plan count first last book ending → IsServedThrough plan book → IsServedWhole plan book → IsServedAtPorts plan count book → IsServedSentWhole plan count book → IsServedVisited plan count book → IsServedBooked plan count book → IsServedDue plan count book → IsServedWritten plan count book → IsServedGiven plan count book → IsServedReported plan count book → IsServedRested plan count book → IsServedLeft plan count book → IsServedBounded plan count book → book.ending ≡ ending → HasServed plan count first last book
has_served plan count first last book ending frames served through whole ports sends visits booked due written given replied rests left bounded is = record { frames = frames; served = subst (λ e. IsServed plan count first last book e) (sym is) served; through = through; whole = whole; ports = ports; sends = sends; visits = visits; booked = booked; due = due; written = written; given = given; replied = replied; rests = rests; left = left; bounded = bounded }

-- a serving that ended has a row for each slave
rows_of : (plan : Scenario) (count : ℕ) (first last : Told) (book : Book) (ending : Ending) → ending ≢ endings.NoMemory → IsServed plan count first last book ending → length book.slaves ≡ length plan.slaves
rows_of plan count first last book endings.Done other s = s.0.rows.many
rows_of plan count first last book endings.GivenUp other s = s.0.rows.many
rows_of plan count first last book endings.BudgetSpent other s = s.0.rows.many
rows_of plan count first last book endings.PortFault other s = s.0.many
rows_of plan count first last book endings.NoMemory other s = absurd (other refl)
rows_of plan count first last book endings.Unfinished other s = absurd s.0

-- what can be reported of a serving that ended
pub serving_reportable : (plan : Scenario) (count : ℕ) (first last : Told) (book : Book) (ending : Ending) → IsPlan plan → HasSent plan count book → IsServed plan count first last book ending → ending ≢ endings.NoMemory → IsReportable plan book
serving_reportable plan count first last book ending sound frames served other = record {
  few = sound.laid.few_slaves;
  many = rows_of plan count first last book ending other served;
  at_port = frames.at_port;
}

-- the book of a file that was loaded
pub served_in_file : (name octets : List ℕ) (table : Option Table) (count : ℕ) (first last : Told) (book : Book) → IsLoaded limit name table octets → IsNew book ⊎ ServedOn octets count first last book → IsNew book ⊎ ServedIn name table count first last book
served_in_file name octets table count first last book is (inl new) = inl new
served_in_file name octets table count first last book is (inr served) = inr (octets, is.holds, served)

-- ---- words that ask for a serving have a count above 0

some_by : (n count : ℕ) (least most : Bool) → nat_le 1 n ≡ least → (if least && most then forms.Serve n else forms.Other) ≡ forms.Serve count → 0 < count
some_by n count true true least is = let same : n ≡ count = cc in omega (arith, same, leb-true 1 n least)
some_by n count true false least is = absurd cc
some_by n count false most least is = absurd cc

some_in : (n : Option ℕ) (count : ℕ) → served_in n ≡ forms.Serve count → 0 < count
some_in (Some n) count is = some_by n count (nat_le 1 n) (nat_le n 1000000) refl is
some_in None count is = absurd cc

size_by : (seed size count : ℕ) (fits : Bool) → (if fits then forms.Make seed size else forms.Other) ≡ forms.Serve count → ⊥
size_by seed size count true is = absurd cc
size_by seed size count false is = absurd cc

made_not : (seed size : Option ℕ) (count : ℕ) → made_in seed size ≡ forms.Serve count → ⊥
made_not (Some seed) (Some size) count is = size_by seed size count (nat_le 1 size && nat_le size 4096) is
made_not (Some seed) None count is = absurd cc
made_not None size count is = absurd cc

pair_not : (run decode audit : Bool) (count : ℕ) → (if run then forms.Run else (if decode then forms.Decode else (if audit then forms.Audit else forms.Other))) ≡ forms.Serve count → ⊥
pair_not true decode audit count is = absurd cc
pair_not false true audit count is = absurd cc
pair_not false false true count is = absurd cc
pair_not false false false count is = absurd cc

triple_by : (run make serve : Bool) (second third : Option ℕ) (count : ℕ) → (if run then forms.RunSaved else (if make then made_in second third else (if serve then served_in third else forms.Other))) ≡ forms.Serve count → 0 < count
triple_by true make serve second third count is = absurd cc
triple_by false true serve second third count is = absurd (made_not second third count is)
triple_by false false true second third count is = some_in third count is
triple_by false false false second third count is = absurd cc

pub some_served : (words : List (List ℕ)) (count : ℕ) → form_in words ≡ forms.Serve count → 0 < count
some_served [] count is = absurd cc
some_served (a ∷ []) count is = absurd cc
some_served (a ∷ b ∷ []) count is = absurd (pair_not (bytes_eq a (codes "run")) (bytes_eq a (codes "decode")) (bytes_eq a (codes "audit")) count is)
some_served (a ∷ b ∷ d ∷ []) count is = triple_by (bytes_eq a (codes "run")) (bytes_eq a (codes "make")) (bytes_eq a (codes "serve")) (number_in b) (number_in d) count is
some_served (a ∷ b ∷ d ∷ e ∷ words) count is = absurd cc

-- What a call that serves a plan leaves, and what it puts.
use Rattle.std.specs.Prelude.{◌≡◌, ℕ, List, Option, Some, Ok, Err}
use Rattle.gateway_stream.specs.of_ec_outside.Faults.{Rose}
use Rattle.gateway_stream.specs.of_ec_outside.Files.{Table}
use Rattle.tool_call.specs.of_segment_plan.declared.plan.Scenario.{Scenario}
use Rattle.tool_call.specs.of_scenario_keys.declared.refusal.Refusal.{Refusal}
use Rattle.promised_run.specs.of_scenario.Document.{plan_of}
use Rattle.run_report.specs.of_run_book.declared.book.Book.{Book}
use Rattle.run_report.specs.of_run_book.Book.{IsNew}
use Rattle.promised_run.specs.Due.{IsServedDue}
use Rattle.promised_run.specs.Given.{IsServedGiven}
use Rattle.promised_run.specs.Left.{IsServedLeft}
use Rattle.promised_run.specs.Ran.{HasSent}
use Rattle.promised_run.specs.Rested.{IsServedRested}
use Rattle.promised_run.specs.SentWhole.{IsServedSentWhole}
use Rattle.promised_run.specs.ServedBooks.{IsServedBooked}
use Rattle.promised_run.specs.ServedBounded.{IsServedBounded}
use Rattle.promised_run.specs.ServedPorts.{IsServedAtPorts}
use Rattle.promised_run.specs.ServedReported.{IsServedReported}
use Rattle.promised_run.specs.Through.{IsServedThrough, IsServedWhole}
use Rattle.promised_run.specs.Visits.{IsServedVisited}
use Rattle.promised_run.specs.Written.{IsServedWritten}
use Rattle.run_report.specs.Report.{report_lines}
use Rattle.promised_run.specs.of_gateway_run.Serving.{Told}
use Rattle.promised_run.specs.of_gateway_run.Served.{IsServed}
use Rattle.tool_call.specs.of_ecmbx_words.declared.form.Form.TheVariants as forms
use Rattle.tool_call.specs.of_ecmbx_words.declared.status.Status.{Status}
use Rattle.tool_call.specs.of_ecmbx_words.declared.status.Status.TheVariants as statuses
use Rattle.tool_call.specs.of_ecmbx_words.Form.{form_in, name_in}
use Rattle.tool_call.specs.of_ecmbx_words.Ends.{text_of}
use Rattle.tool_call.specs.of_ecmbx_words.Texts.{refused_line}
use Rattle.tool_call.specs.of_ecmbx_words.Files.{Holds, FileCourse, Followed}
use Rattle.ecmbx_call.specs.Files.{limit}
use Rattle.ecmbx_call.specs.Ends.{status_of}

-- WHAT THE SERVING OF A PLAN LEFT IN ITS BOOK, by what its port told before it and behind it
pub record HasServed (plan : Scenario) (count : ℕ) (first last : Told) (book : Book) : Type 0 where
  -- its frames; its datagrams, what the lives of its slaves have by these frames, and an ending with its cause
  pub frames : HasSent plan count book
  pub served : IsServed plan count first last book book.ending
  -- at each moment what its slaves did and replied to the mails that were passed on, by the server's one step for each, and what was told of each mail, which
  -- behind the frame by which it is over is all that was heard for it
  pub through : IsServedThrough plan book
  pub whole : IsServedWhole plan book
  -- what happened at the port of each slave, with its number
  pub ports : IsServedAtPorts plan count book
  -- epoch by epoch the packets that came in there are the first of those that the slave's carried out rows emit, each whole as it was sent
  pub sends : IsServedSentWhole plan count book
  -- its frames are the visits of one tour: each is addressed to the first slaves of its visit, in order, and to no other
  pub visits : IsServedVisited plan count book
  -- of each script just the rest wasn't sent, and each epoch has its cause
  pub booked : IsServedBooked plan count book
  -- each mail that was accepted of its slaves was due
  pub due : IsServedDue plan count book
  -- the packets that came into hand stand there each with the frame with whose return its last fragment was written, or in doubt
  pub written : IsServedWritten plan count book
  -- behind all of it each datagram that was queued at a slave and is done has all mails of the one step of its slave's server
  pub given : IsServedGiven plan count book
  -- each service of a script has just the reply that the frames of its epoch give
  pub replied : IsServedReported plan count book
  -- where nothing was left to do the newest epoch of each slave that wasn't given up for good is all carried out
  pub rests : IsServedRested plan count book
  -- and where the budget was spent something was left to do
  pub left : IsServedLeft plan count book
  -- where no datagram asks for a download to 2F01:01, a budget of as many frames as the bound for so many datagrams didn't cut it off; and where besides few frames
  -- in a row were lost and the port didn't fail it ended as done
  pub bounded : IsServedBounded plan count book

-- a serving of so many datagrams: refused, or the report of what it came to
pub data ServeCourse (count : ℕ) (first last : Told) (book : Book) (octets : List ℕ) : Status → List ℕ → Type 0 where
  refused : (e : Refusal) → plan_of octets ≡ Err e → IsNew book → ServeCourse count first last book octets statuses.Refused (refused_line e)
  served : (plan : Scenario) → plan_of octets ≡ Ok plan → HasServed plan count first last book → ServeCourse count first last book octets (status_of book.ending) (text_of (report_lines plan book))

-- a serving of the plan that octets write, and what it left
abbrev pub ServedOn : List ℕ → ℕ → Told → Told → Book → Type 0
ServedOn octets count first last book = (plan : Scenario) × (plan_of octets ≡ Ok plan) × HasServed plan count first last book

-- the same of the file under a name
abbrev pub ServedIn : List ℕ → Option Table → ℕ → Told → Told → Book → Type 0
ServedIn name table count first last book = (octets : List ℕ) × Holds table name (Some octets) × ServedOn octets count first last book

-- the same of the file that the words name, with their count
abbrev pub Served : List (List ℕ) → Option Table → Told → Told → Book → Type 0
Served words table first last book = (count : ℕ) × (form_in words ≡ forms.Serve count) × ServedIn (name_in words) table count first last book

-- the file under a name is served
abbrev pub ServesFile : {F O : Type 0} → (F → Option Table) → (F → ℕ) → (O → Option (List ℕ)) → List ℕ → ℕ → Told → Told → Book → F → F → O → O → Status → Type 0
ServesFile table faults written name count first last book files files' out out' status =
    Followed (FileCourse limit name (table files) (Rose (faults files) (faults files')) (IsNew book) (ServeCourse count first last book)) (written out) (written out') status

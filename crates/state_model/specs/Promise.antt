-- What a session of services by mails and state services promises of each slave.
use Rattle.std.specs.Prelude.{◌≡◌, ℕ, suc, ◌+◌, ◌<◌, ◌≤◌, Bool, Option, Some, None, List, [], ◌∷◌, ◌++◌, map, take, length, ⊤}
use Rattle.segment_model.specs.of_exchange_model.Prefix.{IsPrefixOf}
use Rattle.segment_model.specs.of_exchange_model.Exchange.{Exchange, Speech, IsLawful, emitted}
use Rattle.segment_model.specs.of_exchange_model.Rows.{Row, exec_all, emits_all}
use Rattle.segment_model.specs.Slaves.{Slave, Ring, Processor}
use Rattle.segment_model.specs.Record.{Frame, first_end, news_from, heard}
use Rattle.segment_model.specs.Ends.{Task, Outcome, ends}
use Rattle.segment_model.specs.Seats.{Side, Planned, rows_of}
use Rattle.segment_model.specs.Laws.{AllAnswered, IsSettled, WantsNothing}
use Rattle.state_model.specs.States.{Table}
use Rattle.state_model.specs.Stated.{Stated, IsStated, Service, with_states, mails}
use Rattle.state_model.specs.Accounts.{Started, Duty, Change, Account}
use Rattle.state_model.specs.Tasks.{IsTaskPlan, IsTasked}

-- a service as a task of the table of completed services
abbrev pub task_of : {M Q : Type 0} → Service Q → Task M Q
task_of (Service.Mails q) = Task.Mails q
task_of (Service.State target) = Task.State target

-- the outcome of a service by the record, with the frame that completed it
abbrev pub outcome_of : {M Q R : Type 0} → Speech M Q R → (M → Bool) → ℕ → List (Frame M) → Started Q → Option (Outcome R × ℕ)
outcome_of x more station fs s = first_end (ends x more (task_of s.service)) s.frame [] (news_from station s.frame fs)

-- the services of these rows
abbrev pub services_in : {Q : Type 0} → List (Started Q) → List (Service Q)
services_in ss = map (λ s. s.service) ss

-- how many of these go by mails
abbrev pub mails_in : {Q : Type 0} → List (Service Q) → ℕ
mails_in [] = 0
mails_in (Service.Mails q ∷ ss) = suc (mails_in ss)
mails_in (Service.State target ∷ ss) = mails_in ss

-- an outcome that tells that the service was carried out: all but that its last mail was written
abbrev pub IsReply : {R : Type 0} → Outcome R → Type 0
IsReply (Outcome.Replied r) = ⊤
IsReply Outcome.Handed = ⊥
IsReply Outcome.Reached = ⊤
IsReply (Outcome.Refused code) = ⊤

-- each outcome that is a reply is that of its service, on the application, with its AL state, behind the services before it
abbrev pub AllReplied : {V A M Q R : Type 0} → Exchange V A M Q R → Stated V A Q → Table → (M → Bool) → ℕ → List (Frame M) → A × ℕ → List (Started Q) → Type 0
AllReplied x s table more station fs a [] = ⊤
AllReplied {R = R} x s table more station fs a (r ∷ rs) =
    ((o : Outcome R × ℕ) → outcome_of x.speech more station fs r ≡ Some o → IsReply o.0 → o.0 ≡ (with_states x s table).reply a r.service)
    × AllReplied x s table more station fs ((with_states x s table).exec a r.service) rs

-- and its service, the first of which has this number, is among the first count
abbrev pub AllDone : {M Q R : Type 0} → Speech M Q R → (M → Bool) → ℕ → List (Frame M) → ℕ → ℕ → List (Started Q) → Type 0
AllDone x more station fs count number [] = ⊤
AllDone {R = R} x more station fs count number (r ∷ rs) =
    ((o : Outcome R × ℕ) → outcome_of x more station fs r ≡ Some o → IsReply o.0 → number < count) × AllDone x more station fs count (suc number) rs

-- the frame of the next service, or this number where none follows
abbrev pub next_start : {Q : Type 0} → List (Started Q) → ℕ → ℕ
next_start [] end = end
next_start (r ∷ rs) end = r.frame

-- each outcome is of a frame before the next service came into hand, and before the frame with this number
abbrev pub AllRise : {M Q R : Type 0} → Speech M Q R → (M → Bool) → ℕ → List (Frame M) → List (Started Q) → ℕ → Type 0
AllRise x more station fs [] end = ⊤
AllRise {R = R} x more station fs (r ∷ rs) end =
    ((o : Outcome R × ℕ) → outcome_of x more station fs r ≡ Some o → o.1 < next_start rs end) × AllRise x more station fs rs end

-- each of these has an outcome
abbrev pub AllEnded : {M Q R : Type 0} → Speech M Q R → (M → Bool) → ℕ → List (Frame M) → List (Started Q) → Type 0
AllEnded x more station fs [] = ⊤
AllEnded {R = R} x more station fs (r ∷ rs) = ((o : Outcome R × ℕ) × (outcome_of x more station fs r ≡ Some o)) × AllEnded x more station fs rs

-- all but the last
abbrev pub but_last : {X : Type 0} → List X → List X
but_last [] = []
but_last (x ∷ []) = []
but_last (x ∷ (y ∷ more)) = x ∷ but_last (y ∷ more)

-- THE PROMISE for one slave: it has carried out just the first count of the services that came into hand, by mails and AL states, each once and
-- in order; each answer is its application's, in the AL state that stood; at most two services are not among these, and only the newest can be
-- in doubt
pub record TasksPromised {V A M Q R : Type 0} (x : Exchange V A M Q R) (s : Stated V A Q) (table : Table) (more : M → Bool) (fs : List (Frame M))
    (station : ℕ) (start : V) (d : Side M Q R) (a : Account Q R) (n : Slave V M) : Type 0 where
  pub count : ℕ
  pub app : x.app n.node.server.server ≡ (exec_all (with_states x s table) (x.app start, 0) (take count (services_in a.started))).0
  pub handled : x.handled n.node.server.server ≡ x.handled start + mails_in (take count (services_in a.started))
  pub state : n.registers.state ≡ s.state (x.app n.node.server.server)
  pub prefix : count ≤ length a.started
  pub behind : length a.started ≤ count + 2
  pub replied : AllReplied x s table more station fs (x.app start, 0) a.started
  pub in_done : AllDone x.speech more station fs count 0 a.started
  pub rises : AllRise x.speech more station fs a.started (length fs)
  pub in_doubt : AllEnded x.speech more station fs (but_last a.started)
  -- the emissions that were heard are the first of those that these services emit
  pub emissions : IsPrefixOf (emitted x.speech.emission (heard station fs)) (mails (emits_all (with_states x s table) (x.app start, 0) (take count (services_in a.started))))
  -- with no state service in hand no error flag stands
  pub flag : a.hand ≡ None → n.registers.refused ≡ None

-- a service by mails with its frame, where it is one
abbrev pub mail_of : {Q : Type 0} → Service Q → ℕ → List (Q × ℕ)
mail_of (Service.Mails q) frame = (q, frame) ∷ []
mail_of (Service.State target) frame = []

-- the services by mails among those that came into hand, with their frames
abbrev pub mails_started : {Q : Type 0} → List (Started Q) → List (Q × ℕ)
mails_started [] = []
mails_started (r ∷ rs) = mail_of r.service r.frame ++ mails_started rs

-- the services of rows, with their frames
abbrev pub rows_started : {M Q R : Type 0} → List (Row M Q R) → List (Q × ℕ)
rows_started rs = map (λ r. (r.service, r.frame)) rs

-- the target of a state service with its frame, where it is one
abbrev pub state_of : {Q : Type 0} → Service Q → ℕ → List (ℕ × ℕ)
state_of (Service.Mails q) frame = []
state_of (Service.State target) frame = (target, frame) ∷ []

-- the state services among those that came into hand, by their targets and frames
abbrev pub states_started : {Q : Type 0} → List (Started Q) → List (ℕ × ℕ)
states_started [] = []
states_started (r ∷ rs) = state_of r.service r.frame ++ states_started rs

-- those that are over
abbrev pub changes_in : {R : Type 0} → List (Change R) → List (ℕ × ℕ)
changes_in cs = map (λ c. (c.target, c.frame)) cs

-- the one in hand
abbrev pub duty_in : Option Duty → List (ℕ × ℕ)
duty_in None = []
duty_in (Some duty) = (duty.target, duty.frame) ∷ []

-- the outcome of a state service by the record, with the frame that completed it
abbrev pub state_found : {M Q R : Type 0} → Speech M Q R → (M → Bool) → ℕ → List (Frame M) → ℕ → ℕ → Option (Outcome R × ℕ)
state_found x more station fs target frame = outcome_of x more station fs (record { service = Service.State target; frame = frame })

-- each that is over has by the record just its answer, of the frame that completed it
abbrev pub AllFound : {M Q R : Type 0} → Speech M Q R → (M → Bool) → ℕ → List (Frame M) → List (Change R) → Type 0
AllFound x more station fs [] = ⊤
AllFound x more station fs (c ∷ cs) = (state_found x more station fs c.target c.frame ≡ Some (c.answer, c.completed)) × AllFound x more station fs cs

-- the one in hand has none yet
abbrev pub IsOpenYet : {M Q R : Type 0} → Speech M Q R → (M → Bool) → ℕ → List (Frame M) → Option Duty → Type 0
IsOpenYet x more station fs None = ⊤
IsOpenYet x more station fs (Some duty) = state_found x more station fs duty.target duty.frame ≡ None

-- WHAT A BOOK TAKES of one slave is what the record gives: its services by mails are the rows of the master's side, each with the record's
-- answer; its state services are those that are over, each with the record's outcome, and behind them the one in hand, which has none
pub record TasksAnswered {V A M Q R : Type 0} (x : Exchange V A M Q R) (s : Stated V A Q) (table : Table) (more : M → Bool) (fs : List (Frame M))
    (station : ℕ) (start : V) (d : Side M Q R) (a : Account Q R) (n : Slave V M) : Type 0 where
  pub mails : mails_started a.started ≡ rows_started (rows_of d)
  pub answers : AllAnswered x.speech more station fs (rows_of d)
  pub states : states_started a.started ≡ changes_in a.over ++ duty_in a.hand
  pub over : AllFound x.speech more station fs a.over
  pub hand : IsOpenYet x.speech more station fs a.hand

-- WITH NOTHING LEFT: all services are carried out, each has its outcome, and all emissions were heard
pub record TasksRest {V A M Q R : Type 0} (x : Exchange V A M Q R) (s : Stated V A Q) (table : Table) (more : M → Bool) (fs : List (Frame M))
    (station : ℕ) (start : V) (d : Side M Q R) (a : Account Q R) (n : Slave V M) : Type 0 where
  pub app : x.app n.node.server.server ≡ (exec_all (with_states x s table) (x.app start, 0) (services_in a.started)).0
  pub handled : x.handled n.node.server.server ≡ x.handled start + mails_in (services_in a.started)
  pub ended : AllEnded x.speech more station fs a.started
  pub emissions : emitted x.speech.emission (heard station fs) ≡ mails (emits_all (with_states x s table) (x.app start, 0) (services_in a.started))

-- it rests where it is settled and the master wants nothing of it
abbrev pub TasksRestIf : {V A M Q R : Type 0} → Exchange V A M Q R → Stated V A Q → Table → (M → Bool) → List (Frame M) → ℕ → V → Side M Q R → Account Q R → Slave V M → Type 0
TasksRestIf x s table more fs station start d a n = IsSettled n → WantsNothing x.speech d → a.hand ≡ None → TasksRest x s table more fs station start d a n

-- a fact of each slave of a plan that answers to its station, in ring order
abbrev pub EachTask : {V M Q R : Type 0} → (ℕ → V → Side M Q R → Account Q R → Slave V M → Type 0) → List (Planned V) → List (ℕ × Side M Q R) → List (Account Q R) → Ring V M → Type 0
EachTask P [] [] [] [] = ⊤
EachTask P (p ∷ ps) (d ∷ ds) (a ∷ more) (n ∷ ns) =
    ((d.0 ≡ p.station) × (n.0 ≡ p.station) × (p.registers.station ≡ p.station → P p.station p.server d.1 a n.1)) × EachTask P ps ds more ns
EachTask P ps ds more ns = ⊥

-- A SESSION OF A PLAN as it stands: an exchange that owes the laws and whose AL state is a part of its application, the slaves' processors and
-- tables, the plan, and the sides, accounts, ring and frames that a session of it has come to
pub record PlanSession (V A M Q R : Type 0) : Type 0 where
  pub exchange : Exchange V A M Q R
  pub states : Stated V A Q
  pub processor : Processor V
  pub table : ℕ → Table
  pub plan : List (Planned V)
  pub sides : List (ℕ × Side M Q R)
  pub accounts : List (Account Q R)
  pub ring : Ring V M
  pub frames : List (Frame M)
  pub lawful : IsLawful exchange
  pub stated : IsStated exchange states
  pub planned : IsTaskPlan exchange states processor table plan
  pub tasked : IsTasked exchange states.acknowledged processor plan sides accounts ring frames

-- a fact of each slave of it that answers to its station
abbrev pub OfEach : {V A M Q R : Type 0} → PlanSession V A M Q R → (ℕ → V → Side M Q R → Account Q R → Slave V M → Type 0) → Type 0
OfEach w P = EachTask P w.plan w.sides w.accounts w.ring

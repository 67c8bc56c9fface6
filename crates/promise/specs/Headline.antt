-- THE PROMISE OF A RUN, over its plan and its book alone.
use Rattle.std.specs.Prelude.{◌≡◌, ◌≢◌, ◌≤◌, ◌⊎◌, ℕ, suc, ◌+◌, nat_le, nat_lt, ◌&&◌, ◌||◌, Bool, true, false, Option, Some, None, List, [], ◌∷◌, map, length, drop, slice_get, if◌then◌else◌, ⊤}
use Rattle.arrayvec.specs.ArrayVec.{ArrayVec}
use Rattle.run_book.specs.declared.book.Book.{Book}
use Rattle.run_book.specs.declared.book.Emergency.{Emergency}
use Rattle.run_book.specs.declared.book.Ending.{Ending}
use Rattle.run_book.specs.declared.book.Ending.TheVariants as endings
use Rattle.run_book.specs.declared.book.SlaveBook.{SlaveBook}
use Rattle.segment_plan.specs.Bound.{bound_of}
use Rattle.segment_plan.specs.declared.plan.Scenario.{Scenario}
use Rattle.segment_plan.specs.declared.service.Service as Plan
use Rattle.segment_plan.specs.declared.service.Service.TheVariants as Asked
use Rattle.segment_plan.specs.declared.slave.SlaveSpec.{SlaveSpec}
use Rattle.segment_ring.specs.Schedule.{fate_at}
use Rattle.segment_ring.specs.declared.wire.Fate.{Fate}
use Rattle.segment_ring.specs.declared.wire.Fate.TheVariants.{Pass, Lost}
use Rattle.slave_server.specs.Serving.{next_mail}
use Rattle.slave_node.specs.Node.{is_settled}
use Rattle.promise.specs.First.{first_app, script_for}
use Rattle.promise.specs.Fits.{AllCarriedOut, EpochsFit, Held, LastRests, opens_own}
use Rattle.promise.specs.Frames.{HoldsMail, Came, AllFound, emergencies_of, packets_of}
use Rattle.promise.specs.Ports.{Side, HasHost, HasPort, events_at, forwarded, port_of}
use Rattle.promise.specs.Replay.{AreReplayed, app_held, first_ring, nodes_behind}
use Rattle.promise.specs.Rows.{AreBegun, EpochRows, Row, epochs_of, numbers_by, packet_number, rows_of, script_number}
use Rattle.promise.specs.Visits.{AllVisit, IsGivenUp, first_tour}

-- ---- a slave in a book

-- the number behind a frame, or this one
abbrev pub since : ℕ → Option ℕ → ℕ
since n None = n
since n (Some frame) = suc frame

-- what stands at a port, where there is one
abbrev pub at_port : {X : Type 0} → (ℕ → List X) → Option ℕ → List X
at_port of None = []
at_port of (Some port) = of port

-- the packets forwarded to the slave at a place
abbrev pub packets_for : Scenario → Book → ℕ → List (ArrayVec ℕ)
packets_for plan book place = at_port (forwarded plan.slaves book.switch) (port_of plan place)

-- those that came in from it
abbrev pub packets_from : Scenario → Book → ℕ → List (List ℕ)
packets_from plan book place = at_port (λ port. map (λ c. c.octets) (events_at Side.Arrives port book.switch book.switched)) (port_of plan place)

-- its rows, epoch by epoch
abbrev pub epochs_in : Scenario → Book → ℕ → SlaveBook → List EpochRows
epochs_in plan book place row =
    epochs_of (rows_of (script_for place plan.services) (packets_for plan book place) row.begun row.answers) (map (λ (e : Emergency). e.octets) row.emergencies) (packets_from plan book place) row.epochs

-- how many frames an epoch before these has: up to the one whose return showed the next one's Init, or all
abbrev pub frames_until : Book → List EpochRows → ℕ
frames_until book [] = length book.frames
frames_until book (e ∷ es) = since (length book.frames) e.cleared

-- what it holds as each epoch ends: behind the frame whose return showed the next one's Init, or behind all frames; with these counts
abbrev pub held_in : Scenario → Book → ℕ → SlaveSpec → List EpochRows → List ℕ → List Held
held_in plan book place s [] counts = []
held_in plan book place s (e ∷ es) [] = []
held_in plan book place s (e ∷ es) (count ∷ counts) =
    record { app = app_held plan book.frames place s (frames_until book es); count = count } ∷ held_in plan book place s es counts

-- THE BOOK OF A SLAVE FITS, with how many rows of each epoch it has carried out
pub record Fits (plan : Scenario) (book : Book) (place : ℕ) (s : SlaveSpec) (row : SlaveBook) : Type 0 where
  pub counts : List ℕ
  pub each : EpochsFit s.start row.gave (first_app s) (epochs_in plan book place row) (held_in plan book place s (epochs_in plan book place row) counts)

-- ALL HAS BEGUN of it: its script, and each packet that was forwarded to its port
pub record AllBegun (plan : Scenario) (book : Book) (place : ℕ) (row : SlaveBook) : Type 0 where
  pub scripts : length (numbers_by script_number row.begun) ≡ length (script_for place plan.services)
  pub packets : length (numbers_by packet_number row.begun) ≡ length (packets_for plan book place)

-- NOTHING IS LEFT of it: it was given up for good, or all has begun, and the newest epoch is opened, carried out, answered and heard of
pub record Rests (plan : Scenario) (book : Book) (place : ℕ) (s : SlaveSpec) (row : SlaveBook) (fits : Fits plan book place s row) : Type 0 where
  pub begun : AllBegun plan book place row
  pub last : LastRests s.start (first_app s) (epochs_in plan book place row) (held_in plan book place s (epochs_in plan book place row) fits.counts)

-- ALL OF IT IS DONE: besides, it was never given up, and all rows of each epoch are carried out and answered
pub record IsDone (plan : Scenario) (book : Book) (place : ℕ) (s : SlaveSpec) (row : SlaveBook) (fits : Fits plan book place s row) : Type 0 where
  pub rests : Rests plan book place s row fits
  pub never : row.gave ≡ []
  pub each : AllCarriedOut (epochs_in plan book place row) (held_in plan book place s (epochs_in plan book place row) fits.counts)

-- an emergency of a book is what came
abbrev pub came_as : Emergency → Came
came_as e = record { octets = e.octets; frame = e.frame }

-- some number of these is from this one on and below that
abbrev pub gave_between : ℕ → Option ℕ → List ℕ → Bool
gave_between from to [] = false
gave_between from to (g ∷ gs) = (nat_le from g && nat_lt g (since 0 to)) || gave_between from to gs

-- each but the first epoch has a cause: its first row returned the slave to Init, or the slave was given up between the return to Init before and its own
abbrev pub caused_by : ℕ → List ℕ → EpochRows → Type 0
caused_by from gave e = (opens_own e.cleared e.rows ≡ true) ⊎ (gave_between from e.cleared gave ≡ true)

-- of all epochs behind the first
abbrev pub AllCaused : ℕ → List ℕ → List EpochRows → Type 0
AllCaused from gave [] = ⊤
AllCaused from gave (e ∷ es) = caused_by from gave e × AllCaused (since 0 e.cleared) gave es

-- ---- THE PROMISE FOR ONE SLAVE at its place
pub record KeepsOne (plan : Scenario) (book : Book) (place : ℕ) (s : SlaveSpec) (row : SlaveBook) : Type 0 where
  -- what came into hand are the first services of its script and the packets forwarded to it, each once and in order; the rest wasn't sent
  pub begun : AreBegun (script_for place plan.services) (packets_for plan book place) (length book.frames) row
  -- epoch by epoch its application carried out just the first of these, each answer is that application's, and what it sent arrived whole and in order
  pub fits : Fits plan book place s row
  -- each answer and emergency is just what the frames give
  pub found : AllFound plan book.frames place s row.gave (epochs_in plan book place row)
  pub emergencies : map came_as row.emergencies ≡ emergencies_of plan book.frames place s (epochs_in plan book place row)
  -- it was given up at just the frames that the losses say, and each epoch has its cause
  pub given_up : IsGivenUp plan book.frames s row
  pub caused : AllCaused 0 row.gave (drop 1 (epochs_in plan book place row))
  -- its node is the replay's, and what happened at its port is what its rows and the frames say
  pub node : slice_get (nodes_behind plan book.frames (length book.frames)) place ≡ Some row.node
  pub port : (port : ℕ) → port_of plan place ≡ Some port → HasPort plan book port row (packets_of plan book.frames place s (epochs_in plan book place row))

-- where there is nothing left to do: nothing is left of it, and it is settled, unless it was given up for good
abbrev pub RestsIf : (plan : Scenario) (book : Book) (place : ℕ) (s : SlaveSpec) (row : SlaveBook) → KeepsOne plan book place s row → Type 0
RestsIf plan book place s row k = row.given_up ≡ None → Rests plan book place s row k.fits × (is_settled next_mail row.node ≡ true)

-- ---- of all slaves

-- this holds of each slave of a plan with its row
abbrev pub EachSlave : Scenario → Book → (ℕ → SlaveSpec → SlaveBook → Type 0) → Type 0
EachSlave plan book P = (place : ℕ) (s : SlaveSpec) (row : SlaveBook) → slice_get plan.slaves place ≡ Some s → slice_get book.slaves place ≡ Some row → P place s row

-- the frames that a plan without a budget gets, or those of its budget
abbrev pub budget_or : Option ℕ → ℕ → ℕ
budget_or (Some frames) bound = frames
budget_or None bound = if nat_lt bound 100000000 then bound else 100000000

-- the most frames of a run, or of a serving that hears so many datagrams
abbrev pub budget_of : Scenario → ℕ → ℕ
budget_of plan grams = budget_or plan.budget (bound_of plan grams)

-- a frame with this fate is lost
abbrev pub IsLost : Fate → Type 0
IsLost Pass = ⊥
IsLost (Lost after) = ⊤

-- no more frames in a row are lost than the retry limit
abbrev pub Within : List (ℕ × ℕ) → ℕ → Type 0
Within lose retry = (first : ℕ) → ((k : ℕ) → k ≤ retry → IsLost (fate_at lose (first + k))) → ⊥

-- where a slave isn't given up for good all packets of the host came in
abbrev pub AllEntered : Scenario → Book → Type 0
AllEntered plan book = ((row : SlaveBook) × (place : ℕ) × (slice_get book.slaves place ≡ Some row) × (row.given_up ≡ None)) → length (events_at Side.Arrives 0 book.switch book.switched) ≡ length plan.host

-- THE PROMISE FOR EACH SLAVE
abbrev pub Keeps : Scenario → Book → Type 0
Keeps plan book = EachSlave plan book (KeepsOne plan book)

-- this holds of each, by what is promised of it
abbrev pub EachKept : (plan : Scenario) (book : Book) → Keeps plan book → ((place : ℕ) (s : SlaveSpec) (row : SlaveBook) → KeepsOne plan book place s row → Type 0) → Type 0
EachKept plan book keeps P =
    (place : ℕ) (s : SlaveSpec) (row : SlaveBook) (is : slice_get plan.slaves place ≡ Some s) (has : slice_get book.slaves place ≡ Some row) → P place s row (keeps place s row is has)

-- NOTHING IS LEFT TO DO
pub record NothingLeft (plan : Scenario) (book : Book) (keeps : Keeps plan book) : Type 0 where
  pub each : EachKept plan book keeps (λ place s row k. RestsIf plan book place s row k)
  pub host : AllEntered plan book

-- a service that reads a file
abbrev pub is_read : Plan.Service → Bool
is_read (Asked.ReadFile name pass) = true
is_read _ = false

-- the last of these rows is a file that was read, whose last part is still to be acknowledged
abbrev pub ends_with_read : List Row → Bool
ends_with_read [] = false
ends_with_read (r ∷ []) = is_read r.service
ends_with_read (r ∷ (q ∷ rs)) = ends_with_read (q ∷ rs)

-- all that may be left where each answer is there: the last part of a file that was read is to be acknowledged, or a mail is held whose write didn't come back done
abbrev pub OwesSome : Scenario → Book → Type 0
OwesSome plan book =
    (place : ℕ) × (s : SlaveSpec) × (row : SlaveBook) × (slice_get plan.slaves place ≡ Some s) × (slice_get book.slaves place ≡ Some row) × (row.given_up ≡ None)
    × ((ends_with_read (rows_of (script_for place plan.services) (packets_for plan book place) row.begun row.answers) ≡ true)
    ⊎ HoldsMail plan book.frames place s (epochs_in plan book place row))

-- HOW IT ENDED, by the book
abbrev pub EndsAs : (plan : Scenario) (grams : ℕ) (book : Book) → Keeps plan book → Ending → Type 0
EndsAs plan grams book keeps endings.Done =
    NothingLeft plan book keeps × EachKept plan book keeps (λ place s row k. IsDone plan book place s row k.fits)
EndsAs plan grams book keeps endings.GivenUp =
    NothingLeft plan book keeps × ((place : ℕ) × (row : SlaveBook) × (slice_get book.slaves place ≡ Some row) × (row.gave ≢ []))
EndsAs plan grams book keeps endings.BudgetSpent = (length book.frames ≡ budget_of plan grams) × (NothingLeft plan book keeps → OwesSome plan book)
EndsAs plan grams book keeps endings.PortFault = ⊤
EndsAs plan grams book keeps endings.NoMemory = ⊤
EndsAs plan grams book keeps endings.Unfinished = ⊥

-- WHAT ALWAYS HOLDS OF ITS FRAMES, also where memory ran out: each is as the ring of the plan's slaves gives it, and there are no more than the budget
pub record HasFrames (plan : Scenario) (grams : ℕ) (book : Book) : Type 0 where
  pub replayed : AreReplayed (first_ring plan) book.frames
  pub few : length book.frames ≤ budget_of plan grams
  pub visits : AllVisit plan (first_tour plan) book.frames

-- ALL THAT A RUN PROMISES unless memory runs out
pub record Headline (plan : Scenario) (book : Book) : Type 0 where
  pub frames : HasFrames plan 0 book
  pub alone : (book.serving ≡ false) × (book.grams ≡ []) × (book.replies ≡ [])
  pub many : length book.slaves ≡ length plan.slaves
  pub keeps : Keeps plan book
  pub host : HasHost plan book
  pub ends : EndsAs plan 0 book keeps book.ending
  pub portless : book.ending ≢ endings.PortFault
  pub bounded : bound_of plan 0 ≤ budget_of plan 0 → book.ending ≢ endings.BudgetSpent
  pub few : Within plan.lose plan.retry → book.ending ≢ endings.GivenUp

-- THE CLAUSE: its frames in any case, and all the rest unless memory ran out
abbrev pub Promised : Scenario → Book → Type 0
Promised plan book = HasFrames plan 0 book × (book.ending ≢ endings.NoMemory → Headline plan book)

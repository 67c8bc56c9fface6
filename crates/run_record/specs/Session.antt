-- A run that is made frame by frame.
use Rattle.std.specs.Prelude.{◌≡◌, ℕ, zero, suc, map, replicate, if◌then◌else◌, false, Bool, true, nat_lt, ◌||◌, List, [], ◌∷◌, ◌++◌, ◌⊎◌, length, Option, Some, None, is_some}
use Rattle.std.specs.List.{list_all, list_any}
use Rattle.arrayvec.specs.ArrayVec.{ArrayVec}
use Rattle.packets_heard.specs.of_eoe_switch.declared.switching.SwitchEvent.{SwitchEvent}
use Rattle.packets_heard.specs.of_segment_plan.Bound.{bound_of}
use Rattle.packets_heard.specs.of_segment_plan.declared.plan.Scenario.{Scenario}
use Rattle.served_places.specs.of_segment_ring.Ring.{RingState}
use Rattle.packets_heard.specs.of_slave_node.Node.{Node, is_settled}
use Rattle.packets_heard.specs.of_slave_server.Serving.{next_mail}
use Rattle.packets_heard.specs.of_slave_server.declared.server.SlaveServer.{SlaveServer}
use Rattle.run_notes.specs.of_run_book.Book.{IsShort}
use Rattle.run_notes.specs.of_run_book.Ports.{ports_of}
use Rattle.run_notes.specs.of_run_book.declared.book.Book.{Book}
use Rattle.run_notes.specs.of_run_book.declared.book.SentFrame.{SentFrame}
use Rattle.run_notes.specs.of_run_book.declared.book.SlaveBook.{SlaveBook}
use Rattle.run_notes.specs.declared.notes.Notes.{Notes}
use Rattle.plan_ring.specs.of_mailbox_mail.declared.mail.Mail.{Mail}
use Rattle.run_notes.specs.declared.standing.AskedMail.{AskedMail}
use Rattle.packets_heard.specs.of_master_node.Entering.{IsIdle}
use Rattle.packets_heard.specs.of_master_node.declared.node.MasterNode.{MasterNode}
use Rattle.served_places.specs.of_master_tour.Goes.{is_live}
use Rattle.served_places.specs.of_life_runs.Led.{Exchanged}
use Rattle.packets_heard.specs.Numbers.{each_with}
use Rattle.run_record.specs.Led.{exchanged}
use Rattle.run_record.specs.ServedLed.{LeadsFrame, ServedLeading}
use Rattle.run_record.specs.Replay.{first_ring, behind, IsRecorded}
use Rattle.run_notes.specs.Counted.{slaves_at}
use Rattle.run_notes.specs.Switched.{IsSwitched}
use Rattle.run_notes.specs.Times.{IsTimedBy, between}
use Rattle.run_notes.specs.Slaves.{first_notes, home_of, slave_row, slave_rows, KeepsRest}

-- a session: the ring with its slaves, what became of each slave, their stations and the lengths of their mailboxes, the mails that are
-- passed on to each and how many of them still wait, the master, the ports of its switch and the slaves at them, how often a slave is taken up again, the most frames, and
-- whether requests are served
pub record SessionState : Type 0 where
  pub ring : RingState (Node SlaveServer)
  pub notes : List Notes
  pub homes : List (ℕ × ℕ)
  pub asked : List (List AskedMail)
  pub waiting : List ℕ
  pub master : MasterNode
  pub ports : ℕ
  pub at_ports : List ℕ
  pub recover : ℕ
  pub budget : ℕ
  pub serving : Bool

-- the frames that a plan without a budget gets
abbrev pub smaller_bound : ℕ → ℕ
smaller_bound frames = if nat_lt frames 100000000 then frames else 100000000

-- or those of its budget
abbrev pub budget_or : Option ℕ → ℕ → ℕ
budget_or (Some frames) bound = frames
budget_or None bound = smaller_bound bound

-- the most frames that a run of the plan sends, or a serving of it that hears so many datagrams
abbrev pub budget_of : Scenario → ℕ → ℕ
budget_of plan grams = budget_or plan.budget (bound_of plan grams)

-- a session of a plan before its first frame, with this master
abbrev pub first_session : Scenario → ℕ → MasterNode → SessionState
first_session plan grams master = record {
  ring = first_ring plan;
  notes = first_notes plan.services 0 plan.slaves;
  homes = map home_of plan.slaves;
  asked = replicate (length plan.slaves) [];
  waiting = replicate (length plan.slaves) 0;
  master = master;
  ports = ports_of plan.slaves;
  at_ports = slaves_at 0 plan.slaves;
  recover = plan.recover;
  budget = budget_of plan grams;
  serving = nat_lt 0 grams;
}

-- the rows of a session's slaves
abbrev pub session_rows : SessionState → List SlaveBook
session_rows s = slave_rows s.recover s.ring.nodes s.notes

-- a slave that is live has nothing left to do
abbrev pub is_at_rest : SlaveBook → Bool
is_at_rest row = is_some row.given_up || is_settled next_mail row.node

-- the slave of a place, where there is one, has nothing left to do
abbrev pub rests_at : ℕ → Option (Node SlaveServer) → Notes → Bool
rests_at recover (Some node) n = is_at_rest (slave_row recover node n)
rests_at recover None n = true

-- each has nothing left to do
abbrev pub are_at_rest : List SlaveBook → Bool
are_at_rest rows = list_all is_at_rest rows

-- a slave was given up, for good or not
abbrev pub has_given_up : SlaveBook → Bool
has_given_up row = nat_lt 0 (length row.gave)

-- one of them was given up
abbrev pub some_given_up : List SlaveBook → Bool
some_given_up rows = list_any has_given_up rows

-- some slave is live
abbrev pub has_live : MasterNode → Bool
has_live m = list_any (λ s. is_live s.stand) m.tour.stops.items

-- it is led, by whatever lives its master leads
abbrev pub LedOn : SessionState → SentFrame → Type 0
LedOn s f = (plan : Scenario) (fs : List Exchanged) → length fs ≡ s.ring.number → has_live s.master ≡ true → (l : ServedLeading plan s.master fs) → LeadsFrame plan s.master fs (exchanged f) l

-- the packets of the book stay those of the master's switch, and each event has the number of the frames that had been sent then
abbrev pub SwitchesOn : SessionState → Book → SessionState → Book → Type 0
SwitchesOn s b s' b' = (host : List (ArrayVec ℕ)) → IsSwitched s.ports host s.ring.number s.master.lan b → IsSwitched s'.ports host s'.ring.number s'.master.lan b'

-- what is noted goes on with the book: the frames of rows don't fall, and the epochs have their counts
abbrev pub TimesOn : SessionState → Book → SessionState → Book → Type 0
TimesOn s b s' b' = IsTimedBy (between s.ring.number) s.at_ports b s.notes → IsTimedBy (between s'.ring.number) s'.at_ports b' s'.notes

-- WHAT HAPPENS AT THE SWITCH over a frame: while it is made, and by its return or its loss
pub record FrameEvents : Type 0 where
  pub making : List SwitchEvent
  pub behind : List SwitchEvent

-- the numbers of that, where so many frames were sent before: how many had been when each event came
abbrev pub numbers_over : ℕ → FrameEvents → List ℕ
numbers_over frame happened = each_with frame happened.making ++ each_with (suc frame) happened.behind

-- A BOOK HAS JUST THESE EVENTS MORE, each with its number
pub record IsGrown (frame : ℕ) (happened : FrameEvents) (b b' : Book) : Type 0 where
  pub switch : b'.switch ≡ b.switch ++ (happened.making ++ happened.behind)
  pub switched : b'.switched ≡ b.switched ++ numbers_over frame happened

-- where the packets of the book are those of the master's switch
abbrev pub SwitchGrows : SessionState → Book → FrameEvents → Book → Type 0
SwitchGrows s b happened b' = (host : List (ArrayVec ℕ)) → IsSwitched s.ports host s.ring.number s.master.lan b → IsGrown s.ring.number happened b b'

-- ALL IS DONE, for the master and at each live slave
pub record IsDone (s : SessionState) : Type 0 where
  pub idle : IsIdle s.master
  pub at_rest : are_at_rest (session_rows s) ≡ true

-- ONE STEP: one frame more stands in the book, as the ring before gives it, and the ring is the one behind that frame
pub record Steps (s : SessionState) (b : Book) (s' : SessionState) (b' : Book) (f : SentFrame) : Type 0 where
  pub put : b'.frames ≡ b.frames ++ f ∷ []
  pub recorded : IsRecorded s.ring f
  pub short : IsShort f
  pub ring : s'.ring ≡ behind s.ring f.sent
  pub homes : s'.homes ≡ s.homes
  pub asked : s'.asked ≡ s.asked
  pub ports : s'.ports ≡ s.ports
  pub at_ports : s'.at_ports ≡ s.at_ports
  pub recover : s'.recover ≡ s.recover
  pub budget : s'.budget ≡ s.budget
  pub serving : s'.serving ≡ s.serving
  pub rest : KeepsRest s.ports b b'
  pub switch : SwitchesOn s b s' b'
  pub timed : TimesOn s b s' b'

-- a mail as it is passed on, with the key of its asker
abbrev pub asked_mail : ℕ → Mail → AskedMail
asked_mail key mail = record { key = key; kind = mail.kind; body = mail.body.items }

-- the mails of each slave, with one more for the slave at a place
abbrev pub asked_more : List (List AskedMail) → ℕ → AskedMail → List (List AskedMail)
asked_more [] slave more = []
asked_more (mails ∷ rest) zero more = (mails ++ more ∷ []) ∷ rest
asked_more (mails ∷ rest) (suc slave) more = mails ∷ asked_more rest slave more

-- A MAIL IS PASSED ON: it stands behind those of its slave, unless as many wait as may, and nothing else changes but how many wait
abbrev pub Asks : ℕ → ℕ → Mail → SessionState → SessionState → Bool → Type 0
Asks slave key mail s s' true = s' ≡ record s { asked = asked_more s.asked slave (asked_mail key mail); waiting = s'.waiting; master = s'.master }
Asks slave key mail s s' false = s' ≡ record s { waiting = s'.waiting; master = s'.master }

-- memory ran out in a step: the book has the frame of the step, or not
pub record Stops (s : SessionState) (b b' : Book) : Type 0 where
  pub frames : (b'.frames ≡ b.frames) ⊎ ((f : SentFrame) × (b'.frames ≡ b.frames ++ f ∷ []) × IsRecorded s.ring f × IsShort f × LedOn s f)
  pub rest : KeepsRest s.ports b b'

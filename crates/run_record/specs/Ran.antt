-- What a run leaves in its book.
use Rattle.std.specs.Prelude.{◌≡◌, ◌≤◌, ℕ, Bool, true, false, nat_lt, Option, Some, None, List, [], length, map, All, slice_get}
use Rattle.packets_heard.specs.of_segment_plan.declared.plan.Scenario.{Scenario}
use Rattle.packets_heard.specs.of_master_node.Forwards.{port_by}
use Rattle.packets_heard.specs.of_master_node.Ports.{ports_behind}
use Rattle.packets_heard.specs.Numbers.{comes_in, numbers_where}
use Rattle.run_notes.specs.of_run_book.Book.{IsShort}
use Rattle.run_notes.specs.of_run_book.Ports.{ports_of, IsAtPort}
use Rattle.run_notes.specs.of_run_book.declared.book.Book.{Book}
use Rattle.run_notes.specs.of_run_book.declared.book.Ending.{Ending}
use Rattle.run_notes.specs.of_run_book.declared.book.Ending.TheVariants as endings
use Rattle.run_notes.specs.of_run_book.declared.book.SlaveBook.{SlaveBook}
use Rattle.run_record.specs.Replay.{first_ring, ring_after, AreRecorded}
use Rattle.run_record.specs.Session.{SessionState, session_rows, budget_of, are_at_rest, some_given_up}
use Rattle.run_notes.specs.Counted.{AreDated, slaves_at}
use Rattle.run_notes.specs.Slaves.{home_of}
use Rattle.run_notes.specs.Switched.{IsSwitched}
use Rattle.run_notes.specs.Times.{IsTimedBy, between}

-- the frames of a serving that hears so many datagrams, or of a run, which hears none: each as the ring of the plan's new slaves gives it,
-- and no more than the budget; and each event at a port of the switch
pub record HasSent (plan : Scenario) (grams : ℕ) (book : Book) : Type 0 where
  pub recorded : AreRecorded (first_ring plan) book.frames
  pub few : length book.frames ≤ budget_of plan grams
  pub short : All IsShort book.frames
  pub at_port : All (IsAtPort (ports_of plan.slaves)) book.switch

-- the frames of a run
abbrev pub HasFrames : Scenario → Book → Type 0
HasFrames plan book = HasSent plan 0 book

-- a session that is under way: what it and its book have in common
pub record IsUnderway (plan : Scenario) (grams : ℕ) (s : SessionState) (b : Book) : Type 0 where
  pub ring : s.ring ≡ ring_after (first_ring plan) b.frames
  pub recorded : AreRecorded (first_ring plan) b.frames
  pub short : All IsShort b.frames
  pub homes : s.homes ≡ map home_of plan.slaves
  pub ports : s.ports ≡ ports_of plan.slaves
  pub at_port : All (IsAtPort (ports_of plan.slaves)) b.switch
  pub recover : s.recover ≡ plan.recover
  pub budget : s.budget ≡ budget_of plan grams
  pub serves : s.serving ≡ nat_lt 0 grams
  pub few : s.ring.number ≤ s.budget
  pub slaves : b.slaves ≡ []
  pub switched : IsSwitched s.ports plan.host s.ring.number s.master.lan b
  pub at_ports : s.at_ports ≡ slaves_at 0 plan.slaves
  pub timed : IsTimedBy (between s.ring.number) s.at_ports b s.notes

-- the frame at which a slave was given up for good
abbrev pub IsGivenUp : ℕ → SlaveBook → Type 0
IsGivenUp recover row = row.given_up ≡ slice_get row.gave recover

-- when the packets of a slave with this port came in, as a book has it: how many frames had been sent then
abbrev pub packets_by : Option ℕ → Book → List ℕ
packets_by None book = []
packets_by (Some port) book = numbers_where (comes_in port) book.switch book.switched

-- of the slave at a place
abbrev pub packets_of : Scenario → Book → ℕ → List ℕ
packets_of plan book k = packets_by (port_by (slice_get (ports_behind 0 plan.slaves) k)) book

-- the rows of a run's slaves: the slaves are those behind the frames, one row each; the frames of the services that came into hand don't fall, and the epochs have their counts
pub record HasRows (plan : Scenario) (book : Book) : Type 0 where
  pub many : length book.slaves ≡ length plan.slaves
  pub nodes : map (λ (row : SlaveBook). row.node) book.slaves ≡ (ring_after (first_ring plan) book.frames).nodes
  pub given_up : All (IsGivenUp plan.recover) book.slaves
  pub dated : AreDated (length book.frames) (packets_of plan book) book.slaves

-- how a run's session may end
abbrev pub EndsSo : SessionState → Ending → Type 0
EndsSo s endings.Done = (are_at_rest (session_rows s) ≡ true) × (some_given_up (session_rows s) ≡ false)
EndsSo s endings.GivenUp = (are_at_rest (session_rows s) ≡ true) × (some_given_up (session_rows s) ≡ true)
EndsSo s endings.BudgetSpent = s.ring.number ≡ s.budget
EndsSo s endings.NoMemory = ⊥
EndsSo s endings.PortFault = ⊥
EndsSo s endings.Unfinished = ⊥

-- a run with nothing left to do, in which a slave was given up or none was
pub record IsOver (plan : Scenario) (book : Book) (some : Bool) : Type 0 where
  pub rows : HasRows plan book
  pub at_rest : are_at_rest book.slaves ≡ true
  pub gave : some_given_up book.slaves ≡ some

-- a run or serving that was cut off: as many frames as the budget allows
pub record IsCut (plan : Scenario) (grams : ℕ) (book : Book) : Type 0 where
  pub rows : HasRows plan book
  pub spent : length book.frames ≡ budget_of plan grams

-- a run that was cut off
abbrev pub IsSpent : Scenario → Book → Type 0
IsSpent plan book = IsCut plan 0 book

-- HOW A RUN ENDS
abbrev pub EndsAs : Scenario → Book → Ending → Type 0
EndsAs plan book endings.Done = IsOver plan book false
EndsAs plan book endings.GivenUp = IsOver plan book true
EndsAs plan book endings.BudgetSpent = IsSpent plan book
EndsAs plan book endings.NoMemory = Unit {0}
EndsAs plan book endings.PortFault = ⊥
EndsAs plan book endings.Unfinished = ⊥

-- how a serving's session may end
abbrev pub StopsSo : SessionState → Ending → Type 0
StopsSo s endings.PortFault = Unit {0}
StopsSo s ending = EndsSo s ending

-- HOW A SERVING ENDS that hears so many datagrams: as a run, or by a fault of its port
abbrev pub StopsAs : Scenario → ℕ → Book → Ending → Type 0
StopsAs plan grams book endings.Done = IsOver plan book false
StopsAs plan grams book endings.GivenUp = IsOver plan book true
StopsAs plan grams book endings.BudgetSpent = IsCut plan grams book
StopsAs plan grams book endings.PortFault = HasRows plan book
StopsAs plan grams book endings.NoMemory = Unit {0}
StopsAs plan grams book endings.Unfinished = ⊥

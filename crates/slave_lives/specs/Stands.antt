-- A SLAVE THAT ISN'T OPEN, as its master stands to it: what is known of its node while an access of an opening is in hand.
use Rattle.std.specs.Prelude.{◌≡◌, ◌⊎◌, ◌==◌, ℕ, not, Bool, true, false, if◌then◌else◌, Option, None, ⊤}
use Rattle.frames_seen.specs.of_datagrams.Datagram as Raw
use Rattle.frames_seen.specs.of_esc_registers.declared.registers.Registers as Esc
use Rattle.frames_seen.specs.of_slave_node.Passing.{datagram_after}
use Rattle.frames_seen.specs.of_frame_view.View.{Lens, datagram_seen}
use Rattle.frames_seen.specs.of_al_state.Request.{is_state}
use Rattle.frames_seen.specs.Slaves.{registers_seen, IsOpen}
use Rattle.frames_seen.specs.of_mailbox_slave.Registers.{in_len}
use Rattle.frames_seen.specs.of_segment_model.Slaves.{Found}
use Rattle.frames_seen.specs.of_slave_node.Node.{Node}
use Rattle.frames_seen.specs.of_life_model.Lives.{Opening, Stand}
use Rattle.slave_lives.specs.Opening.{Plan, IsPlan, IsAccess, IsBringing}
use Rattle.slave_lives.specs.Nodes.{IsRunning, IsRoomy}
use Rattle.slave_lives.specs.Returning.{Clears, IsReturned, IsFrozen, IsTurn}
use Rattle.slave_lives.specs.Steps.{Running}

-- the accesses of a bring-up by their numbers in a reopening
abbrev pub bring_turn : ℕ → ℕ
bring_turn step = if step == 1 then 3 else if step == 2 then 6 else if step == 3 then 7 else if step == 4 then 8 else 9

-- the access of an opening that is in hand
abbrev pub turn_of : Opening → ℕ
turn_of o = if o.again then o.step else bring_turn o.step

-- the accesses of a bring-up
pub data IsBringStep : ℕ → Type 0 where
  address : IsBringStep 1
  out_on : IsBringStep 2
  in_on : IsBringStep 3
  word : IsBringStep 4
  status : IsBringStep 5

-- THE TABLE OF OPENINGS: in a first bring-up the box is new and the server as it was; at the first two accesses of a reopening the slave may
-- still be in its state, frozen, with the word that returns it waiting; it may be as an opening left it that was given up, to the same state or
-- another; and else it is in Init, or from the word of its state on there, with what the accesses before set
pub data IsClosed {S : Type 0} (u : Running S) (boot : Bool) (lens : ℕ → Lens) (p : Plan) (o : Opening) (n : Node S) : Type 0 where
  brings : o.again ≡ false → IsBringStep o.step → IsBringing p (bring_turn o.step) n.registers n.kept n.server → u.clear n.server ≡ n.server → u.next n.server ≡ None → IsClosed u boot lens p o n
  frozen : o.again ≡ true → (o.step ≡ 1) ⊎ (o.step ≡ 2) → IsFrozen lens p n.registers → IsClosed u boot lens p o n
  left : o.again ≡ true → o.step ≡ 1 → (start turn : ℕ) → IsPlan boot lens (record p { start = start }) → IsReturned u (record p { start = start }) turn n.registers n.kept n.server → IsClosed u boot lens p o n
  returned : o.again ≡ true → IsTurn o.step → IsReturned u p o.step n.registers n.kept n.server → IsClosed u boot lens p o n

-- UP: the last access is behind, and the state that is opened stands
pub record IsUp {S : Type 0} (u : Running S) (p : Plan) (n : Node S) : Type 0 where
  pub returned : IsReturned u p 9 n.registers n.kept n.server
  pub state : (registers_seen n.registers).state ≡ p.start

-- what is known of a node by how the master stands to its slave, while the plan's state is opened
abbrev pub ClosedAs : {S : Type 0} → Running S → Bool → (ℕ → Lens) → Plan → Stand → Node S → Type 0
ClosedAs u boot lens p (Stand.Opens o) n = IsClosed u boot lens p o n
ClosedAs u boot lens p Stand.Open n = IsUp u p n
ClosedAs u boot lens p Stand.Gone n = ⊤

-- an access as it comes back from the slave, as a session sees it: whether it was done, and what it found
pub record CameBack (lens : ℕ → Lens) (p : Plan) (turn : ℕ) (r : Esc.Registers) (d : Raw.Datagram) (done : Bool) (found : Option Found) : Type 0 where
  pub access : IsAccess p turn d
  pub done_is : done ≡ not ((datagram_seen lens (datagram_after r d)).counter == 0)
  pub found_is : found ≡ (datagram_seen lens (datagram_after r d)).found

-- an opening from its first access: a bring-up, and a reopening
abbrev pub first_opening : ℕ → Opening
first_opening state = record { again = false; step = 1; state = state; own = false }

-- a reopening from its first access
abbrev pub opening_again : ℕ → Bool → Opening
opening_again state own = record { again = true; step = 1; state = state; own = own }

-- A CLOSED SLAVE OF A PLAN and the opening that is in hand for it, which opens the plan's state
pub record Closing {S : Type 0} (u : Running S) (boot : Bool) (lens : ℕ → Lens) (p : Plan) (o : Opening) (n : Node S) : Type 0 where
  pub plan : IsPlan boot lens p
  pub state : o.state ≡ p.start
  pub closed : IsClosed u boot lens p o n

-- its processor may make a step
pub record MayStep {S : Type 0} (u : Running S) (boot : Bool) (n : Node S) : Type 0 where
  pub clears : Clears u
  pub boot_is : n.boot ≡ boot
  pub runs : IsRunning u n
  pub roomy : IsRoomy u (in_len n.registers) n.server

-- an open slave that is up: its AL state is one of the five and not Init
pub record OpenUp (lens : ℕ → Lens) (p : Plan) (r : Esc.Registers) : Type 0 where
  pub opens : IsOpen lens r
  pub station : r.station ≡ p.station
  pub state : is_state (registers_seen r).state ≡ true
  pub up : ((registers_seen r).state == 1) ≡ false

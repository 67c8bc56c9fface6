-- ONE FRAME OF A RING, for the slave at one place of it: whether it meets it, and the step behind it.
use Rattle.std.specs.Prelude.{◌≡◌, ℕ, zero, suc, Bool, true, false, if◌then◌else◌, List, [], ◌∷◌, ◌++◌, map, length}
use Rattle.frames_seen.specs.of_datagrams.Datagram as Raw
use Rattle.frames_seen.specs.of_datagrams.Frame.{IsFrame}
use Rattle.frames_seen.specs.of_esc_registers.declared.registers.Registers as Esc
use Rattle.frames_seen.specs.of_slave_node.Passing.{registers_after, datagrams_after}
use Rattle.frames_seen.specs.Ring.{all_after}
use Rattle.frames_seen.specs.of_link_model.Segment.{RingFate}
use Rattle.frames_seen.specs.of_segment_ring.declared.wire.Fate.{Fate}
use Rattle.frames_seen.specs.of_segment_ring.declared.wire.Fate.TheVariants.{Pass, Lost}
use Rattle.frames_seen.specs.of_segment_ring.Schedule.{fate_at}
use Rattle.frames_seen.specs.of_segment_ring.Ring.{RingState, is_in_pace, ring_behind, ring_returned}
use Rattle.frames_seen.specs.of_slave_node.Node.{Node, node_passed}
use Rattle.slave_lives.specs.Steps.{Running}
use Rattle.slave_lives.specs.Nodes.{stepped}

-- the registers of slaves
abbrev pub registers_of : {S : Type 0} → List (Node S) → List Esc.Registers
registers_of ns = map (λ n. n.registers) ns

-- the slave at a place is among the first so many
abbrev pub is_among : ℕ → ℕ → Bool
is_among place zero = false
is_among zero (suc count) = true
is_among (suc place) (suc count) = is_among place count

-- a frame of this fate meets the slave at a place
abbrev pub is_met_at : ℕ → Fate → Bool
is_met_at place Pass = true
is_met_at place (Lost after) = is_among place after

-- the fate as a session has it
abbrev pub fate_seen : Fate → RingFate
fate_seen Pass = RingFate.Back
fate_seen (Lost after) = RingFate.Lost after

-- the datagrams as they come to the slave behind these, and as they come back behind all
abbrev pub come_to : {S : Type 0} → List (Node S) → List Raw.Datagram → List Raw.Datagram
come_to before ds = all_after (registers_of before) ds

-- the datagrams as they come back behind all slaves
abbrev pub come_back : {S : Type 0} → List (Node S) → Node S → List (Node S) → List Raw.Datagram → List Raw.Datagram
come_back before n behind ds = all_after (registers_of behind) (datagrams_after n.registers (come_to before ds))

-- a slave behind a frame of this fate that came to it so
abbrev pub met : {S : Type 0} → Bool → Node S → List Raw.Datagram → Node S
met is n ds = if is then record n { registers = registers_after n.registers ds } else n

-- and behind the step that follows, where its pace has one
abbrev pub turned : {S : Type 0} → Running S → ℕ → ℕ → Node S → Node S
turned u pace number n = if is_in_pace pace number then stepped u n else n

-- ONE FRAME EXCHANGED, for a slave with these before it and those behind: it alone is moved so, whatever the others do; and what came back
pub record IsExchanged {S : Type 0} (u : Running S) (ring : RingState (Node S)) (octets : List ℕ) (ds : List Raw.Datagram) (before : List (Node S)) (n : Node S) (behind : List (Node S)) (pace : ℕ) : Type 0 where
  pub left : List (Node S)
  pub right : List (Node S)
  pub place : length left ≡ length before
  pub nodes : (ring_behind node_passed (stepped u) ring octets).nodes ≡ left ++ turned u pace ring.number (met (is_met_at (length before) (fate_at ring.lose ring.number)) n (come_to before ds)) ∷ right
  pub back : fate_at ring.lose ring.number ≡ Pass → IsFrame (ring_returned node_passed ring octets) (come_back before n behind ds)
  pub lost : (after : ℕ) → fate_at ring.lose ring.number ≡ Lost after → ring_returned node_passed ring octets ≡ []

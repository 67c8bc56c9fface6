-- A ring of slaves: frames meet them in order, and then their processors step.
use Rattle.std.specs.Prelude.{◌≤◌, ℕ, zero, suc, ◌%◌, ◌==◌, Bool, if◌then◌else◌, List, [], ◌∷◌, length}
use Rattle.segment_ring.specs.declared.wire.Fate.{Fate}
use Rattle.segment_ring.specs.declared.wire.Fate.TheVariants.{Pass, Lost}
use Rattle.segment_ring.specs.Schedule.{fate_at}

-- a ring: its slaves in order, behind how many frames each of their processors makes a step, the schedule of lost frames, and how many frames
-- were exchanged
pub record RingState (N : Type 0) : Type 0 where
  pub nodes : List N
  pub paces : List ℕ
  pub lose : List (ℕ × ℕ)
  pub number : ℕ

-- each pace is 1 to 16
abbrev pub ArePaces : List ℕ → Type 0
ArePaces [] = Unit {0}
ArePaces (pace ∷ paces) = (1 ≤ pace) × (pace ≤ 16) × ArePaces paces

-- each slave has carried out at most so many services
abbrev pub AllFew : {N : Type 0} → (N → ℕ) → ℕ → List N → Type 0
AllFew handled most [] = Unit {0}
AllFew handled most (n ∷ ns) = (handled n ≤ most) × AllFew handled most ns

-- whether the processor of a slave of this pace makes a step behind a frame
abbrev pub is_in_pace : ℕ → ℕ → Bool
is_in_pace pace number = suc number % pace == 0

module _ {N : Type 0} (passed : N → List ℕ → N × List ℕ) where
  -- a frame meets the first `count` slaves in ring order: these, and its octets, behind each other
  abbrev pub nodes_passed : ℕ → List N → List ℕ → List N × List ℕ
  nodes_passed zero nodes octets = (nodes, octets)
  nodes_passed (suc count) [] octets = ([], octets)
  nodes_passed (suc count) (n ∷ ns) octets =
      let first = passed n octets in
      let others = nodes_passed count ns first.1 in
      (first.0 ∷ others.0, others.1)

  -- a frame is met by all, or by the first `after` and then lost: nothing comes back
  abbrev pub frame_met : List N → List ℕ → Fate → List N × List ℕ
  frame_met nodes octets Pass = nodes_passed (length nodes) nodes octets
  frame_met nodes octets (Lost after) = ((nodes_passed after nodes octets).0, [])

  -- what came back of a frame
  abbrev pub ring_returned : RingState N → List ℕ → List ℕ
  ring_returned r octets = (frame_met r.nodes octets (fate_at r.lose r.number)).1

module _ {N : Type 0} (stepped : N → N) where
  -- the slaves behind the steps that follow a frame; each has a pace
  abbrev pub nodes_stepped : List ℕ → ℕ → List N → List N
  nodes_stepped [] number nodes = nodes
  nodes_stepped (pace ∷ paces) number [] = []
  nodes_stepped (pace ∷ paces) number (n ∷ ns) = (if is_in_pace pace number then stepped n else n) ∷ nodes_stepped paces number ns

-- ONE FRAME EXCHANGED: the ring behind it
abbrev pub ring_behind : {N : Type 0} → (N → List ℕ → N × List ℕ) → (N → N) → RingState N → List ℕ → RingState N
ring_behind passed stepped r octets =
    record r { nodes = nodes_stepped stepped r.paces r.number (frame_met passed r.nodes octets (fate_at r.lose r.number)).0; number = suc r.number }

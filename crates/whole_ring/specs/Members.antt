-- A RING OF SLAVES, each with its services, its plan, its life and its node: what holds between all of them and the frames so far.
use Rattle.std.specs.Prelude.{◌≡◌, ℕ, suc, ◌<◌, ◌==◌, Bool, true, false, Option, Some, None, List, [], ◌∷◌, map, length, ⊤}
use Rattle.slave_lives.specs.of_frame_view.View.{Lens}
use Rattle.slave_lives.specs.of_link_mails.Body.{Body}
use Rattle.slave_lives.specs.of_mailbox_slave.Registers.{in_len}
use Rattle.slave_lives.specs.of_segment_model.Record.{Frame}
use Rattle.slave_lives.specs.of_segment_ring.Ring.{RingState}
use Rattle.slave_lives.specs.of_slave_node.Node.{Node, new_node}
use Rattle.slave_lives.specs.of_state_model.Accounts.{Duty}
use Rattle.slave_lives.specs.of_life_model.Eras.{Clearing}
use Rattle.slave_lives.specs.of_life_model.Lives.{Spot, Life, new_life}
use Rattle.slave_lives.specs.Lived.{Behind}
use Rattle.slave_lives.specs.Nodes.{GivesPlaced, stepped}
use Rattle.slave_lives.specs.Opening.{Plan}
use Rattle.whole_ring.specs.Whole.{IsWhole, IsLived}

-- a slave of the ring: its services, what a return to Init does to them, its plan and its place, the application with which it is switched on, its
-- life as the master leads it, its node as it runs, and behind how many frames its processor makes a step
pub record Member (S V A Q R : Type 0) : Type 0 where
  pub services : Behind S V A Q R
  pub clearing : Clearing V A
  pub plan : Plan
  pub spot : Spot
  pub first : A
  pub life : Life Body Q R
  pub node : Node S
  pub pace : ℕ

-- WHAT ALWAYS HOLDS OF A RUNNING SERVER whose mails go through a mailbox of this length, as a ring steps it: mails taken, mails given and a return
-- to Init leave it, its next mail has room, and cleared it may be served
pub record Serves {S V A Q R : Type 0} (step : Node S → Node S) (fits : S → Type 0) (w : Behind S V A Q R) (len : ℕ) : Type 0 where
  pub takes : (s : S) (b : Body) (al : ℕ) → fits s → fits (w.running.take s b al)
  pub gives : (s : S) → fits s → fits (w.running.rest s)
  pub clears : (s : S) → fits s → fits (w.running.clear s)
  pub placed : (s : S) → fits s → GivesPlaced w.running len s
  pub ready : (al : ℕ) (s : S) → fits s → w.running.clear s ≡ s → w.exchange.ready (w.sees al s).server ≡ true
  pub steps : (n : Node S) → fits n.server → step n ≡ stepped w.running n

-- a test that always holds of a server
abbrev pub Passes : {S : Type 0} → (Spot → S → Bool) → Spot → S → Type 0
Passes test spot s = test spot s ≡ true

-- a state service in hand asks for Bootstrap only where the slave has it
abbrev pub HandBoots : Bool → Option Duty → Type 0
HandBoots boot None = ⊤
HandBoots boot (Some duty) = duty.target ≡ 3 → boot ≡ true

-- no other slave of these has this station
abbrev pub IsElsewhere : {S V A Q R : Type 0} → ℕ → List (Member S V A Q R) → Type 0
IsElsewhere station [] = ⊤
IsElsewhere station (m ∷ ms) = ((station == m.plan.station) ≡ false) × IsElsewhere station ms

-- of each of these
abbrev pub AreDistinct : {S V A Q R : Type 0} → List (Member S V A Q R) → Type 0
AreDistinct [] = ⊤
AreDistinct (m ∷ ms) = IsElsewhere m.plan.station ms × AreDistinct ms

-- `step` is what a ring's step does to a node, and `fits` what always holds of the server at a place
module _ {S V A Q R : Type 0} (lens : ℕ → Lens) (step : Node S → Node S) (fits : Spot → S → Type 0) where
  -- A SLAVE AT THIS PLACE: its life is lived by its node up to the last of these frames
  pub record MemberIs (fs : List (Frame Body)) (place : ℕ) (m : Member S V A Q R) : Type 0 where
    pub whole : IsWhole m.services m.clearing m.plan m.spot
    pub lived : IsLived m.services m.clearing m.plan m.spot m.first m.life fs m.node
    pub at : m.spot.place ≡ place
    pub lens_is : m.services.lens ≡ lens
    pub named : (0 == m.plan.station) ≡ false
    pub serves : Serves step (fits m.spot) m.services m.plan.back
    pub server : fits m.spot m.node.server
    pub room : in_len m.node.registers ≡ m.plan.back
    pub boots : HandBoots m.services.boot m.life.era.account.hand

  -- all slaves from a place on
  abbrev pub AllLived : List (Frame Body) → ℕ → List (Member S V A Q R) → Type 0
  AllLived fs place [] = ⊤
  AllLived fs place (m ∷ ms) = MemberIs fs place m × AllLived fs (suc place) ms

  -- THE WHOLE RING: its nodes and paces are those of these slaves, which are few and each of another station, and all lives are lived
  pub record IsRing (fs : List (Frame Body)) (ring : RingState (Node S)) (ms : List (Member S V A Q R)) : Type 0 where
    pub few : length ms < 17
    pub nodes : ring.nodes ≡ map (λ (m : Member S V A Q R). m.node) ms
    pub paces : ring.paces ≡ map (λ (m : Member S V A Q R). m.pace) ms
    pub number : ring.number ≡ length fs
    pub distinct : AreDistinct ms
    pub each : AllLived fs 0 ms

-- A SLAVE AS IT IS SWITCHED ON, at this place: nothing happened in its life yet, and its services are new ones
pub record IsNew {S V A Q R : Type 0} (lens : ℕ → Lens) (step : Node S → Node S) (fits : Spot → S → Type 0) (place : ℕ) (m : Member S V A Q R) : Type 0 where
  pub server : S
  pub al : ℕ
  pub whole : IsWhole m.services m.clearing m.plan m.spot
  pub at : m.spot.place ≡ place
  pub lens_is : m.services.lens ≡ lens
  pub named : (0 == m.plan.station) ≡ false
  pub serves : Serves step (fits m.spot) m.services m.plan.back
  pub fits_is : fits m.spot server
  pub cleared : m.services.running.clear server ≡ server
  pub quiet : m.services.running.next server ≡ None
  pub first : m.first ≡ m.services.exchange.app (m.services.sees al server).server
  pub life : m.life ≡ new_life m.spot.start
  pub node : m.node ≡ new_node m.plan.out m.plan.back m.services.boot server

-- each of these, from a place on
abbrev pub AllNew : {S V A Q R : Type 0} → (ℕ → Lens) → (Node S → Node S) → (Spot → S → Type 0) → ℕ → List (Member S V A Q R) → Type 0
AllNew lens step fits place [] = ⊤
AllNew lens step fits place (m ∷ ms) = IsNew lens step fits place m × AllNew lens step fits (suc place) ms

-- their ring before its first frame
abbrev pub first_ring : {S V A Q R : Type 0} → List (ℕ × ℕ) → List (Member S V A Q R) → RingState (Node S)
first_ring lose ms = record { nodes = map (λ m. m.node) ms; paces = map (λ m. m.pace) ms; lose = lose; number = 0 }

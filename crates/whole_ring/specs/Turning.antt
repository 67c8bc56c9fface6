-- ONE EXCHANGE OF A FRAME of the master, for all slaves of a ring and their lives.
use Rattle.std.specs.Prelude.{◌≡◌, ℕ, suc, Bool, true, if◌then◌else◌, Option, Some, None, List, [], ◌∷◌, ⊤}
use Rattle.slave_lives.specs.of_datagrams.Datagram as Raw
use Rattle.slave_lives.specs.of_slave_node.Passing.{datagrams_after}
use Rattle.slave_lives.specs.of_frame_view.View.{Lens}
use Rattle.slave_lives.specs.of_frame_view.Seen.{seen}
use Rattle.slave_lives.specs.of_link_mails.Body.{Body}
use Rattle.slave_lives.specs.of_link_model.Segment.{RingFate}
use Rattle.slave_lives.specs.of_segment_model.Record.{Frame, News}
use Rattle.slave_lives.specs.of_segment_ring.declared.wire.Fate.{Fate}
use Rattle.slave_lives.specs.of_segment_ring.Ring.{RingState, ring_returned}
use Rattle.slave_lives.specs.of_segment_ring.Schedule.{fate_at}
use Rattle.slave_lives.specs.of_slave_node.Node.{Node, node_passed}
use Rattle.slave_lives.specs.of_state_model.Stated.{Service}
use Rattle.slave_lives.specs.of_state_model.Accounts.{Pick}
use Rattle.slave_lives.specs.of_life_model.Lives.{Spot, Life, life_next, life_back, life_lost, gives_up}
use Rattle.slave_lives.specs.of_frame_view.Frames.{Share}
use Rattle.slave_lives.specs.of_frame_view.Shares.{Asked, came_at}
use Rattle.slave_lives.specs.Lived.{Behind}
use Rattle.slave_lives.specs.Rings.{fate_seen, is_met_at, met, turned}
use Rattle.whole_ring.specs.Members.{Member}

-- a state service that begins asks for Bootstrap only where the slave has it
abbrev pub BeginBoots : {Q : Type 0} → Bool → Option (Service Q) → Type 0
BeginBoots boot None = ⊤
BeginBoots boot (Some (Service.Mails q)) = ⊤
BeginBoots boot (Some (Service.State target)) = target ≡ 3 → boot ≡ true

-- what the master chooses for a slave before a frame, the slave's share of the frame, and the news by which a mail that is passed on goes on
pub record Turn (Q : Type 0) : Type 0 where
  pub pick : Pick Q
  pub share : Share
  pub news : List (News Body)

-- the frame as all sessions see it
abbrev pub frame_at : {S : Type 0} → (ℕ → Lens) → RingState (Node S) → List ℕ → Frame Body
frame_at lens ring octets = record { sent = seen lens octets; fate = fate_seen (fate_at ring.lose ring.number); back = seen lens (ring_returned node_passed ring octets) }

module _ {S V A Q R : Type 0} (more : Body → Bool) (passed : Q → Bool) where
  -- a slave's life before a frame with this number, by the master's choice
  abbrev pub next_life : ℕ → Behind S V A Q R → Life Body Q R → Turn Q → Life Body Q R
  next_life made w l a = life_next w.exchange.speech w.states.acknowledged more passed made l l.stand a.pick

  -- and behind it
  abbrev pub life_by : ℕ → Frame Body → RingFate → Behind S V A Q R → Spot → Life Body Q R → Turn Q → Life Body Q R
  life_by made f RingFate.Back w spot l a = life_back w.exchange.speech w.states.acknowledged more passed made spot a.news f.back (came_at a.share.under a.share.at f.back) (next_life made w l a) l.stand
  life_by made f (RingFate.Lost after) w spot l a = life_lost w.exchange.speech w.states.acknowledged more passed spot a.news f.sent (next_life made w l a) l.stand

  -- ALL SLAVES BEHIND A FRAME that came to the first of these so: each where its fate brings it, and behind the step of its pace
  abbrev pub behind_frame : ℕ → Frame Body → Fate → ℕ → List (Member S V A Q R) → List (Turn Q) → List Raw.Datagram → List (Member S V A Q R)
  behind_frame made f fate place (m ∷ ms) (a ∷ turns) ds =
      record m {
        life = life_by made f (fate_seen fate) m.services m.spot m.life a;
        node = turned m.services.running m.pace made (met (is_met_at place fate) m.node ds);
      } ∷ behind_frame made f fate (suc place) ms turns (datagrams_after m.node.registers ds)
  behind_frame made f fate place _ _ ds = []

  -- WHAT THE MASTER MADE OF THE FRAME for a slave: by how its life stands then, nothing, an access of its opening, or a datagram of its epoch
  pub record TurnsFor (lens : ℕ → Lens) (made : ℕ) (ds : List Raw.Datagram) (m : Member S V A Q R) (a : Turn Q) : Type 0 where
    pub asked : Asked lens ds (record { spot = m.spot; life = next_life made m.services m.life a }) a.share
    pub boots : BeginBoots m.services.boot a.pick.begin

  -- for each
  abbrev pub AllTurn : (ℕ → Lens) → ℕ → List Raw.Datagram → List (Member S V A Q R) → List (Turn Q) → Type 0
  AllTurn lens made ds [] [] = ⊤
  AllTurn lens made ds (m ∷ ms) (a ∷ turns) = TurnsFor lens made ds m a × AllTurn lens made ds ms turns
  AllTurn lens made ds _ _ = ⊥

-- SLAVES GIVEN UP at a frame: those that it carried
abbrev pub given_up : {S V A Q R : Type 0} → ℕ → ℕ → List (Member S V A Q R) → List Bool → List (Member S V A Q R)
given_up recover frame (m ∷ ms) (b ∷ bs) = (if b then record m { life = gives_up recover m.spot frame m.life } else m) ∷ given_up recover frame ms bs
given_up recover frame ms _ = ms

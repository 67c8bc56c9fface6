-- THE SLAVES OF A PLAN'S RUN, as the sessions of their lives have them.
use Rattle.std.specs.Prelude.{◌≡◌, ℕ, suc, if◌then◌else◌, List, [], ◌∷◌, ⊤}
use Rattle.slave_server.specs.of_exchange_model.Exchange.{IsLawful}
use Rattle.whole_ring.specs.of_frame_view.View.{Lens}
use Rattle.whole_ring.specs.of_life_model.Lives.{Stand}
use Rattle.whole_ring.specs.of_life_model.Own.{own}
use Rattle.run_frames.specs.of_life_runs.First.{lens_of, spot_of}
use Rattle.run_frames.specs.of_life_runs.Led.{Exchanged, Leads, speech_at}
use Rattle.slave_server.specs.of_link_mails.Body.{Body}
use Rattle.run_frames.specs.of_master_hand.Spoken.{acknowledged}
use Rattle.plan_ring.specs.Alike.{Alike, InHandIs}
use Rattle.plan_ring.specs.Asked.{asked, is_service}
use Rattle.plan_ring.specs.Round.{all_seen}
use Rattle.slave_server.specs.of_segment_model.Slaves.{Datagram, Slave, slave_after, slave_steps, frame_after}
use Rattle.slave_server.specs.of_segment_plan.declared.plan.Scenario.{Scenario}
use Rattle.slave_server.specs.of_segment_plan.declared.slave.SlaveSpec.{SlaveSpec}
use Rattle.run_frames.specs.of_segment_ring.Ring.{is_in_pace}
use Rattle.whole_ring.specs.of_slave_lives.Lived.{IsBehind, node_seen}
use Rattle.slave_server.specs.of_slave_parts.Parts.{Core, Server}
use Rattle.slave_server.specs.of_protocol_models.Network.{Station}
use Rattle.slave_server.specs.Serving.{Serving}
use Rattle.slave_server.specs.Spec.{profile_of}
use Rattle.slave_server.specs.of_slave_node.Node.{Node}
use Rattle.slave_server.specs.of_state_model.Families.{InState}
use Rattle.slave_server.specs.of_state_model.Stated.{IsStated}
use Rattle.whole_ring.specs.Whole.{LivesOpen}

-- a slave's node as its session has it
abbrev pub slave_at : (ℕ → Lens) → SlaveSpec → Node Serving → Slave (InState Server) Body
slave_at lens s n = node_seen (asked (profile_of s) s.boot lens) n

-- ONE THAT IS OPEN LIVES ITS EPOCH, which began with some application, by services that owe the laws, of which its master speaks alike and which its node runs
pub record IsOpenAt (plan : Scenario) (fs : List Exchanged) (place : ℕ) (s : SlaveSpec) (a : Leads) (n : Node Serving) : Type 0 where
  pub from : InState (Station Core)
  pub lives : LivesOpen (asked (profile_of s) s.boot (lens_of plan.slaves)) (spot_of place s) from a.lived.life.era (all_seen (lens_of plan.slaves) fs) n
  pub lawful : IsLawful (asked (profile_of s) s.boot (lens_of plan.slaves)).exchange
  pub stated : IsStated (asked (profile_of s) s.boot (lens_of plan.slaves)).exchange (asked (profile_of s) s.boot (lens_of plan.slaves)).states
  pub alike : Alike is_service (speech_at (lens_of plan.slaves) a.lived.spot) (asked (profile_of s) s.boot (lens_of plan.slaves)).exchange.speech
  pub row : InHandIs is_service a.lived.life
  pub last : (asked (profile_of s) s.boot (lens_of plan.slaves)).states.acknowledged ≡ acknowledged
  pub behind : IsBehind (asked (profile_of s) s.boot (lens_of plan.slaves))

-- and its master leads it at its station
pub record IsAt (plan : Scenario) (fs : List Exchanged) (place : ℕ) (s : SlaveSpec) (a : Leads) (n : Node Serving) : Type 0 where
  pub spot : a.lived.spot ≡ spot_of place s
  pub stands : a.lived.life.stand ≡ Stand.Open → IsOpenAt plan fs place s a n

-- each, from a place on
abbrev pub AllOpenAt : Scenario → List Exchanged → ℕ → List SlaveSpec → List Leads → List (Node Serving) → Type 0
AllOpenAt plan fs place [] [] [] = ⊤
AllOpenAt plan fs place (s ∷ ss) (a ∷ as') (n ∷ ns) = IsAt plan fs place s a n × AllOpenAt plan fs (suc place) ss as' ns
AllOpenAt plan fs place _ _ _ = ⊥

-- WHAT A FRAME THAT CAME BACK WAS FOR IT: its own datagrams came back as it makes them, and the node is the one behind them and the step of its pace
pub record IsMet (lens : ℕ → Lens) (sent back : List (Datagram Body)) (made pace : ℕ) (s : SlaveSpec) (n k : Node Serving) : Type 0 where
  pub back_is : own s.station back ≡ frame_after s.station (slave_at lens s n) (own s.station sent)
  pub slave : slave_at lens s k ≡ (let z = slave_after s.station (slave_at lens s n) (own s.station sent) in
      if is_in_pace pace made then slave_steps (asked (profile_of s) s.boot lens).exchange (asked (profile_of s) s.boot lens).processor z else z)

-- for each that is open
abbrev pub AllMet : (ℕ → Lens) → List (Datagram Body) → List (Datagram Body) → ℕ → List SlaveSpec → List Leads → List ℕ → List (Node Serving) → List (Node Serving) → Type 0
AllMet lens sent back made [] [] [] [] [] = ⊤
AllMet lens sent back made (s ∷ ss) (a ∷ as') (pace ∷ paces) (n ∷ ns) (k ∷ ks) = (a.lived.life.stand ≡ Stand.Open → IsMet lens sent back made pace s n k) × AllMet lens sent back made ss as' paces ns ks
AllMet lens sent back made _ _ _ _ _ = ⊥

-- WHAT A MACHINE BUILDER MAY RELY ON of each slave of a plan, behind the frames of a run, whatever frames are lost.
use Rattle.std.specs.Prelude.{◌≡◌, ℕ, suc, true, List, [], ◌∷◌, ⊤}
use Rattle.packets_heard.specs.of_life_model.Script.{life_started}
use Rattle.served_rings.specs.of_plan_ring.Epochs.{IsKeptLife}
use Rattle.packets_heard.specs.of_life_model.Lives.{Stand}
use Rattle.packets_heard.specs.of_life_runs.First.{lens_of, spot_of, script_for}
use Rattle.packets_heard.specs.of_life_runs.Led.{Exchanged, Leads}
use Rattle.packets_heard.specs.of_master_hand.Spoken.{is_followed}
use Rattle.served_rings.specs.of_plan_ring.Plan.{first_app}
use Rattle.served_rings.specs.of_plan_ring.Round.{ring_of, ring_after, all_seen}
use Rattle.run_promises.specs.Books.{StaysUp, HasBook}
use Rattle.run_promises.specs.Rests.{IsIdle, IsDone}
use Rattle.run_promises.specs.Slaves.{services_of}
use Rattle.served_rings.specs.of_run_frames.Came.{Came, AreFirst}
use Rattle.packets_heard.specs.of_segment_plan.declared.plan.Scenario.{Scenario}
use Rattle.packets_heard.specs.of_segment_plan.declared.slave.SlaveSpec.{SlaveSpec}
use Rattle.served_rings.specs.of_plan_ring.Real.{real_clearing}
use Rattle.packets_heard.specs.of_slave_server.Serving.{Serving, next_mail}
use Rattle.packets_heard.specs.of_slave_node.Node.{Node, is_settled}

-- the slaves behind frames: those of the ring that replays these very frames, octet for octet, from the plan's new slaves on
abbrev pub slaves_behind : Scenario → List Exchanged → List (Node Serving)
slaves_behind plan fs = (ring_after (ring_of plan) fs).nodes

-- BEGUN IN ORDER: what came into hand of a slave was each time the next service of its own script, or a packet of its port; so without the packets these
-- are the first services of the script, each once and in order
pub record HasBegun (plan : Scenario) (place : ℕ) (s : SlaveSpec) (a : Leads) : Type 0 where
  pub one_by_one : Came s.out_len (script_for place plan.services) a.number (life_started a.lived.life)
  pub firsts : AreFirst s.out_len (script_for place plan.services) a.number (life_started a.lived.life)

-- CARRIED OUT AND ANSWERED: in each epoch the slave's application has carried out just the first of what came into hand in it, each once and in order
-- and all but at most the two newest, from the plan's objects, files, IDNs and addresses on, or from what the epoch before left; each reply that the
-- frames give is that application's, of a service that is carried out
abbrev pub HasCarriedOut : Scenario → List Exchanged → ℕ → SlaveSpec → Leads → Node Serving → Type 0
HasCarriedOut plan fs place s a n = IsKeptLife (services_of plan s) is_followed (spot_of place s) real_clearing.cleared (all_seen (lens_of plan.slaves) fs) (first_app s) a.lived.life n

-- THE PROMISE FOR ONE SLAVE at its place, as its master leads it, with its node behind the frames
pub record KeepsOne (plan : Scenario) (fs : List Exchanged) (place : ℕ) (s : SlaveSpec) (a : Leads) (n : Node Serving) : Type 0 where
  pub begun : HasBegun plan place s a
  pub carried_out : HasCarriedOut plan fs place s a n
  -- it isn't gone for good unless it was given up
  pub given : a.lived.life.stand ≡ Stand.Gone → a.lived.life.gave ≡ [] → ⊥
  -- of one that was never given up and never returned to Init, what a book tells of its rows fits its application
  pub booked : a.lived.life.stand ≡ Stand.Open → StaysUp a.lived.life → HasBook plan fs place s a n
  -- where it is settled and its master wants nothing of it, all of its script came into hand, and all of its newest epoch is carried out and answered
  pub done : IsIdle (lens_of plan.slaves) a → is_settled next_mail n ≡ true → IsDone plan fs place s a n

-- for all of them, from a place on
abbrev pub AllKeep : Scenario → List Exchanged → ℕ → List SlaveSpec → List Leads → List (Node Serving) → Type 0
AllKeep plan fs place [] [] [] = ⊤
AllKeep plan fs place (s ∷ ss) (a ∷ as') (n ∷ ns) = KeepsOne plan fs place s a n × AllKeep plan fs (suc place) ss as' ns
AllKeep plan fs place _ _ _ = ⊥

-- THE PROMISE, for each slave of the plan, as its master leads it behind these frames
pub record Keeps (plan : Scenario) (fs : List Exchanged) (as' : List Leads) : Type 0 where
  pub each : AllKeep plan fs 0 plan.slaves as' (slaves_behind plan fs)

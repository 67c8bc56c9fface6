-- All slaves rest, as the count of frames has it and as their master does.
use Rattle.std.proofs.Common.{◌≡◌, ℕ, suc, true, false, List, [], ◌∷◌, refl, ◌∙◌, inl, inr}
use Rattle.std.specs.Prelude.{slice_get}
use Rattle.arrayvec.specs.ArrayVec.{ArrayVec}
use Rattle.run_promises.specs.of_eoe_switch.declared.switching.SwitchEvent.{SwitchEvent}
use Rattle.seen_slaves.specs.of_frame_view.View.{Lens}
use Rattle.run_promises.specs.of_life_runs.First.{lens_of}
use Rattle.run_promises.specs.of_life_runs.Led.{Exchanged, Leads}
use Rattle.run_promises.specs.of_master_node.Forwards.{forwarded, port_by, waiting_by}
use Rattle.run_promises.specs.of_master_node.Recalled.{AllKnow}
use Rattle.run_promises.specs.of_master_node.Resting as Resting
use Rattle.run_promises.specs.of_master_node.declared.lan.Lan.{Lan}
use Rattle.seen_slaves.specs.of_master_side.Recall.{Recall}
use Rattle.seen_slaves.specs.of_plan_ring.PlanMet.{AllOpenAt, IsAt}
use Rattle.seen_slaves.specs.of_plan_ring.Asked.{asked}
use Rattle.run_promises.specs.of_packets_heard.Recalled.{AllSettled, IsLanOf}
use Rattle.run_promises.specs.of_segment_plan.declared.plan.Scenario.{Scenario}
use Rattle.run_promises.specs.of_segment_plan.declared.slave.SlaveSpec.{SlaveSpec}
use Rattle.run_promises.specs.of_slave_server.Serving.{Serving, next_mail}
use Rattle.run_promises.specs.of_slave_server.Spec.{profile_of}
use Rattle.run_promises.specs.of_slave_node.Node.{Node, is_settled}
use Rattle.seen_slaves.specs.of_idle_slaves.WaitEager.{AllRest, IsResting}
use Rattle.promised_run.specs.Runs.{is_waiting, remembered, waiting_at}
use Rattle.promised_run.proofs.Settled.{settled_back}

pub none_waiting : (q : List (ArrayVec ℕ)) → is_waiting q ≡ false → q ≡ []
none_waiting [] e = refl
none_waiting (p ∷ q) e = absurd (cc)

module _ (plan : Scenario) (fs : List Exchanged) (es : List SwitchEvent) (l : Lan) (is : IsLanOf plan l es) where
  abbrev lens : ℕ → Lens
  lens = lens_of plan.slaves

  -- the packets at a slave's port are those of the switch
  pub at_port : (k : ℕ) → forwarded l.switch l.ports.items k ≡ waiting_at plan es k
  at_port k = (λ i. waiting_by (is.switch i) (port_by (slice_get (is.ports i) k)))

  rests_one : (place : ℕ) (s : SlaveSpec) (m : Recall) (a : Leads) (n : Node Serving) → m.knows ≡ true →
      IsResting (lens_of plan.slaves) s (record { memory = record { paused = m.paused; turn = m.turn }; packet = is_waiting (waiting_at plan es place); asked = false }) a n → Resting.Rests (lens_of plan.slaves) l place m a
  rests_one place s m a n known r = record {
    known = known;
    free = record { stands = r.clear.stands; free = r.free.free; done = r.free.done; hand = r.free.hand };
    held = r.held;
    clear = r.clear.clear;
    script = r.end.script;
    packet = at_port place ∙ none_waiting (waiting_at plan es place) r.end.packet;
  }

  pub rests_so : (place : ℕ) (ss : List SlaveSpec) (ms : List Recall) (as' : List Leads) (ns : List (Node Serving)) → AllKnow ms → AllRest (lens_of plan.slaves) ss (remembered plan es place ms) as' ns → Resting.AllRest (lens_of plan.slaves) l place ms as'
  rests_so place [] [] [] [] k r = tt
  rests_so place [] [] [] (n ∷ ns) k r = absurd r
  rests_so place [] [] (a ∷ as') ns k r = absurd r
  rests_so place [] (m ∷ ms) as' ns k r = absurd r
  rests_so place (s ∷ ss) [] as' ns k r = absurd r
  rests_so place (s ∷ ss) (m ∷ ms) [] ns k r = absurd r
  rests_so place (s ∷ ss) (m ∷ ms) (a ∷ as') [] k r = absurd r
  rests_so place (s ∷ ss) (m ∷ ms) (a ∷ as') (n ∷ ns) k r = (
    elim r.0 [ inl gone ↦ inl gone | inr rest ↦ inr (rests_one place s m a n k.0 rest) ],
    rests_so (suc place) ss ms as' ns k.1 r.1,
  )

  -- and their nodes are settled
  settled_one : (place : ℕ) (s : SlaveSpec) (m : Recall) (a : Leads) (n : Node Serving) → IsAt plan fs place s a n →
      IsResting (lens_of plan.slaves) s (record { memory = record { paused = m.paused; turn = m.turn }; packet = is_waiting (waiting_at plan es place); asked = false }) a n →
      is_settled next_mail n ≡ true
  settled_one place s m a n at r = settled_back (asked (profile_of s) s.boot (lens_of plan.slaves)) (at.stands r.clear.stands).behind n r.settled r.offered r.control

  pub settled_so : (place : ℕ) (ss : List SlaveSpec) (ms : List Recall) (as' : List Leads) (ns : List (Node Serving)) → AllOpenAt plan fs place ss as' ns → AllRest (lens_of plan.slaves) ss (remembered plan es place ms) as' ns → AllSettled as' ns
  settled_so place [] [] [] [] o r = tt
  settled_so place [] [] [] (n ∷ ns) o r = absurd r
  settled_so place [] [] (a ∷ as') ns o r = absurd r
  settled_so place [] (m ∷ ms) as' ns o r = absurd r
  settled_so place (s ∷ ss) [] as' ns o r = absurd r
  settled_so place (s ∷ ss) (m ∷ ms) [] ns o r = absurd r
  settled_so place (s ∷ ss) (m ∷ ms) (a ∷ as') [] o r = absurd r
  settled_so place (s ∷ ss) (m ∷ ms) (a ∷ as') (n ∷ ns) o r = (
    elim r.0 [ inl gone ↦ inl gone | inr rest ↦ inr (settled_one place s m a n o.0 rest) ],
    settled_so (suc place) ss ms as' ns o.1 r.1,
  )

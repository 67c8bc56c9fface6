-- All slaves of a serving rest, as the count of frames has it and as their master does.
use Rattle.std.proofs.Common.{◌≡◌, ℕ, suc, true, false, List, [], ◌∷◌, refl, ◌∙◌, inl, inr, length}
use Rattle.std.specs.Prelude.{⊤}
use Rattle.promised_run.specs.Runs.{is_waiting, waiting_at}
use Rattle.promised_run.proofs.Rests.{at_port, none_waiting}
use Rattle.promised_run.proofs.Settled.{settled_back}
use Rattle.promised_run.specs.Eager.{has_mail, remembers}
use Rattle.run_promises.specs.of_eoe_switch.declared.switching.SwitchEvent.{SwitchEvent}
use Rattle.seen_slaves.specs.of_frame_view.View.{Lens}
use Rattle.seen_slaves.specs.of_idle_slaves.WaitEager.{AllRest, IsResting}
use Rattle.run_promises.specs.of_life_runs.First.{lens_of}
use Rattle.run_promises.specs.of_master_node.Recalled.{AllKnow}
use Rattle.run_promises.specs.of_master_node.Resting as Resting
use Rattle.run_promises.specs.of_master_node.ServedEager.{AllServedRest}
use Rattle.run_promises.specs.of_master_node.declared.lan.Lan.{Lan}
use Rattle.seen_slaves.specs.of_master_side.Recall.{Recall}
use Rattle.run_promises.specs.of_packets_heard.Recalled.{AllSettled, IsLanOf}
use Rattle.seen_slaves.specs.of_plan_ring.Asked.{asked}
use Rattle.seen_slaves.specs.of_plan_ring.Plan.{FitsPlan, new_members, step}
use Rattle.run_promises.specs.of_segment_plan.declared.plan.Scenario.{Scenario}
use Rattle.run_promises.specs.of_segment_plan.declared.slave.SlaveSpec.{SlaveSpec}
use Rattle.run_promises.specs.of_life_runs.Served.{Keyed, Serves}
use Rattle.seen_slaves.specs.Eager.{leads_of}
use Rattle.seen_slaves.specs.of_slave_lives.Lived.{IsBehind}
use Rattle.run_promises.specs.of_slave_server.Serving.{Serving, next_mail}
use Rattle.run_promises.specs.of_slave_server.Spec.{profile_of}
use Rattle.run_promises.specs.of_slave_node.Node.{Node, is_settled}
use Rattle.seen_slaves.specs.of_whole_ring.Members.{AllLived}

no_mail : (ks : List Keyed) → has_mail ks ≡ false → ks ≡ []
no_mail [] e = refl
no_mail (k ∷ ks) e = absurd (cc)

module _ (plan : Scenario) (es : List SwitchEvent) (l : Lan) (is : IsLanOf plan l es) where
  rests_one : (place : ℕ) (s : SlaveSpec) (m : Recall) (w : Serves) (n : Node Serving) → m.knows ≡ true →
      IsResting (lens_of plan.slaves) s (record { memory = record { paused = m.paused; turn = m.turn }; packet = is_waiting (waiting_at plan es place); asked = has_mail w.waits }) w.lead n → Resting.Rests (lens_of plan.slaves) l place m w.lead
  rests_one place s m w n known r = record {
    known = known;
    free = record { stands = r.clear.stands; free = r.free.free; done = r.free.done; hand = r.free.hand };
    held = r.held;
    clear = r.clear.clear;
    script = r.end.script;
    packet = at_port plan [] es l is place ∙ none_waiting (waiting_at plan es place) r.end.packet;
  }

  pub rests_so : (place : ℕ) (ss : List SlaveSpec) (ms : List Recall) (ws : List Serves) (ns : List (Node Serving)) → AllKnow ms → AllRest (lens_of plan.slaves) ss (remembers plan es place ms ws) (leads_of ws) ns → AllServedRest (lens_of plan.slaves) l place ms ws
  rests_so place [] [] [] [] k r = tt
  rests_so place [] [] [] (n ∷ ns) k r = absurd r
  rests_so place [] [] (w ∷ ws) ns k r = absurd r
  rests_so place [] (m ∷ ms) [] ns k r = absurd r
  rests_so place [] (m ∷ ms) (w ∷ ws) ns k r = absurd r
  rests_so place (s ∷ ss) [] ws ns k r = absurd r
  rests_so place (s ∷ ss) (m ∷ ms) [] ns k r = absurd r
  rests_so place (s ∷ ss) (m ∷ ms) (w ∷ ws) [] k r = absurd r
  rests_so place (s ∷ ss) (m ∷ ms) (w ∷ ws) (n ∷ ns) k r = (
    elim r.0 [ inl gone ↦ inl gone | inr rest ↦ inr (rests_one place s m w n k.0 rest, rest.free.passing, no_mail w.waits rest.end.asked) ],
    rests_so (suc place) ss ms ws ns k.1 r.1,
  )

-- ---- and their nodes are settled: each is behind the services of its slave
abbrev pub AllBehind : (ℕ → Lens) → List SlaveSpec → Type 0
AllBehind lens [] = ⊤
AllBehind lens (s ∷ ss) = IsBehind (asked (profile_of s) s.boot lens) × AllBehind lens ss

pub all_behind : (lens : ℕ → Lens) (all : List SlaveSpec) (place : ℕ) (ss : List SlaveSpec) (paces : List ℕ) → length paces ≡ length ss → AllLived lens step (FitsPlan all) [] place (new_members lens place ss paces) → AllBehind lens ss
all_behind lens all place [] paces e lived = tt
all_behind lens all place (s ∷ ss) [] e lived = absurd (cc)
all_behind lens all place (s ∷ ss) (pace ∷ paces) e lived = (lived.0.whole.behind, all_behind lens all (suc place) ss paces (let f : length paces ≡ length ss = cc in f) lived.1)

module _ (plan : Scenario) (es : List SwitchEvent) where
  settled_one : (place : ℕ) (s : SlaveSpec) (m : Recall) (w : Serves) (n : Node Serving) → IsBehind (asked (profile_of s) s.boot (lens_of plan.slaves)) →
      IsResting (lens_of plan.slaves) s (record { memory = record { paused = m.paused; turn = m.turn }; packet = is_waiting (waiting_at plan es place); asked = has_mail w.waits }) w.lead n →
      is_settled next_mail n ≡ true
  settled_one place s m w n behind r = settled_back (asked (profile_of s) s.boot (lens_of plan.slaves)) behind n r.settled r.offered r.control

  pub settled_so : (place : ℕ) (ss : List SlaveSpec) (ms : List Recall) (ws : List Serves) (ns : List (Node Serving)) → AllBehind (lens_of plan.slaves) ss → AllRest (lens_of plan.slaves) ss (remembers plan es place ms ws) (leads_of ws) ns → AllSettled (leads_of ws) ns
  settled_so place [] [] [] [] o r = tt
  settled_so place [] [] [] (n ∷ ns) o r = absurd r
  settled_so place [] [] (w ∷ ws) ns o r = absurd r
  settled_so place [] (m ∷ ms) [] ns o r = absurd r
  settled_so place [] (m ∷ ms) (w ∷ ws) ns o r = absurd r
  settled_so place (s ∷ ss) [] ws ns o r = absurd r
  settled_so place (s ∷ ss) (m ∷ ms) [] ns o r = absurd r
  settled_so place (s ∷ ss) (m ∷ ms) (w ∷ ws) [] o r = absurd r
  settled_so place (s ∷ ss) (m ∷ ms) (w ∷ ws) (n ∷ ns) o r = (
    elim r.0 [ inl gone ↦ inl gone | inr rest ↦ inr (settled_one place s m w n o.0 rest) ],
    settled_so (suc place) ss ms ws ns o.1 r.1,
  )

-- What a frame that came back was for each open slave of a serving.
use Rattle.std.proofs.Common.{◌≡◌, ℕ, suc, List, [], ◌∷◌, ◌++◌, map, length, refl, sym, ap, ◌∙◌, subst}
use Rattle.std.proofs.lemmas.List.{length-map}
use Rattle.idle_slaves.specs.of_datagrams.Frame.{chained}
use Rattle.idle_slaves.specs.of_frame_view.Seen.{seen}
use Rattle.idle_slaves.specs.of_frame_view.View.{Lens}
use Rattle.idle_slaves.specs.of_life_model.Own.{own}
use Rattle.idle_slaves.specs.of_life_runs.First.{lens_of}
use Rattle.idle_slaves.specs.of_life_runs.Led.{Exchanged}
use Rattle.idle_slaves.specs.of_link_mails.Body.{Body}
use Rattle.served_rings.specs.of_master_hand.Spoken.{Asked, is_followed, is_passed}
use Rattle.idle_slaves.specs.of_plan_ring.PlanMet.{AllMet, IsMet}
use Rattle.idle_slaves.specs.of_plan_ring.Lives.{IsKnown}
use Rattle.idle_slaves.specs.of_plan_ring.Plan.{FitsPlan, step}
use Rattle.idle_slaves.specs.of_plan_ring.Round.{WentRound, all_seen, behind, frame_seen, ring_after, ring_of}
use Rattle.idle_slaves.proofs.of_plan_ring.Known.{AllBoot, all_boot}
use Rattle.idle_slaves.proofs.of_plan_ring.Lives.{one_after}
use Rattle.idle_slaves.specs.of_segment_model.Record.{Frame}
use Rattle.idle_slaves.specs.of_segment_plan.Sound as Plan
use Rattle.idle_slaves.specs.of_segment_plan.declared.plan.Scenario.{Scenario}
use Rattle.idle_slaves.specs.of_segment_plan.declared.slave.SlaveSpec.{SlaveSpec}
use Rattle.idle_slaves.specs.of_segment_ring.Ring.{RingState, ring_returned}
use Rattle.idle_slaves.specs.of_segment_ring.Schedule.{fate_at}
use Rattle.idle_slaves.specs.of_segment_ring.declared.wire.Fate.TheVariants.{Pass}
use Rattle.served_rings.specs.Rings.{AllServedAt, AreServedLived, ServedMember, served_member, served_members}
use Rattle.served_rings.proofs.All as Every
use Rattle.idle_slaves.specs.of_life_runs.Served.{Serves, ServedTurn, AllServedTurn, IsServedFrame}
use Rattle.seen_slaves.specs.Eager.{leads_of}
use Rattle.seen_slaves.proofs.Seats.{nodes_are, paces_are}
use Rattle.idle_slaves.specs.of_plan_ring.Met.{AllOpenMet, OpenMet}
use Rattle.idle_slaves.proofs.of_plan_ring.Each.{meets}
use Rattle.idle_slaves.proofs.of_plan_ring.OpenEach.{each_met}
use Rattle.idle_slaves.specs.of_slave_server.Serving.{Serving}
use Rattle.idle_slaves.specs.of_slave_node.Node.{Node, node_passed}
use Rattle.served_rings.specs.of_whole_ring.Turning.{AllTurn, Turn, behind_frame, frame_at}
use Rattle.served_rings.proofs.of_whole_ring.Members as Members

-- no frame changes a pace
paces_after : (ring : RingState (Node Serving)) (fs : List Exchanged) → (ring_after ring fs).paces ≡ ring.paces
paces_after ring [] = refl
paces_after ring (f ∷ fs) = paces_after (behind ring f.sent) fs

module _ (plan : Scenario) (is : Plan.IsPlan plan) (known : IsKnown plan) (fs : List Exchanged) (ws : List Serves) (f : Exchanged) (vs : List ServedTurn) (x : AreServedLived plan fs ws) (y : IsServedFrame (lens_of plan.slaves) (length fs) f.sent ws vs) (went : WentRound (ring_after (ring_of plan) fs) f) (pass : f.fate ≡ Pass) where
  abbrev lens : ℕ → Lens
  lens = lens_of plan.slaves

  abbrev ring : RingState (Node Serving)
  ring = ring_after (ring_of plan) fs

  abbrev gs : List (Frame Body)
  gs = all_seen lens fs

  abbrev made : ℕ
  made = length gs

  many : made ≡ length fs
  many = length-map fs (frame_seen lens)

  boots : AllBoot plan.services 0 plan.slaves
  boots = all_boot (length plan.slaves) plan.slaves [] plan.slaves refl plan.services is.laid.services known.states

  each : AllServedTurn lens made y.datagrams ws vs
  each = subst (λ (n : ℕ). AllServedTurn lens n y.datagrams ws vs) (sym many) y.each

  abbrev ms : List ServedMember
  ms = served_members lens 0 plan.slaves ws x.nodes

  abbrev turns : List (Turn Asked)
  turns = Every.turns_of plan made y.datagrams ring f went plan.slaves ws vs each

  asks : AllTurn is_followed is_passed lens made y.datagrams ms turns
  asks = Every.all_turn plan made y.datagrams ring f went gs 0 plan.slaves ws x.nodes vs each x.lives.each x.at boots

  abbrev on : List ServedMember
  on = behind_frame is_followed is_passed made (frame_at lens ring f.sent) (fate_at ring.lose ring.number) 0 ms turns (chained y.datagrams)

  nodes_on : (ring_after (ring_of plan) (fs ++ f ∷ [])).nodes ≡ map (λ (m : ServedMember). m.node) on
  nodes_on = ap (λ (r : RingState (Node Serving)). r.nodes) (one_after (ring_of plan) fs f) ∙ (Members.ring_on lens step (FitsPlan plan.slaves) is_followed is_passed gs ring f.sent y.datagrams y.frame ms turns x.lives asks).nodes

  all_met : AllOpenMet (seen lens f.sent) (seen lens (ring_returned node_passed ring f.sent)) made ms on
  all_met = each_met lens step (FitsPlan plan.slaves) is_followed is_passed gs ring f.sent y.datagrams y.frame ms x.lives (meets lens step (FitsPlan plan.slaves) is_followed is_passed gs ring f.sent y.datagrams y.frame ms turns x.lives asks)
      (sym went.fate ∙ pass) [] ms turns refl x.lives.each asks

  one : (place : ℕ) (s : SlaveSpec) (w : Serves) (n k : Node Serving) → OpenMet (seen lens f.sent) (seen lens (ring_returned node_passed ring f.sent)) made (served_member lens place s w n) k → IsMet lens (seen lens f.sent) (seen lens f.back) made w.pace s n k
  one place s w n k o = record { back_is = ap (λ octets. own s.station (seen lens octets)) went.back ∙ o.back; slave = o.node }

  all : (place : ℕ) (ss : List SlaveSpec) (us : List Serves) (ns : List (Node Serving)) (ks : List ServedMember) → AllServedAt plan place ss us ns → AllOpenMet (seen lens f.sent) (seen lens (ring_returned node_passed ring f.sent)) made (served_members lens place ss us ns) ks →
      AllMet lens (seen lens f.sent) (seen lens f.back) made ss (leads_of us) (map (λ (w : Serves). w.pace) us) ns (map (λ (m : ServedMember). m.node) ks)
  all place [] [] [] [] at o = tt
  all place [] [] [] (k ∷ ks) at o = absurd o
  all place [] [] (n ∷ ns) ks at o = absurd at
  all place [] (w ∷ us) ns ks at o = absurd at
  all place (s ∷ ss) [] ns ks at o = absurd at
  all place (s ∷ ss) (w ∷ us) [] ks at o = absurd at
  all place (s ∷ ss) (w ∷ us) (n ∷ ns) [] at o = absurd o
  all place (s ∷ ss) (w ∷ us) (n ∷ ns) (k ∷ ks) at o = ((λ opens. one place s w n k.node (o.0 opens)), all (suc place) ss us ns ks at.1 o.1)

  abbrev Met : ℕ → List ℕ → List (Node Serving) → List (Node Serving) → Type 0
  Met number paces ns ks = AllMet lens (seen lens f.sent) (seen lens f.back) number plan.slaves (leads_of ws) paces ns ks

  -- THE SLAVES OF THE PLAN, with its paces
  pub served_met : AllMet (lens_of plan.slaves) (seen (lens_of plan.slaves) f.sent) (seen (lens_of plan.slaves) f.back) (length fs) plan.slaves (leads_of ws) plan.paces (ring_after (ring_of plan) fs).nodes (ring_after (ring_of plan) (fs ++ f ∷ [])).nodes
  served_met =
      let nodes : ring.nodes ≡ x.nodes = x.lives.nodes ∙ nodes_are plan 0 plan.slaves ws x.nodes x.at in
      let paces : map (λ (w : Serves). w.pace) ws ≡ plan.paces = sym (paces_are plan 0 plan.slaves ws x.nodes x.at) ∙ sym x.lives.paces ∙ paces_after (ring_of plan) fs in
      let here : Met made (map (λ (w : Serves). w.pace) ws) x.nodes (map (λ (m : ServedMember). m.node) on) = all 0 plan.slaves ws x.nodes on x.at all_met in
      subst (λ (n : ℕ). Met n plan.paces ring.nodes (ring_after (ring_of plan) (fs ++ f ∷ [])).nodes) many
      (subst (λ (ps : List ℕ). Met made ps ring.nodes (ring_after (ring_of plan) (fs ++ f ∷ [])).nodes) paces
      (subst (λ (ns : List (Node Serving)). Met made (map (λ (w : Serves). w.pace) ws) ns (ring_after (ring_of plan) (fs ++ f ∷ [])).nodes) (sym nodes)
      (subst (λ (ks : List (Node Serving)). Met made (map (λ (w : Serves). w.pace) ws) x.nodes ks) (sym nodes_on) here)))

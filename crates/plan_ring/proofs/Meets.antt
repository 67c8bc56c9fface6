-- What a frame that came back was for each of them.
use Rattle.std.proofs.Common.{◌≡◌, ℕ, suc, List, [], ◌∷◌, ◌++◌, map, length, refl, sym, ap, ◌∙◌, subst, if◌then◌else◌}
use Rattle.std.proofs.lemmas.List.{length-map}
use Rattle.run_frames.specs.of_datagrams.Frame.{chained}
use Rattle.whole_ring.specs.of_frame_view.Seen.{seen}
use Rattle.whole_ring.specs.of_frame_view.View.{Lens}
use Rattle.whole_ring.specs.of_frame_view.Shares.{Lived}
use Rattle.whole_ring.specs.of_life_model.Lives.{Spot}
use Rattle.whole_ring.specs.of_life_model.Own.{own}
use Rattle.run_frames.specs.of_life_runs.First.{lens_of}
use Rattle.run_frames.specs.of_life_runs.Led.{Exchanged, Leads, Turn, IsLedFrame, is_passed}
use Rattle.slave_server.specs.of_link_mails.Body.{Body}
use Rattle.run_frames.specs.of_master_duty.Reply.{Reply}
use Rattle.run_frames.specs.of_master_hand.Spoken.{Asked, is_followed}
use Rattle.plan_ring.specs.Met.{OpenMet, AllOpenMet}
use Rattle.plan_ring.proofs.OpenEach.{each_met}
use Rattle.plan_ring.specs.Asked.{asked}
use Rattle.plan_ring.specs.Lives.{IsKnown, IsShown, AllShown, AreLived}
use Rattle.plan_ring.specs.Master.{AllUnder}
use Rattle.plan_ring.specs.Plan.{PlanMember, FitsPlan, step}
use Rattle.plan_ring.specs.Round.{ring_of, ring_after, behind, WentRound, all_seen, frame_seen}
use Rattle.plan_ring.proofs.Known.{AllBoot, all_boot}
use Rattle.plan_ring.proofs.Lives.{one_after}
use Rattle.plan_ring.proofs.Master as Ring
use Rattle.plan_ring.proofs.Turns.{under_of, all_under}
use Rattle.plan_ring.proofs.Each.{meets}
use Rattle.slave_server.specs.of_segment_model.Record.{Frame}
use Rattle.slave_server.specs.of_segment_model.Slaves.{Datagram, slave_after, slave_steps, frame_after}
use Rattle.slave_server.specs.of_segment_plan.Sound as Plan
use Rattle.slave_server.specs.of_segment_plan.declared.plan.Scenario.{Scenario}
use Rattle.slave_server.specs.of_segment_plan.declared.slave.SlaveSpec.{SlaveSpec}
use Rattle.run_frames.specs.of_segment_ring.Ring.{RingState, ring_returned, is_in_pace}
use Rattle.run_frames.specs.of_segment_ring.Schedule.{fate_at}
use Rattle.run_frames.specs.of_segment_ring.declared.wire.Fate.TheVariants.{Pass}
use Rattle.whole_ring.specs.of_slave_lives.Lived.{Behind, node_seen}
use Rattle.slave_server.specs.of_slave_parts.Parts.{Core, Server}
use Rattle.slave_server.specs.of_protocol_models.Network.{Station}
use Rattle.slave_server.specs.Serving.{Serving}
use Rattle.slave_server.specs.Spec.{profile_of}
use Rattle.slave_server.specs.of_slave_node.Node.{Node, node_passed}
use Rattle.slave_server.specs.of_state_model.Families.{InState}
use Rattle.whole_ring.specs.Turning as Whole
use Rattle.whole_ring.specs.Turning.{frame_at, behind_frame}
use Rattle.whole_ring.proofs.Members as Members
use Rattle.plan_ring.specs.PlanMet.{IsMet, AllMet}

paces_behind : (ring : RingState (Node Serving)) (fs : List Exchanged) → (ring_after ring fs).paces ≡ ring.paces
paces_behind ring [] = refl
paces_behind ring (f ∷ fs) = paces_behind (behind ring f.sent) fs

module _ (plan : Scenario) (is : Plan.IsPlan plan) (known : IsKnown plan) (fs : List Exchanged) (as' : List Leads) (f : Exchanged) (us : List Turn) (x : AreLived plan fs as') (y : IsLedFrame (lens_of plan.slaves) (length fs) f.sent as' us) (w : WentRound (ring_after (ring_of plan) fs) f) (pass : f.fate ≡ Pass) where
  abbrev lens : ℕ → Lens
  lens = lens_of plan.slaves

  abbrev ring : RingState (Node Serving)
  ring = ring_after (ring_of plan) fs

  abbrev gs : List (Frame Body)
  gs = all_seen (lens_of plan.slaves) fs

  abbrev made : ℕ
  made = length (all_seen (lens_of plan.slaves) fs)

  abbrev sent_frame : Frame Body
  sent_frame = frame_at (lens_of plan.slaves) (ring_after (ring_of plan) fs) f.sent

  many : made ≡ length fs
  many = length-map fs (frame_seen lens)

  boots : AllBoot plan.services 0 plan.slaves
  boots = all_boot (length plan.slaves) plan.slaves [] plan.slaves refl plan.services is.laid.services known.states

  xs : AllUnder is_followed is_passed lens made y.datagrams x.members (map under_of us)
  xs = subst (λ (n : ℕ). AllUnder is_followed is_passed lens n y.datagrams x.members (map under_of us)) (sym many) (all_under plan gs (length fs) y.datagrams 0 plan.slaves x.members as' us x.lives.each x.shown boots y.each)

  abbrev turns : List (Whole.Turn Asked)
  turns = Ring.turns_of is_followed is_passed lens made y.datagrams x.members (map under_of us) x.led xs

  turned : Whole.AllTurn is_followed is_passed lens made y.datagrams x.members turns
  turned = Ring.all_turn is_followed is_passed lens made y.datagrams x.members (map under_of us) x.led xs

  abbrev members_behind : List PlanMember
  members_behind = behind_frame is_followed is_passed made sent_frame (fate_at ring.lose ring.number) 0 x.members turns (chained y.datagrams)

  nodes_on : (ring_after (ring_of plan) (fs ++ f ∷ [])).nodes ≡ map (λ (m : PlanMember). m.node) members_behind
  nodes_on = ap (λ (r : RingState (Node Serving)). r.nodes) (one_after (ring_of plan) fs f) ∙ (Members.ring_on lens step (FitsPlan plan.slaves) is_followed is_passed gs ring f.sent y.datagrams y.frame x.members turns x.lives turned).nodes

  all_met : AllOpenMet (seen lens f.sent) (seen lens (ring_returned node_passed ring f.sent)) made x.members members_behind
  all_met = each_met lens step (FitsPlan plan.slaves) is_followed is_passed gs ring f.sent y.datagrams y.frame x.members x.lives (meets lens step (FitsPlan plan.slaves) is_followed is_passed gs ring f.sent y.datagrams y.frame x.members turns x.lives turned)
      (sym w.fate ∙ pass) [] x.members turns refl x.lives.each turned

  -- the same, by what the plan says of each
  abbrev Back : List (Datagram Body)
  Back = seen lens f.back

  record IsMetBy (m n : PlanMember) (v : Behind Serving (InState Server) (InState (Station Core)) Asked Reply) (station number : ℕ) : Type 0 where
    back_is : own station (seen lens (ring_returned node_passed ring f.sent)) ≡ frame_after station (node_seen v m.node) (own station (seen lens f.sent))
    slave : node_seen v n.node ≡ (let z = slave_after station (node_seen v m.node) (own station (seen lens f.sent)) in if is_in_pace m.pace number then slave_steps v.exchange v.processor z else z)

  one : (place : ℕ) (s : SlaveSpec) (m n : PlanMember) (a : Leads) → IsShown plan place s m a → OpenMet (seen lens f.sent) (seen lens (ring_returned node_passed ring f.sent)) made m n.node → IsMet lens (seen lens f.sent) Back (length fs) m.pace s m.node n.node
  one place s m n a sh o =
      let station : m.spot.station ≡ s.station = ap (λ (z : Spot). z.station) sh.is.spot in
      let as_plan : IsMetBy m n m.services m.spot.station made = record { back_is = o.back; slave = o.node } in
      let k : IsMetBy m n (asked (profile_of s) s.boot lens) s.station (length fs) =
      subst (λ (z : ℕ). IsMetBy m n (asked (profile_of s) s.boot lens) s.station z) many
      (subst (λ (z : ℕ). IsMetBy m n (asked (profile_of s) s.boot lens) z made) station (subst (λ (z : Behind Serving (InState Server) (InState (Station Core)) Asked Reply). IsMetBy m n z m.spot.station made) sh.is.services as_plan)) in
      record { back_is = ap (λ octets. own s.station (seen lens octets)) w.back ∙ k.back_is; slave = k.slave }

  all : (place : ℕ) (ss : List SlaveSpec) (ms ns : List PlanMember) (bs : List Leads) → AllShown plan place ss ms bs → AllOpenMet (seen lens f.sent) (seen lens (ring_returned node_passed ring f.sent)) made ms ns →
      AllMet lens (seen lens f.sent) Back (length fs) ss bs (map (λ (m : PlanMember). m.pace) ms) (map (λ (m : PlanMember). m.node) ms) (map (λ (m : PlanMember). m.node) ns)
  all place [] [] [] [] sh o = tt
  all place [] [] (n ∷ ns) [] sh o = absurd o
  all place [] [] ns (a ∷ bs) sh o = absurd sh
  all place [] (m ∷ ms) ns bs sh o = absurd sh
  all place (s ∷ ss) [] ns bs sh o = absurd sh
  all place (s ∷ ss) (m ∷ ms) ns [] sh o = absurd sh
  all place (s ∷ ss) (m ∷ ms) [] (a ∷ bs) sh o = absurd o
  all place (s ∷ ss) (m ∷ ms) (n ∷ ns) (a ∷ bs) sh o = (
    (λ e. one place s m n a sh.0 (o.0 (ap (λ (l : Lived Asked Reply). l.life.stand) sh.0.lived ∙ e))),
    all (suc place) ss ms ns bs sh.1 o.1,
  )

  pub plan_meets : AllMet (lens_of plan.slaves) (seen (lens_of plan.slaves) f.sent) (seen (lens_of plan.slaves) f.back) (length fs) plan.slaves as' plan.paces (ring_after (ring_of plan) fs).nodes (ring_after (ring_of plan) (fs ++ f ∷ [])).nodes
  plan_meets =
      subst (λ ks. AllMet lens (seen lens f.sent) Back (length fs) plan.slaves as' plan.paces ring.nodes ks) (sym nodes_on)
      (subst (λ ns. AllMet lens (seen lens f.sent) Back (length fs) plan.slaves as' plan.paces ns (map (λ (m : PlanMember). m.node) members_behind)) (sym x.lives.nodes)
      (subst (λ ps. AllMet lens (seen lens f.sent) Back (length fs) plan.slaves as' ps (map (λ (m : PlanMember). m.node) x.members) (map (λ (m : PlanMember). m.node) members_behind)) (sym x.lives.paces ∙ paces_behind (ring_of plan) fs)
      (all 0 plan.slaves x.members members_behind as' x.shown all_met)))

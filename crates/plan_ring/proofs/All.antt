-- All slaves of a plan's ring by a frame that came back.
use Rattle.std.proofs.Common.{◌≡◌, ℕ, suc, Bool, All, List, [], ◌∷◌, ◌++◌, length, ◌∙◌}
use Rattle.std.proofs.lemmas.List.Elements.{All-head, All-tail}
use Rattle.run_frames.specs.of_datagrams.Datagram as Raw
use Rattle.run_frames.specs.of_datagrams.Frame.{chained}
use Rattle.whole_ring.specs.of_frame_view.Seen.{seen, datagrams_seen}
use Rattle.whole_ring.specs.of_frame_view.View.{Lens}
use Rattle.whole_ring.proofs.of_frame_view.Octets.{seen_is, seen_chained}
use Rattle.slave_server.specs.of_slave_model.Hears.{HearsFirst}
use Rattle.run_frames.specs.of_life_runs.First.{lens_of}
use Rattle.run_frames.specs.of_life_runs.Led.{Exchanged, Leads, Turn, AllTurn, IsLedFrame}
use Rattle.slave_server.specs.of_link_mails.Body.{Body}
use Rattle.plan_ring.specs.PlanMet.{AllOpenAt, AllMet}
use Rattle.plan_ring.specs.Asked.{asked}
use Rattle.plan_ring.specs.Lives.{IsKnown, AreLived}
use Rattle.plan_ring.specs.Round.{ring_of, ring_after, WentRound}
use Rattle.slave_server.specs.of_segment_model.Slaves.{Datagram}
use Rattle.slave_server.specs.of_segment_plan.Sound.{IsPlan, IsSlave}
use Rattle.slave_server.specs.of_segment_plan.declared.plan.Scenario.{Scenario}
use Rattle.slave_server.specs.of_segment_plan.declared.slave.SlaveSpec.{SlaveSpec}
use Rattle.run_frames.specs.of_segment_ring.declared.wire.Fate.{Fate}
use Rattle.slave_server.specs.of_slave_model.Profile.{Profile, IsProfile}
use Rattle.slave_server.specs.Serving.{Serving}
use Rattle.slave_server.specs.Spec.{profile_of}
use Rattle.slave_server.specs.of_slave_node.Node.{Node}
use Rattle.plan_ring.specs.Dues.{AllDue}
use Rattle.plan_ring.proofs.Slaves.{is_due}

-- what the laws below say
pub record Laws (plan : Scenario) : Type 0 where
  pub hears : (p : Profile) → IsProfile p → (boot : Bool) (lens : ℕ → Lens) → HearsFirst (asked p boot lens).exchange
  pub opens : (fs : List Exchanged) (as' : List Leads) → AreLived plan fs as' → AllOpenAt plan fs 0 plan.slaves as' (ring_after (ring_of plan) fs).nodes
  pub meets : (fs : List Exchanged) (as' : List Leads) (f : Exchanged) (us : List Turn) → AreLived plan fs as' → IsLedFrame (lens_of plan.slaves) (length fs) f.sent as' us → WentRound (ring_after (ring_of plan) fs) f → f.fate ≡ Fate.Pass →
      AllMet (lens_of plan.slaves) (seen (lens_of plan.slaves) f.sent) (seen (lens_of plan.slaves) f.back) (length fs) plan.slaves as' plan.paces (ring_after (ring_of plan) fs).nodes (ring_after (ring_of plan) (fs ++ f ∷ [])).nodes

module _ (plan : Scenario) (laws : Laws plan) (is : IsPlan plan) (known : IsKnown plan) where
  abbrev lens : ℕ → Lens
  lens = lens_of plan.slaves

  module _ (fs : List Exchanged) (number : ℕ) (sent back : List (Datagram Body)) (ds : List Raw.Datagram) (view : sent ≡ datagrams_seen (lens_of plan.slaves) ds) where
    all : (place : ℕ) (ss : List SlaveSpec) (as' : List Leads) (us : List Turn) (paces : List ℕ) (ns ks : List (Node Serving)) → All IsSlave ss → All (λ (s : SlaveSpec). length s.mac ≡ 6) ss → AllTurn lens number ds as' us → AllOpenAt plan fs place ss as' ns →
        AllMet lens sent back number ss as' paces ns ks → AllDue lens back us
    all place [] [] [] paces ns ks slaves macs y o m = tt
    all place [] [] (u ∷ us) paces ns ks slaves macs y o m = absurd y
    all place [] (a ∷ as') us paces ns ks slaves macs y o m = absurd o
    all place (s ∷ ss) [] us paces ns ks slaves macs y o m = absurd o
    all place (s ∷ ss) (a ∷ as') [] paces ns ks slaves macs y o m = absurd y
    all place (s ∷ ss) (a ∷ as') (u ∷ us) paces [] ks slaves macs y o m = absurd o
    all place (s ∷ ss) (a ∷ as') (u ∷ us) [] (n ∷ ns) ks slaves macs y o m = absurd m
    all place (s ∷ ss) (a ∷ as') (u ∷ us) (pace ∷ paces) (n ∷ ns) [] slaves macs y o m = absurd m
    all place (s ∷ ss) (a ∷ as') (u ∷ us) (pace ∷ paces) (n ∷ ns) (k ∷ ks) slaves macs y o m =
        let slave : IsSlave s = All-head IsSlave s ss slaves in
        let mac : length s.mac ≡ 6 = All-head (λ (z : SlaveSpec). length z.mac ≡ 6) s ss macs in
        let profile : IsProfile (profile_of s) = record { out_least = slave.out_least; out_most = slave.out_most; back_least = slave.in_least; back_most = slave.in_most; mac = mac } in (
          (λ opens. is_due plan fs place number pace sent back ds view s a u n k y.0 o.0 m.0 (laws.hears (profile_of s) profile s.boot lens) opens),
          all (suc place) ss as' us paces ns ks (All-tail IsSlave s ss slaves) (All-tail (λ (z : SlaveSpec). length z.mac ≡ 6) s ss macs) y.1 o.1 m.1,
        )

  pub all_due : (fs : List Exchanged) (as' : List Leads) (f : Exchanged) (us : List Turn) → AreLived plan fs as' → IsLedFrame (lens_of plan.slaves) (length fs) f.sent as' us → WentRound (ring_after (ring_of plan) fs) f → f.fate ≡ Fate.Pass → AllDue (lens_of plan.slaves) (seen (lens_of plan.slaves) f.back) us
  all_due fs as' f us x y w pass =
      all fs (length fs) (seen lens f.sent) (seen lens f.back) y.datagrams (seen_is lens f.sent (chained y.datagrams) y.frame ∙ seen_chained lens y.datagrams) 0 plan.slaves as' us plan.paces
      (ring_after (ring_of plan) fs).nodes (ring_after (ring_of plan) (fs ++ f ∷ [])).nodes is.laid.slaves known.macs y.each (laws.opens fs as' x) (laws.meets fs as' f us x y w pass)

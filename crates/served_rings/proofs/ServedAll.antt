-- ALL SLAVES of a serving, at their places.
use Rattle.std.proofs.Common.{◌≡◌, ℕ, suc, Bool, List, [], ◌∷◌, map, ap, refl}
use Rattle.std.specs.Prelude.{All}
use Rattle.std.proofs.lemmas.List.Elements.{All-head, All-tail}
use Rattle.run_work.specs.of_frame_view.View.{Lens}
use Rattle.served_places.specs.of_life_runs.First.{lens_of, spot_of}
use Rattle.served_places.specs.of_link_mails.Body.{Body}
use Rattle.run_work.specs.of_master_hand.Spoken.{is_followed, is_passed}
use Rattle.run_work.specs.of_few_replies.Clearing.{Forgets}
use Rattle.run_work.specs.of_plan_ring.Plan.{AllMacs, plan_of}
use Rattle.served_rings.specs.Speakers.{cleared_whole, speaker}
use Rattle.run_work.specs.Lives.{first_server}
use Rattle.served_places.specs.of_segment_model.Record.{Frame}
use Rattle.run_work.specs.of_segment_plan.Sound.{IsSlave}
use Rattle.run_work.specs.of_segment_plan.declared.plan.Scenario.{Scenario}
use Rattle.run_work.specs.of_segment_plan.declared.slave.SlaveSpec.{SlaveSpec}
use Rattle.served_rings.specs.Rings.{AllServedAt, ServedMember, counters_of, served_members}
use Rattle.served_places.specs.of_life_runs.Served.{Serves}
use Rattle.run_work.specs.of_slave_lives.Lived.{IsBehind}
use Rattle.run_work.specs.of_slave_model.Profile.{Profile, IsProfile}
use Rattle.run_work.specs.of_slave_server.Serving.{Serving}
use Rattle.run_work.specs.of_slave_server.Spec.{profile_of}
use Rattle.run_work.specs.of_slave_node.Node.{Node}
use Rattle.run_work.specs.of_life_counts.Epochs.{IsSpeaker}
use Rattle.served_rings.specs.Stood.{ServeStood}
use Rattle.served_rings.specs.StoodLives.{AllStoodMembers, IsFirst, others}
use Rattle.served_rings.specs.Serves.{serves}
use Rattle.served_rings.proofs.ServedLives.{life_served}

-- the nodes of the members are those nodes
pub nodes_of : (plan : Scenario) (lens : ℕ → Lens) (place : ℕ) (ss : List SlaveSpec) (ws : List Serves) (ns : List (Node Serving)) → AllServedAt plan place ss ws ns → map (λ (m : ServedMember). m.node) (served_members lens place ss ws ns) ≡ ns
nodes_of plan lens place [] [] [] at = refl
nodes_of plan lens place [] [] (n ∷ ns) at = absurd at
nodes_of plan lens place [] (w ∷ ws) ns at = absurd at
nodes_of plan lens place (s ∷ ss) [] ns at = absurd at
nodes_of plan lens place (s ∷ ss) (w ∷ ws) [] at = absurd at
nodes_of plan lens place (s ∷ ss) (w ∷ ws) (n ∷ ns) at = ap (λ l. n ∷ l) (nodes_of plan lens (suc place) ss ws ns at.1)

module _ (speaks : (p : Profile) → IsProfile p → IsSpeaker (speaker p)) (forgets : (p : Profile) → Forgets (speaker p).exchange (speaker p).core cleared_whole)
    (behind : (p : Profile) (boot : Bool) (lens : ℕ → Lens) → IsBehind (serves p boot lens)) (plan : Scenario) (gs : List (Frame Body)) where
  abbrev lens : ℕ → Lens
  lens = lens_of plan.slaves

  pub all_serve_so : (stood : ℕ → List (Node Serving)) (place : ℕ) (ss : List SlaveSpec) (ws : List Serves) (ns : List (Node Serving)) → All IsSlave ss → AllMacs ss → AllStoodMembers is_followed is_passed stood gs (served_members lens place ss ws ns) (map counters_of ws) →
      AllServedAt plan place ss ws ns → ServeStood stood ss ws ns
  all_serve_so stood place [] [] [] slaves macs led at = record { each = tt; held = tt }
  all_serve_so stood place [] [] (n ∷ ns) slaves macs led at = absurd at
  all_serve_so stood place [] (w ∷ ws) ns slaves macs led at = absurd at
  all_serve_so stood place (s ∷ ss) [] ns slaves macs led at = absurd at
  all_serve_so stood place (s ∷ ss) (w ∷ ws) [] slaves macs led at = absurd at
  all_serve_so stood place (s ∷ ss) (w ∷ ws) (n ∷ ns) slaves macs led at =
      let here = All-head IsSlave s ss slaves in
      let profile : IsProfile (profile_of s) = record { out_least = here.out_least; out_most = here.out_most; back_least = here.in_least; back_most = here.in_most; mac = macs.0 } in
      let one = life_served (profile_of s) (speaks (profile_of s) profile) (forgets (profile_of s)) s.boot lens (behind (profile_of s) s.boot lens) (spot_of place s) (IsFirst stood) (plan_of s) w.kept w.counts (first_server s) w.lead.lived.life gs n led.0 in
      let rest = all_serve_so (others stood) (suc place) ss ws ns (All-tail IsSlave s ss slaves) macs.1 led.1 at.1 in
      record { each = (one.0, rest.each); held = (record { past = one.1; state = one.2 }, rest.held) }

-- THE LIVES OF A SERVING WITH FAIR MAILS are worked by its slaves in sessions of services and fair mails.
use Rattle.std.proofs.Common.{ℕ, suc, Bool, List, [], ◌∷◌, map, refl}
use Rattle.std.specs.Prelude.{All}
use Rattle.std.proofs.lemmas.List.Elements.{All-head, All-tail}
use Rattle.run_work.specs.of_frame_view.View.{Lens}
use Rattle.served_rings.specs.LedRings.{AllLedMembers}
use Rattle.served_places.specs.of_life_model.Lives.{Life, Spot}
use Rattle.served_places.specs.of_life_runs.First.{lens_of, spot_of}
use Rattle.served_places.specs.of_link_mails.Body.{Body}
use Rattle.run_work.specs.of_master_duty.Reply.{Reply}
use Rattle.run_work.specs.of_master_hand.Spoken.{Asked, is_followed, is_passed}
use Rattle.run_work.specs.of_plan_ring.Plan.{AllMacs, plan_of}
use Rattle.served_rings.specs.Speakers.{cleared_whole, processor_of, seer_of, speaker, spoken, table_of}
use Rattle.served_rings.proofs.Fair.{life_fair}
use Rattle.served_rings.specs.SeenLed.{IsFairLife, IsLedLife}
use Rattle.served_places.specs.of_segment_model.Record.{Frame}
use Rattle.run_work.specs.of_segment_plan.Sound.{IsSlave}
use Rattle.run_work.specs.of_segment_plan.declared.plan.Scenario.{Scenario}
use Rattle.run_work.specs.of_segment_plan.declared.slave.SlaveSpec.{SlaveSpec}
use Rattle.run_work.specs.Fair.{AsksFair}
use Rattle.run_work.specs.Lives.{AllServedLives, IsServedLife, first_server}
use Rattle.served_rings.proofs.Leds.{life_led}
use Rattle.served_places.specs.of_life_runs.Came.{HasServed}
use Rattle.served_places.specs.of_life_runs.Served.{Serves}
use Rattle.run_work.specs.of_slave_model.Profile.{Profile, IsProfile}
use Rattle.run_work.specs.of_slave_parts.Parts.{Server}
use Rattle.run_work.specs.of_slave_server.Serving.{Serving}
use Rattle.run_work.specs.of_slave_server.Spec.{profile_of}
use Rattle.run_work.specs.of_slave_node.Node.{Node}
use Rattle.served_places.specs.of_state_model.Families.{InState}
use Rattle.served_rings.specs.Rings.{AllServedAt, counters_of, served_members}

-- a life that the master of a plan's speaker leads, with fair mails, is worked so
abbrev pub LifeLaw : Type 0
LifeLaw = (p : Profile) → IsProfile p → (boot : Bool) (spot : Spot) (first : InState Server) (l : Life Body Asked Reply) → IsLedLife (speaker p) (seer_of p boot) (table_of boot) spot (spoken p) (processor_of boot) cleared_whole first l → IsFairLife (speaker p) l → IsServedLife p first l

module _ (law : LifeLaw) (plan : Scenario) (gs : List (Frame Body)) where
  abbrev lens : ℕ → Lens
  lens = lens_of plan.slaves

  pub all_served : (place : ℕ) (ss : List SlaveSpec) (ws : List Serves) (ns : List (Node Serving)) → All IsSlave ss → AllMacs ss → AllLedMembers is_followed is_passed gs (served_members lens place ss ws ns) (map counters_of ws) → AllServedAt plan place ss ws ns →
      All (HasServed lens) ws → All AsksFair ws → AllServedLives ss ws
  all_served place [] [] ns slaves macs led at has fair = tt
  all_served place [] (w ∷ ws) ns slaves macs led at has fair = absurd at
  all_served place (s ∷ ss) [] ns slaves macs led at has fair = absurd at
  all_served place (s ∷ ss) (w ∷ ws) [] slaves macs led at has fair = absurd at
  all_served place (s ∷ ss) (w ∷ ws) (n ∷ ns) slaves macs led at has fair =
      let here = All-head IsSlave s ss slaves in
      let profile : IsProfile (profile_of s) = record { out_least = here.out_least; out_most = here.out_most; back_least = here.in_least; back_most = here.in_most; mac = macs.0 } in
      let life = life_led (profile_of s) s.boot lens (spot_of place s) (plan_of s) w.kept w.counts (first_server s) w.lead.lived.life gs n refl led.0 in (
        law (profile_of s) profile s.boot (spot_of place s) (first_server s) w.lead.lived.life life (life_fair (profile_of s) lens w (All-head (HasServed lens) w ws has) (All-head AsksFair w ws fair)),
        all_served (suc place) ss ws ns (All-tail IsSlave s ss slaves) macs.1 led.1 at.1 (All-tail (HasServed lens) w ws has) (All-tail AsksFair w ws fair),
      )

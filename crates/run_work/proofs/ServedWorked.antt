-- All lives of a serving together, against its plan and the mails that were asked.
use Rattle.std.proofs.Common.{◌≡◌, ℕ, suc, ◌+◌, ◌*◌, ◌≤◌, All, List, [], ◌∷◌, ◌++◌, length, take, filter, refl, sym, ap, subst, arith, length-append}
use Rattle.std.specs.Prelude.{sum_by}
use Rattle.std.proofs.lemmas.List.Elements.{All-head, All-tail}
use Rattle.life_counts.specs.of_life_model.Script.{life_started}
use Rattle.plan_ring.specs.of_frame_view.View.{Lens}
use Rattle.life_counts.specs.Begun.{begun_most, life_most}
use Rattle.life_counts.specs.of_life_model.Gains.{gains}
use Rattle.life_counts.specs.of_life_model.Lives.{Life}
use Rattle.plan_ring.specs.of_life_runs.First.{lens_of, script_for, leads_from}
use Rattle.life_counts.specs.of_link_mails.Body.{Body}
use Rattle.plan_ring.specs.of_master_duty.Reply.{Reply}
use Rattle.life_counts.specs.of_master_hand.Spoken.{Asked, is_passed}
use Rattle.life_counts.proofs.of_few_replies.PassingSteps as Steps
use Rattle.life_counts.specs.Asked.{asked_most}
use Rattle.life_counts.specs.Split.{own_work}
use Rattle.plan_ring.specs.of_run_frames.Clocks.{reopened}
use Rattle.plan_ring.specs.of_run_frames.States.{states_begun}
use Rattle.plan_ring.proofs.of_run_frames.Stating.{LifeCame, life_few}
use Rattle.run_work.specs.Switched.{cuts_begun}
use Rattle.run_work.specs.Together.{packets_begun}
use Rattle.run_work.proofs.Packets.{begun_parts}
use Rattle.run_work.proofs.Sums.{life_one, life_states}
use Rattle.run_work.proofs.Together.{whole_work, scripted}
use Rattle.plan_ring.specs.of_run_frames.Came.{is_packet}
use Rattle.plan_ring.specs.of_run_frames.Begun.{work_begun, work_in}
use Rattle.plan_ring.proofs.of_run_frames.Shared.{scripts, all_work, begun_less, all_rows}
use Rattle.life_counts.specs.of_segment_plan.Sound.{IsSlave, IsService, IsAddressed}
use Rattle.life_counts.specs.of_segment_plan.declared.plan.Scenario.{Scenario}
use Rattle.life_counts.specs.of_segment_plan.declared.service.Service as Plan
use Rattle.life_counts.specs.of_segment_plan.declared.slave.SlaveSpec.{SlaveSpec}
use Rattle.life_counts.specs.Served.{served_gains}
use Rattle.plan_ring.specs.of_life_runs.Came.{HasServed}
use Rattle.plan_ring.specs.of_life_runs.Served.{Serves}
use Rattle.run_work.specs.ServedGained.{serving_most, AllPaid, served_in, asked_in, leads_of}
use Rattle.run_work.proofs.Counted.{Enough, all_came, life_all, among_fewer}
use Rattle.run_work.proofs.Placed.{AllPlaced}
use Rattle.run_work.proofs.ServedLasts.{AllLives}
use Rattle.life_counts.specs.of_few_replies.Shapes.{shape_of}
use Rattle.life_counts.specs.of_slave_server.Spec.{core_of, profile_of}

module _ (enough : Enough) (plan : Scenario) (services : All (λ (row : ℕ × Plan.Service). IsAddressed (length plan.slaves) row) plan.services) (lens : ℕ → Lens) where
  one_slave : (place : ℕ) (s : SlaveSpec) (w : Serves) → IsSlave s → w.lead.script ≡ script_for place plan.services → HasServed lens w → gains w.lead.lived.life ≤ 1 + life_most (serving_most (profile_of s) (shape_of (core_of s))) w.lead.lived.life → reopened w.lead.lived.life ≤ states_begun w.lead.lived.life →
      served_gains is_passed w.lead.lived.life + reopened w.lead.lived.life ≤ 1 + (sum_by (whole_work s) (take w.lead.number w.lead.script) + begun_most (asked_most (profile_of s) (shape_of (core_of s))) (filter is_packet (life_started w.lead.lived.life))) + 82 * length w.asked
  one_slave place s w slave script h few begun =
      let f = serving_most (profile_of s) (shape_of (core_of s)) in
      let l = w.lead.lived.life in
      let started = life_started l in
      let are = subst (All (λ (t : Plan.Service). IsService t)) (sym script) (scripted (length plan.slaves) place plan.services services) in
      let counted = all_came enough s slave (lens w.lead.lived.spot.station).out w.lead.script are w.lead.number h.mails started h.came in
      omega (
        arith,
        few,
        begun,
        Steps.most is_passed l,
        life_one f l,
        life_all is_passed l,
        life_states l,
        counted,
        among_fewer (h.mails ++ w.waits) w.asked h.among,
        length-append h.mails w.waits,
      )

  pub all_slaves : (place : ℕ) (ss : List SlaveSpec) (ws : List Serves) → All (λ (s : SlaveSpec). IsSlave s) ss → AllPlaced plan.services place ss ws → All (HasServed lens) ws → AllPaid ss ws → AllLives (λ (l : Life Body Asked Reply). LifeCame l) ws →
      served_in ws ≤ length ss + work_begun whole_work ss (leads_of ws) + packets_begun ss (leads_of ws) + 82 * asked_in ws
  all_slaves place [] [] are placed h paid came = omega arith
  all_slaves place [] (w ∷ ws) are placed h paid came = absurd placed
  all_slaves place (s ∷ ss) [] are placed h paid came = absurd placed
  all_slaves place (s ∷ ss) (w ∷ ws) are placed h paid came =
      omega (
        arith,
        one_slave place s w (All-head (λ (s : SlaveSpec). IsSlave s) s ss are) placed.0.script (All-head (HasServed lens) w ws h) paid.0 (life_few w.lead.lived.life came.0),
        all_slaves (suc place) ss ws (All-tail (λ (s : SlaveSpec). IsSlave s) s ss are) placed.1 (All-tail (HasServed lens) w ws h) paid.1 came.1,
      )

-- the scripts are those of the plan
placed_scripts : (rows : List (ℕ × Plan.Service)) (place : ℕ) (ss : List SlaveSpec) (ws : List Serves) → AllPlaced rows place ss ws → scripts (leads_of ws) ≡ scripts (leads_from rows place ss)
placed_scripts rows place [] [] all = refl
placed_scripts rows place [] (w ∷ ws) all = absurd all
placed_scripts rows place (s ∷ ss) [] all = absurd all
placed_scripts rows place (s ∷ ss) (w ∷ ws) all = λ i. all.0.script i ∷ placed_scripts rows (suc place) ss ws all.1 i

pub works_within : (work : SlaveSpec → Plan.Service → ℕ) (plan : Scenario) (ws : List Serves) → AllPlaced plan.services 0 plan.slaves ws → work_begun work plan.slaves (leads_of ws) ≤ work_in work plan.slaves plan.services
works_within work plan ws placed =
    omega (arith, begun_less work plan.slaves (leads_of ws), ap (all_work work plan.slaves) (placed_scripts plan.services 0 plan.slaves ws placed), all_rows work plan.slaves plan.services)

pub together : (enough : Enough) (plan : Scenario) → All (λ (row : ℕ × Plan.Service). IsAddressed (length plan.slaves) row) plan.services → All (λ (s : SlaveSpec). IsSlave s) plan.slaves → (ws : List Serves) → AllPlaced plan.services 0 plan.slaves ws →
    All (HasServed (lens_of plan.slaves)) ws → AllPaid plan.slaves ws → AllLives (λ (l : Life Body Asked Reply). LifeCame l) ws →
    served_in ws ≤ length plan.slaves + work_in own_work plan.slaves plan.services + (cuts_begun plan.slaves (leads_of ws) + packets_begun plan.slaves (leads_of ws)) + 82 * asked_in ws
together enough plan services are ws placed h paid came =
    omega (
      arith,
      all_slaves enough plan services (lens_of plan.slaves) 0 plan.slaves ws are placed h paid came,
      begun_parts plan.slaves (leads_of ws),
      works_within own_work plan ws placed,
    )

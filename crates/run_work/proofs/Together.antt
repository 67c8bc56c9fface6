-- All lives together, against the plan.
use Rattle.std.proofs.Common.{◌≡◌, ℕ, zero, suc, ◌+◌, ◌≤◌, ◌==◌, Bool, true, false, Option, Some, None, All, List, [], ◌∷◌, length, take, filter, refl, sym, ap, subst, arith, if◌then◌else◌}
use Rattle.std.specs.Prelude.{◌||◌, not, option_map, sum_by}
use Rattle.std.proofs.lemmas.List.Elements.{All-head, All-tail, All-cons, All-nil}
use Rattle.std.proofs.lemmas.List.Sums.{sum_by-cons}
use Rattle.life_counts.specs.of_life_model.Script.{life_started}
use Rattle.life_counts.specs.Begun.{service_most, begun_most, life_most}
use Rattle.life_counts.specs.of_life_model.Gains.{gains}
use Rattle.plan_ring.specs.of_life_runs.First.{lens_of, script_for}
use Rattle.plan_ring.specs.of_life_runs.Led.{Leads}
use Rattle.life_counts.specs.of_master_hand.Spoken.{Asked}
use Rattle.life_counts.specs.of_master_hand.Talk.{asked_of}
use Rattle.life_counts.specs.Asked.{asked_most}
use Rattle.run_work.specs.Gained.{AllGain}
use Rattle.plan_ring.specs.of_run_frames.Came.{handed_over, AreThose, is_packet}
use Rattle.plan_ring.specs.of_run_frames.Slaves.{HasCome, AllCome}
use Rattle.plan_ring.specs.of_run_frames.Begun.{work_begun}
use Rattle.life_counts.specs.Split.{own_work, entering}
use Rattle.life_counts.specs.of_segment_plan.Bound.{state_work}
use Rattle.life_counts.specs.of_segment_plan.Sound.{IsSlave, IsService, IsAddressed}
use Rattle.life_counts.specs.of_segment_plan.declared.plan.Scenario.{Scenario}
use Rattle.life_counts.specs.of_segment_plan.declared.service.Service as Plan
use Rattle.life_counts.specs.of_segment_plan.declared.slave.SlaveSpec.{SlaveSpec}
use Rattle.life_counts.specs.of_few_replies.Shapes.{shape_of}
use Rattle.life_counts.specs.of_slave_server.Spec.{core_of, profile_of}
use Rattle.life_counts.specs.of_state_model.Stated.{Service}
use Rattle.plan_ring.specs.of_run_frames.Clocks.{reopened}
use Rattle.plan_ring.specs.of_run_frames.Fates.{gained_in}
use Rattle.plan_ring.specs.of_run_frames.States.{state_of, states_begun}
use Rattle.plan_ring.proofs.of_run_frames.Stating.{life_few}
use Rattle.run_work.specs.Together.{packets_begun}
use Rattle.run_work.proofs.Reopened.{EachCame}
use Rattle.run_work.proofs.Sums.{life_one, life_states, packets_none, parted}

-- a service's own mails, and the fragments of what it emits
abbrev pub whole_work : SlaveSpec → Plan.Service → ℕ
whole_work s service = own_work s service + entering service

-- what the services of a script owe
abbrev Enough : Type 0
Enough = (room : ℕ) (s : SlaveSpec) (service : Plan.Service) (q : Asked) → IsSlave s → IsService service → asked_of room service ≡ Some q → asked_most (profile_of s) (shape_of (core_of s)) q ≤ whole_work s service

-- a state service has six steps, and reopens its slave at most once
more_steps : (b : Bool) → 6 + 1 ≤ (if b then 24 else 8) + 0
more_steps true = omega arith
more_steps false = omega arith

some_is : {X : Type 0} {x y : X} → Some x ≡ Some y → x ≡ y
some_is e = cc

module _ (enough : Enough) (s : SlaveSpec) (slave : IsSlave s) (room : ℕ) where
  abbrev count : Asked → ℕ
  count = asked_most (profile_of s) (shape_of (core_of s))

  by_mails : (service : Plan.Service) → IsService service → (found : Option Asked) → asked_of room service ≡ found → (q : Service Asked) → option_map (λ (a : Asked). Service.Mails a) found ≡ Some q → service_most count q + state_of q ≤ whole_work s service
  by_mails service is None e q over = absurd (let bad : None ≡ Some q = over in cc)
  by_mails service is (Some a) e q over = subst (λ k. service_most count k + state_of k ≤ whole_work s service) (some_is over) (omega (arith, enough room s service a slave is e))

  -- ONE OF A SCRIPT
  one_enough : (service : Plan.Service) → IsService service → (q : Service Asked) → handed_over room service ≡ Some q → service_most count q + state_of q ≤ whole_work s service
  one_enough (Plan.Service.Sdo service) is q over = by_mails (Plan.Service.Sdo service) is _ refl q over
  one_enough (Plan.Service.ReadFile name pass) is q over = by_mails (Plan.Service.ReadFile name pass) is _ refl q over
  one_enough (Plan.Service.WriteFile name pass bytes) is q over = by_mails (Plan.Service.WriteFile name pass bytes) is _ refl q over
  one_enough (Plan.Service.ReadIdn drive idn elements) is q over = by_mails (Plan.Service.ReadIdn drive idn elements) is _ refl q over
  one_enough (Plan.Service.WriteIdn drive idn elements bytes) is q over = by_mails (Plan.Service.WriteIdn drive idn elements bytes) is _ refl q over
  one_enough (Plan.Service.SetIp block) is q over = by_mails (Plan.Service.SetIp block) is _ refl q over
  one_enough Plan.Service.GetIp is q over = by_mails Plan.Service.GetIp is _ refl q over
  one_enough (Plan.Service.State target) is q over = subst (λ k. service_most count k + state_of k ≤ state_work target + 0) (some_is over) (more_steps (target == 1 || target == 3))
  one_enough (Plan.Service.Forward packet) is q over = absurd is

  -- SEVERAL, in order
  those_enough : (services : List Plan.Service) (qs : List (Service Asked)) → All (λ (t : Plan.Service). IsService t) services → AreThose room services qs → begun_most count qs + sum_by state_of qs ≤ sum_by (whole_work s) services
  those_enough [] [] are those = omega arith
  those_enough [] (q ∷ qs) are those = absurd those
  those_enough (t ∷ ts) [] are those = absurd those
  those_enough (t ∷ ts) (q ∷ qs) are those =
      omega (
        arith,
        sum_by-cons (service_most count) q qs,
        sum_by-cons state_of q qs,
        sum_by-cons (whole_work s) t ts,
        one_enough t (All-head (λ (t : Plan.Service). IsService t) t ts are) q those.0,
        those_enough ts qs (All-tail (λ (t : Plan.Service). IsService t) t ts are) those.1,
      )

-- the services of a script are those of the plan
taken : (k : ℕ) (ss : List Plan.Service) → All (λ (t : Plan.Service). IsService t) ss → All (λ (t : Plan.Service). IsService t) (take k ss)
taken zero ss are = All-nil (λ (t : Plan.Service). IsService t)
taken (suc k) [] are = are
taken (suc k) (t ∷ ts) are =
    All-cons (λ (t : Plan.Service). IsService t) t (take k ts) (All-head (λ (t : Plan.Service). IsService t) t ts are) (taken k ts (All-tail (λ (t : Plan.Service). IsService t) t ts are))

pub scripted : (n place : ℕ) (rows : List (ℕ × Plan.Service)) → All (λ (row : ℕ × Plan.Service). IsAddressed n row) rows → All (λ (t : Plan.Service). IsService t) (script_for place rows)
scripted n place [] are = All-nil (λ (t : Plan.Service). IsService t)
scripted n place (row ∷ rows) are =
    one (row.0 == place) (scripted n place rows (All-tail (λ (row : ℕ × Plan.Service). IsAddressed n row) row rows are))
  where
    one : (b : Bool) → All (λ (t : Plan.Service). IsService t) (script_for place rows) → All (λ (t : Plan.Service). IsService t) (if b then row.1 ∷ script_for place rows else script_for place rows)
    one true rest = All-cons (λ (t : Plan.Service). IsService t) row.1 (script_for place rows) (All-head (λ (row : ℕ × Plan.Service). IsAddressed n row) row rows are).service rest
    one false rest = rest

module _ (enough : Enough) (plan : Scenario) (services : All (λ (row : ℕ × Plan.Service). IsAddressed (length plan.slaves) row) plan.services) where
  one_slave : (place : ℕ) (s : SlaveSpec) (a : Leads) → IsSlave s → HasCome plan place s a → gains a.lived.life ≤ 1 + life_most (asked_most (profile_of s) (shape_of (core_of s))) a.lived.life → reopened a.lived.life ≤ states_begun a.lived.life →
      gains a.lived.life + reopened a.lived.life ≤ 1 + (sum_by (whole_work s) (take a.number a.script) + begun_most (asked_most (profile_of s) (shape_of (core_of s))) (filter is_packet (life_started a.lived.life)))
  one_slave place s a slave come gained few =
      let f = asked_most (profile_of s) (shape_of (core_of s)) in
      let started = life_started a.lived.life in
      let those = those_enough enough s slave (lens_of plan.slaves s.station).out (take a.number (script_for place plan.services)) (filter (λ q. not (is_packet q)) started) (taken a.number (script_for place plan.services) (scripted (length plan.slaves) place plan.services services)) come.firsts.those in
      let same : sum_by (whole_work s) (take a.number (script_for place plan.services)) ≡ sum_by (whole_work s) (take a.number a.script) = ap (λ ts. sum_by (whole_work s) (take a.number ts)) (sym come.script) in
      omega (arith, gained, few, life_one f a.lived.life, life_states a.lived.life, parted (service_most f) is_packet started, parted state_of is_packet started, packets_none started, those, same)

  pub all_slaves : (place : ℕ) (ss : List SlaveSpec) (leads : List Leads) → All (λ (s : SlaveSpec). IsSlave s) ss → AllCome plan place ss leads → AllGain ss leads → EachCame leads →
      gained_in leads ≤ length ss + work_begun whole_work ss leads + packets_begun ss leads
  all_slaves place [] [] are come gained each = omega arith
  all_slaves place [] (a ∷ leads) are come gained each = absurd come
  all_slaves place (s ∷ ss) [] are come gained each = absurd come
  all_slaves place (s ∷ ss) (a ∷ leads) are come gained each =
      omega (
        arith,
        one_slave place s a (All-head (λ (s : SlaveSpec). IsSlave s) s ss are) come.0 gained.0 (life_few a.lived.life each.0),
        all_slaves (suc place) ss leads (All-tail (λ (s : SlaveSpec). IsSlave s) s ss are) come.1 gained.1 each.1,
      )

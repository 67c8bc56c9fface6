-- The gains of all lives of a run.
use Rattle.std.proofs.Common.{◌≡◌, ℕ, suc, ◌+◌, ◌≤◌, Bool, All, List, [], ◌∷◌, length, sym, ap, subst}
use Rattle.std.proofs.lemmas.List.Elements.{All-head, All-tail}
use Rattle.plan_ring.specs.of_frame_view.View.{Lens}
use Rattle.life_counts.specs.Begun.{life_most, AreUnopened, KeepsShape}
use Rattle.life_counts.proofs.Whole.{life_gains}
use Rattle.life_counts.specs.of_life_model.Gains.{gains}
use Rattle.plan_ring.specs.of_life_runs.First.{lens_of}
use Rattle.plan_ring.specs.of_life_runs.Led.{Leads}
use Rattle.life_counts.specs.of_link_mails.Body.{Body}
use Rattle.life_counts.specs.Asked.{asked_most}
use Rattle.plan_ring.specs.Asked.{asked}
use Rattle.plan_ring.specs.Plan.{PlanMember, FitsPlan, step}
use Rattle.plan_ring.specs.Lives.{IsShown, AllShown}
use Rattle.plan_ring.specs.Master.{IsLed, AllLed, owed}
use Rattle.life_counts.specs.of_segment_model.Record.{Frame}
use Rattle.life_counts.specs.of_segment_plan.declared.plan.Scenario.{Scenario}
use Rattle.life_counts.specs.of_segment_plan.declared.slave.SlaveSpec.{SlaveSpec}
use Rattle.life_counts.specs.of_segment_plan.Sound.{IsSlave}
use Rattle.plan_ring.specs.Real.{real_clearing}
use Rattle.life_counts.specs.of_few_replies.Shapes.{shape_of}
use Rattle.life_counts.specs.of_slave_model.Profile.{Profile, IsProfile}
use Rattle.life_counts.specs.of_slave_server.Spec.{core_of, profile_of}
use Rattle.life_counts.specs.of_whole_ring.Members.{MemberIs, AllLived}
use Rattle.run_work.specs.Gained.{app_shape, AllGain}
use Rattle.run_work.proofs.Opened.{AllUnopened}

module _ (plan : Scenario) (keeps : (p : Profile) → IsProfile p → (boot : Bool) (lens : ℕ → Lens) → KeepsShape (asked p boot lens) real_clearing app_shape (asked_most p)) (fs : List (Frame Body)) where
  abbrev lens : ℕ → Lens
  lens = lens_of plan.slaves

  -- one slave
  one_gains : (place : ℕ) (s : SlaveSpec) (m : PlanMember) (a : Leads) → IsProfile (profile_of s) → IsShown plan place s m a → MemberIs lens step (FitsPlan plan.slaves) fs place m → IsLed m →
      AllUnopened (a ∷ []) → gains a.lived.life ≤ 1 + life_most (asked_most (profile_of s) (shape_of (core_of s))) a.lived.life
  one_gains place s m a profile shown is led unopened =
      let kept : KeepsShape m.services m.clearing app_shape (asked_most (profile_of s)) =
      subst (λ c. KeepsShape m.services c app_shape (asked_most (profile_of s))) (sym shown.is.clearing)
      (subst (λ w. KeepsShape w real_clearing app_shape (asked_most (profile_of s))) (sym shown.is.services) (keeps (profile_of s) profile s.boot lens)) in
      let life : m.life ≡ a.lived.life = ap (λ x. x.life) shown.lived in
      let first : app_shape m.first ≡ shape_of (core_of s) = ap app_shape shown.is.first in
      subst (λ k. gains a.lived.life ≤ 1 + life_most (asked_most (profile_of s) k) a.lived.life) first
      (subst (λ l. gains l ≤ 1 + life_most (asked_most (profile_of s) (app_shape m.first)) l) life
      (life_gains m.services m.clearing m.plan m.spot m.first m.life fs m.node app_shape (asked_most (profile_of s)) (owed m is.whole led) is.lived (subst AreUnopened (sym life) unopened.0) kept))

  pub all_gain : (place : ℕ) (ss : List SlaveSpec) (ms : List PlanMember) (leads : List Leads) → All (λ (s : SlaveSpec). IsSlave s) ss → All (λ (s : SlaveSpec). length s.mac ≡ 6) ss → AllShown plan place ss ms leads → AllLived lens step (FitsPlan plan.slaves) fs place ms → AllLed ms → AllUnopened leads → AllGain ss leads
  all_gain place [] [] [] is macs shown lives led unopened = tt
  all_gain place [] [] (a ∷ leads) is macs shown lives led unopened = absurd shown
  all_gain place [] (m ∷ ms) leads is macs shown lives led unopened = absurd shown
  all_gain place (s ∷ ss) [] leads is macs shown lives led unopened = absurd shown
  all_gain place (s ∷ ss) (m ∷ ms) [] is macs shown lives led unopened = absurd shown
  all_gain place (s ∷ ss) (m ∷ ms) (a ∷ leads) is macs shown lives led unopened =
      let here = All-head (λ (s : SlaveSpec). IsSlave s) s ss is in
      let profile : IsProfile (profile_of s) = record { out_least = here.out_least; out_most = here.out_most; back_least = here.in_least; back_most = here.in_most; mac = All-head (λ (s : SlaveSpec). length s.mac ≡ 6) s ss macs } in (
        one_gains place s m a profile shown.0 lives.0 led.0 (unopened.0, tt),
        all_gain (suc place) ss ms leads (All-tail (λ (s : SlaveSpec). IsSlave s) s ss is) (All-tail (λ (s : SlaveSpec). length s.mac ≡ 6) s ss macs) shown.1 lives.1 led.1 unopened.1,
      )

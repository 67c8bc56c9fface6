-- A slave with nothing to repair, where something was gained just now.
use Rattle.std.proofs.Common.{◌≡◌, ℕ, Bool, true, false, Option, Some, None, refl, sym, ap, ◌∙◌, subst, arith, if◌then◌else◌, inl, inr}
use Rattle.idle_slaves.specs.Eager.{Remembered}
use Rattle.idle_slaves.specs.Standing.{Steps, Standing}
use Rattle.plan_ring.specs.of_exchange_model.Exchange.{Speech}
use Rattle.plan_ring.specs.of_frame_view.View.{Lens}
use Rattle.idle_slaves.specs.Visited.{IsFor, is_boxed}
use Rattle.idle_slaves.specs.Waiting.{Wanted}
use Rattle.plan_ring.specs.of_life_model.Repairs.{way_of, stand_way, half_way}
use Rattle.plan_ring.specs.of_life_model.Lives.{Life, Spot, Stand, returns_to_init}
use Rattle.plan_ring.specs.of_link_mails.Body.{Body}
use Rattle.plan_ring.specs.of_link_model.Link.{Halves}
use Rattle.plan_ring.specs.of_link_model.Master.{InState}
use Rattle.plan_ring.specs.of_master_duty.Reply.{Reply}
use Rattle.plan_ring.specs.of_master_hand.Spoken.{Asked}
use Rattle.plan_ring.specs.PlanMet.{slave_at}
use Rattle.plan_ring.specs.of_run_frames.Clocks.{duty_reopens, goes_to_init}
use Rattle.plan_ring.specs.of_run_frames.Goes.{HandAt}
use Rattle.plan_ring.specs.of_run_frames.Waits.{new_waits}
use Rattle.plan_ring.specs.of_segment_model.Slaves.{serving}
use Rattle.plan_ring.specs.of_segment_plan.declared.service.Service as Plan
use Rattle.plan_ring.specs.of_segment_plan.declared.slave.SlaveSpec.{SlaveSpec}
use Rattle.plan_ring.specs.of_slave_server.Serving.{Serving}
use Rattle.plan_ring.specs.of_slave_node.Node.{Node}
use Rattle.plan_ring.specs.of_state_model.Accounts.{Duty, Stage}
use Rattle.idle_slaves.proofs.Fits.{IsFit, exchange_at, table_at}

clear_way : (state : InState) → half_way 1 1 state ≡ None → state ≡ InState.Clear
clear_way InState.Clear e = refl
clear_way InState.Doubt e = absurd (cc)
clear_way InState.Asked e = absurd (cc)
clear_way InState.Refetch e = absurd (cc)

module _ (lens : ℕ → Lens) (s : SlaveSpec) (spot : Spot) (l : Life Body Asked Reply) (n : Node Serving) (fits : l.stand ≡ Stand.Open → IsFit lens s spot l n) (x : Speech Body Asked Reply) (g : Asked → Bool) (m : Remembered) (next : Option Plan.Service)
    (way : way_of 1 1 l ≡ None) (hand : HandAt l l.stand) where
  abbrev Stands : Type 0
  Stands = Standing (serving (exchange_at lens s)) (table_at lens s) x g l (slave_at lens s n) m next new_waits

  -- its link waits
  fresh : l.stand ≡ Stand.Open → l.era.side.halves.inn.state ≡ InState.Clear → (q : Wanted) → IsFor q l.era.account.hand l.era.passing → Stands
  fresh stands clear q k =
      let h = (fits stands).link in
      Standing.fresh (record {
        link = h.link;
        wanted = q;
        agrees = h.agrees;
        clear = ap (λ (z : Halves Body). z.inn.state) h.halves ∙ clear;
        shows = record { halves = h.halves; node = refl; hand = k; stands = stands };
        steps = subst (λ z. Steps (serving (exchange_at lens s)) h.link.node z false) h.node Steps.none;
        tries = refl;
      }) (λ e. absurd (cc))

  -- for mails; or mailbox 0 is to be seen empty for one that is passed on
  by_boxed : l.stand ≡ Stand.Open → l.era.side.halves.inn.state ≡ InState.Clear → l.era.account.hand ≡ None → (b : Bool) → is_boxed l.era.passing ≡ b → Stands
  by_boxed stands clear e false boxed = fresh stands clear Wanted.Mails (e, boxed)
  by_boxed stands clear e true boxed = fresh stands clear Wanted.Drains (inr (e, boxed))

  -- or its state service goes on
  by_stage : l.stand ≡ Stand.Open → l.era.side.halves.inn.state ≡ InState.Clear → (duty : Duty) → l.era.account.hand ≡ Some duty → (stage : Stage) → duty.stage ≡ stage → duty_reopens l.era.account.hand ≡ 0 → Stands
  by_stage stands clear duty is Stage.Drains e none = fresh stands clear Wanted.Drains (inl (duty, is, e))
  by_stage stands clear duty is (Stage.Goes phase) e none =
      Standing.goes (record {
        stands = stands;
        duty = duty;
        hand = is;
        phase = phase;
        stage = e;
        stays = by (returns_to_init duty.target) (sym (ap (goes_to_init duty.target) e) ∙ sym (ap duty_reopens is) ∙ none);
        come = (fits stands).come duty phase is e;
        seen = λ no. absurd (cc);
        tries = refl;
      }) clear
    where
      by : (b : Bool) → (let n : ℕ = (if b then 1 else 0) in n ≡ 0) → b ≡ false
      by true e = absurd (omega (arith, e))
      by false e = refl

  by_hand : l.stand ≡ Stand.Open → l.era.side.halves.inn.state ≡ InState.Clear → (h : Option Duty) → l.era.account.hand ≡ h → duty_reopens l.era.account.hand ≡ 0 → Stands
  by_hand stands clear None e none = by_boxed stands clear e (is_boxed l.era.passing) refl
  by_hand stands clear (Some duty) e none = by_stage stands clear duty e duty.stage refl none

  by_stand : (z : Stand) → l.stand ≡ z → stand_way 1 1 l.era.side.halves.inn.state z ≡ None → HandAt l z → Stands
  by_stand (Stand.Opens o) e none k = absurd (cc)
  by_stand Stand.Open e none k = by_hand e (clear_way l.era.side.halves.inn.state none) l.era.account.hand refl k
  by_stand Stand.Gone e none k = Standing.gone e

  pub begins : Standing (serving (exchange_at lens s)) (table_at lens s) x g l (slave_at lens s n) m next new_waits
  begins = by_stand l.stand refl way hand

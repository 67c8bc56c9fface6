-- A slave before its bring-up.
use Rattle.std.proofs.Common.{◌≡◌, ◌≤◌, ℕ, zero, suc, ◌+◌, ◌<◌, ◌-◌, ◌%◌, Bool, true, false, List, [], ◌∷◌, ◌++◌, refl, sym, ap, ◌∙◌, subst, arith, length}
use Rattle.std.specs.Prelude.{map, None, nat_lt, ◌==◌, ◌||◌, ◌&&◌}
use Rattle.std.proofs.lemmas.Bool.{eqb-true}
use Rattle.life_runs.specs.of_segment_plan.Sound.{is_start}
use Rattle.life_runs.specs.of_al_state.declared.bringing.BringStep.{BringStep}
use Rattle.life_runs.specs.of_al_state.declared.bringing.BringUp.{BringUp}
use Rattle.life_runs.specs.of_frame_view.View.{Lens}
use Rattle.life_runs.specs.of_frame_view.Openings.{has_step, opening_of}
use Rattle.life_runs.specs.of_frame_view.Shares.{AllFrom, AllBoth, AllThree}
use Rattle.life_runs.specs.of_life_model.Lives
use Rattle.life_runs.specs.of_life_model.Lives.{new_life}
use Rattle.life_runs.specs.First.{spot_of, script_for, leads_from, HaveLens}
use Rattle.life_runs.specs.of_mailbox_master.Any.{in_area_len}
use Rattle.life_runs.specs.of_master_duty.Reply.{Reply}
use Rattle.life_runs.specs.of_exchange_model.Exchange.{Speech}
use Rattle.life_runs.specs.of_master_hand.Shown.{Shows, knows}
use Rattle.life_runs.specs.of_master_hand.Spoken.{Asked, hand_speech}
use Rattle.life_runs.specs.of_master_hand.Talk.{Talking}
use Rattle.life_runs.specs.of_master_hand.declared.clients.Which.{Which}
use Rattle.life_runs.specs.of_master_hand.declared.course.Course.{Course}
use Rattle.life_runs.specs.of_master_hand.declared.hand.InHand.{InHand}
use Rattle.life_runs.specs.of_master_side.Shown.{SideShows, new_side}
use Rattle.life_runs.specs.of_master_side.declared.hand.Hand.{Ghosts}
use Rattle.life_runs.specs.of_link_mails.Body.{Body}
use Rattle.life_runs.specs.of_master_tour.Made.{IsSized}
use Rattle.life_runs.specs.of_master_tour.Stands.{StandShows, EraShows, OpeningShows, is_still}
use Rattle.life_runs.specs.of_master_tour.declared.stop.Stand.{Stand}
use Rattle.life_runs.specs.of_master_tour.declared.stop.Stop.{Stop}
use Rattle.life_runs.specs.of_segment_plan.declared.plan.Scenario.{Scenario}
use Rattle.life_runs.specs.of_segment_plan.declared.slave.SlaveSpec.{SlaveSpec}
use Rattle.life_runs.specs.of_state_model.Accounts.{new_account}
use Rattle.master_node.specs.Shows.{side_shows, IsLead, is_opening_lead}
use Rattle.master_node.specs.Eager.{recall_of}
use Rattle.master_node.specs.First.{IsNewSide, IsFirst}
use Rattle.master_node.specs.Recalled.{AllKnow}
use Rattle.master_node.specs.Joined.{IsUnfinished, stand_before}
use Rattle.life_runs.specs.of_master_tour.Goes.{holds_at}

module _ {G : Ghosts InHand} (plan : Scenario) (place : ℕ) (spec : SlaveSpec) (s : Stop InHand G) (up : BringUp) (n : IsNewSide plan.services place spec s.side) (st : s.stand ≡ Stand.Opening up)
    (u : up ≡ record { adp = (65536 - place) % 65536; station = spec.station; out_len = spec.out_len; in_len = spec.in_len; start = spec.start; again = false; step = BringStep.Address }) (small : nat_lt spec.start 16 ≡ true) where
  module _ (lens : ℕ → Lens) (o : (lens spec.station).out ≡ spec.out_len) (b : (lens spec.station).back ≡ spec.in_len) where
    new_shown : side_shows lens plan.recover s (spot_of place spec) new_side new_account
    new_shown =
        subst (λ z. SideShows (Shows s.side.hand.course s.side.hand.which s.side.hand.clients (hand_speech z)) s.side.out s.side.inn s.side.fresh s.side.duty new_side new_account)
        (λ i. record { out = sym o i; back = sym b i }) n.shown

    opening : OpeningShows (side_shows lens plan.recover s (spot_of place spec)) (spot_of place spec) up (new_life spec.start)
    opening = record {
      own = false;
      stand = ap (λ z. Lives.Stand.Opens (opening_of z false)) (sym u);
      opening = record {
        step = ap has_step u;
        state = ap (λ z. nat_lt z.start 16) u ∙ small;
        station = ap (λ z. z.station) u;
        place = ap (λ z. z.adp) u;
      };
      era = subst (λ z. EraShows (side_shows lens plan.recover s (spot_of place spec)) z (new_life spec.start).era) (sym (ap is_still u)) new_shown;
    }

  pub first_shown : s.place ≡ place → s.start ≡ spec.start → s.spare ≡ plan.recover → length (script_for place plan.services) ≤ 4096 → IsFirst plan place spec s
  first_shown p t sp few = (
    λ lens o b. record {
      lives = record {
        planned = record {
          stands = record { station_is = n.station; place_is = p; start_is = t; small = subst (λ z. nat_lt z 16 ≡ true) (sym t) small };
          out_is = ap (λ z. (lens z).out) n.station ∙ o ∙ sym n.out;
          back_is = ap (λ z. (lens z).back) n.station ∙ b ∙ sym n.back;
          sized = subst (λ z. IsSized z s.side.out.len (in_area_len s.side.inn)) (sym st) (ap (λ z. z.out_len) u ∙ sym n.out, ap (λ z. z.in_len) u ∙ sym n.back);
        };
        shown = record {
          stood = subst (λ z. StandShows (side_shows lens plan.recover s (spot_of place spec)) (spot_of place spec) z (new_life spec.start)) (sym st) (opening lens o b);
          spared = sp ∙ (let e : plan.recover ≡ plan.recover - 0 = omega arith in e);
          over = λ e. absurd (let v = sym st ∙ e in cc);
        };
      };
      script = n.script;
      number = n.number;
      short = few;
      unpassed = n.unpassed;
      own = refl;
    },
    n.unfinished,
    n.known,
  )

-- one slave more
pub from_more : {A S : Type 0} (P : ℕ → A → S → Type 0) (i n : ℕ) (xs : List A) (ss : List S) (x : A) (s : S) → AllFrom P i xs ss → n ≡ i + length xs → P n x s → AllFrom P i (xs ++ x ∷ []) (ss ++ s ∷ [])
from_more P i n [] [] x s a e p = (subst (λ k. P k x s) (let f : n ≡ i = omega (arith, e) in f) p, tt)
from_more P i n [] (t ∷ ss) x s a e p = absurd a
from_more P i n (y ∷ xs) [] x s a e p = absurd a
from_more P i n (y ∷ xs) (t ∷ ss) x s a e p = (a.0, from_more P (suc i) n xs ss x s a.1 (omega (arith, e)) p)

-- all of them
pub all_leads : {G : Ghosts InHand} (plan : Scenario) (lens : ℕ → Lens) (place : ℕ) (specs : List SlaveSpec) (ss : List (Stop InHand G)) → HaveLens lens specs → AllFrom (λ i spec s. IsFirst plan i spec s) place specs ss →
    AllBoth (λ a s. IsLead lens plan.recover a s) (leads_from plan.services place specs) ss
all_leads plan lens place [] [] h a = tt
all_leads plan lens place [] (s ∷ ss) h a = absurd a
all_leads plan lens place (spec ∷ specs) [] h a = absurd a
all_leads plan lens place (spec ∷ specs) (s ∷ ss) h a = (a.0.0 lens h.0.0 h.0.1, all_leads plan lens (suc place) specs ss h.1 a.1)

-- and nothing is unfinished of any
pub all_unfinished : {G : Ghosts InHand} (plan : Scenario) (place : ℕ) (specs : List SlaveSpec) (ss : List (Stop InHand G)) → AllFrom (λ i spec s. IsFirst plan i spec s) place specs ss →
    AllThree (λ l j s. IsUnfinished l s.side.hand.found.join j) (map stand_before (leads_from plan.services place specs)) (map (λ spec. None) specs) ss
all_unfinished plan place [] [] a = tt
all_unfinished plan place [] (s ∷ ss) a = absurd a
all_unfinished plan place (spec ∷ specs) [] a = absurd a
all_unfinished plan place (spec ∷ specs) (s ∷ ss) a = (λ v. a.0.1, all_unfinished plan (suc place) specs ss a.1)

pub all_open : (plan : Scenario) (place : ℕ) (specs : List SlaveSpec) (k : ℕ) → k < length (leads_from plan.services place specs) → holds_at is_opening_lead (leads_from plan.services place specs) k ≡ true
all_open plan place [] k l = absurd (omega (arith, l))
all_open plan place (spec ∷ specs) zero l = refl
all_open plan place (spec ∷ specs) (suc k) l = all_open plan (suc place) specs k (omega (arith, l))

-- a start state is small
pub start_small : (boot : Bool) (start : ℕ) → is_start boot start ≡ true → nat_lt start 16 ≡ true
start_small boot start e = go (start == 2) refl boot refl
  where
    go : (a : Bool) → (start == 2) ≡ a → (b : Bool) → boot ≡ b → nat_lt start 16 ≡ true
    go true f b g = ap (λ z. nat_lt z 16) (eqb-true start 2 f)
    go false f true g = ap (λ z. nat_lt z 16) (eqb-true start 3 (let h : (start == 2 || (boot && start == 3)) ≡ true = e in (λ i. (sym f i || (sym g i && start == 3))) ∙ h))
    go false f false g = absurd (let h : (start == 2 || (boot && start == 3)) ≡ true = e in let k : false ≡ true = (λ i. (sym f i || (sym g i && start == 3))) ∙ h in cc)

-- a hand that shows no service knows its mails
pub none_known : (course : Course) (which : Which) (c : Talking) (x : Speech Body Asked Reply) → Shows course which c x None → knows course ≡ true
none_known Course.Nothing which c x s = refl
none_known Course.Goes which c x s = refl
none_known Course.Answered which c x s = refl
none_known Course.Mute which c x s = absurd (let t = s.1.is in cc)
none_known Course.Closed which c x s = absurd (let t = s.1.is in cc)
none_known Course.Astray which c x s = absurd (let t = s.1.is in cc)

pub all_known : {G : Ghosts InHand} (plan : Scenario) (place : ℕ) (specs : List SlaveSpec) (ss : List (Stop InHand G)) → AllFrom (λ i spec s. IsFirst plan i spec s) place specs ss → AllKnow (map (λ s. recall_of s) ss)
all_known plan place [] [] a = tt
all_known plan place [] (s ∷ ss) a = absurd a
all_known plan place (spec ∷ specs) [] a = absurd a
all_known plan place (spec ∷ specs) (s ∷ ss) a = (a.0.2, all_known plan (suc place) specs ss a.1)

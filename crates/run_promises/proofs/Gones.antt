-- A SLAVE THAT IS GONE FOR GOOD was given up: no life ends so by itself.
use Rattle.std.proofs.Common.{◌≡◌, ℕ, suc, Bool, true, false, Option, Some, None, List, [], ◌∷◌, ◌++◌, map, length, sym, subst}
use Rattle.std.specs.Prelude.{◌&&◌, ◌==◌, if◌then◌else◌, ⊤}
use Rattle.packets_heard.specs.of_datagrams.Datagram as Raw
use Rattle.packets_heard.specs.of_exchange_model.Exchange.{Speech}
use Rattle.packets_heard.specs.of_frame_view.View.{Lens}
use Rattle.packets_heard.specs.of_frame_view.Seen.{seen}
use Rattle.packets_heard.specs.of_frame_view.Shares.{came_at, given_where}
use Rattle.packets_heard.specs.of_life_model.Lives.{Spot, Life, Opening, Stand, life_next, life_back, life_lost, opening_back, shows_clear, is_shown, last_step, clears, opens, steps_on, reopens, reopens_at, reopening, opens_state, returns_to_init, era_back}
use Rattle.packets_heard.specs.of_life_runs.First.{lens_of, first_leads, leads_from}
use Rattle.packets_heard.specs.of_life_runs.Led as Led
use Rattle.packets_heard.specs.of_life_runs.Led.{Exchanged, Leads, Turn, IsTurn, AllTurn, IsLed, is_passed, speech_at, life_behind, gives_up_at}
use Rattle.packets_heard.specs.of_link_mails.Body.{Body}
use Rattle.packets_heard.specs.of_master_duty.Reply.{Reply}
use Rattle.packets_heard.specs.of_master_hand.Spoken.{Asked, acknowledged, is_followed}
use Rattle.packets_heard.specs.of_segment_model.Record.{News}
use Rattle.packets_heard.specs.of_segment_model.Slaves.{Datagram, Found}
use Rattle.packets_heard.specs.of_segment_plan.declared.plan.Scenario.{Scenario}
use Rattle.packets_heard.specs.of_segment_plan.declared.slave.SlaveSpec.{SlaveSpec}
use Rattle.packets_heard.specs.of_segment_ring.declared.wire.Fate.{Fate}
use Rattle.packets_heard.specs.of_segment_ring.declared.wire.Fate.TheVariants.{Pass, Lost}
use Rattle.packets_heard.specs.of_state_model.Accounts.{Duty, Stage, Pick}

-- it isn't gone, or was given up
abbrev pub IsGiven : {M Q R : Type 0} → Life M Q R → Type 0
IsGiven l = l.stand ≡ Stand.Gone → l.gave ≡ [] → ⊥

opens_gone : (o : Opening) → Stand.Opens o ≡ Stand.Gone → ⊥
opens_gone o e = cc

open_gone : Stand.Open ≡ Stand.Gone → ⊥
open_gone e = cc

some_more : {X : Type 0} (xs : List X) (x : X) → xs ++ x ∷ [] ≡ [] → ⊥
some_more [] x e = cc
some_more (y ∷ xs) x e = cc

module _ {M Q R : Type 0} (l : Life M Q R) (given : IsGiven l) where
  -- behind an access of an opening
  opening_given : (frame : ℕ) (o : Opening) (done : Bool) (found : Option Found) → IsGiven (opening_back frame l o done found)
  opening_given frame o done found = go (shows_clear o) (done && is_shown 1 found) (o.step == last_step o) (done && is_shown o.state found)
    where
      go : (shows seen last there : Bool) → IsGiven (if shows then (if seen then clears frame l o else l) else if last then (if there then opens frame l else l) else steps_on l o)
      go true true last there = λ e none. opens_gone (record o { step = 3 }) e
      go true false last there = given
      go false seen true true = λ e none. open_gone e
      go false seen true false = given
      go false seen false there = λ e none. opens_gone (record o { step = suc o.step }) e

  -- where a state service drained
  reopened_given : (hand : Option Duty) → IsGiven (reopens l hand)
  reopened_given None = given
  reopened_given (Some duty) = go duty.stage
    where
      either : (b : Bool) → IsGiven (if b then record l { stand = reopening (opens_state duty.target) true } else l)
      either true = λ e none. opens_gone (record { again = true; step = 1; state = opens_state duty.target; own = true }) e
      either false = given

      go : (stage : Stage) → IsGiven (reopens_at l duty.target stage)
      go Stage.Drains = given
      go (Stage.Goes phase) = either (returns_to_init duty.target)

module _ {M Q R : Type 0} (x : Speech M Q R) (ack : Q → Bool) (more : M → Bool) (passed : Q → Bool) (l : Life M Q R) (given : IsGiven l) where
  -- before a frame, behind one that came back and behind a lost one
  next_given : (made : ℕ) (pick : Pick Q) (stand : Stand) → IsGiven (life_next x ack more passed made l stand pick)
  next_given made pick (Stand.Opens o) = given
  next_given made pick Stand.Open = given
  next_given made pick Stand.Gone = given

  back_given : (frame : ℕ) (spot : Spot) (news : List (News M)) (back : List (Datagram M)) (came : Option (Bool × Option Found)) (stand : Stand) → IsGiven (life_back x ack more passed frame spot news back came l stand)
  back_given frame spot news back None (Stand.Opens o) = given
  back_given frame spot news back (Some came) (Stand.Opens o) = opening_given l given frame o came.0 came.1
  back_given frame spot news back came Stand.Open =
      let e = era_back x ack more passed spot.station frame news back l.era in reopened_given (record l { era = e }) given e.account.hand
  back_given frame spot news back came Stand.Gone = given

  lost_given : (spot : Spot) (news : List (News M)) (sent : List (Datagram M)) (stand : Stand) → IsGiven (life_lost x ack more passed spot news sent l stand)
  lost_given spot news sent (Stand.Opens o) = given
  lost_given spot news sent Stand.Open = given
  lost_given spot news sent Stand.Gone = given

-- behind a give-up
where_given : (b : Bool) (recover : ℕ) (spot : Spot) (made : ℕ) (l : Life Body Asked Reply) → IsGiven l → IsGiven (given_where b recover spot made l)
where_given true recover spot made l given = λ e none. some_more l.gave made none
where_given false recover spot made l given = given

-- ONE SLAVE by a frame
module _ (lens : ℕ → Lens) (recover retry : ℕ) (gives : Bool) (made : ℕ) (f : Exchanged) (ds : List Raw.Datagram) (a : Leads) (t : Turn) (y : IsTurn lens made ds a t) (given : IsGiven a.lived.life) where
  abbrev speech : Speech Body Asked Reply
  speech = speech_at lens t.lived.spot

  turn_given : IsGiven t.lived.life
  turn_given = subst (λ (l : Life Body Asked Reply). IsGiven l) (sym y.next.life) (next_given (speech_at lens a.lived.spot) acknowledged is_followed is_passed a.lived.life given made y.next.pick a.lived.life.stand)

  one_given : (fate : Fate) → IsGiven (life_behind lens recover retry gives made f fate t.lived t.share).life
  one_given Pass = back_given speech acknowledged is_followed is_passed t.lived.life turn_given made t.lived.spot [] (seen lens f.back) (came_at t.share.under t.share.at (seen lens f.back)) t.lived.life.stand
  one_given (Lost after) =
      let lost = life_lost speech acknowledged is_followed is_passed t.lived.spot [] (seen lens f.sent) t.lived.life t.lived.life.stand in
      where_given (gives && t.share.under) recover t.lived.spot made lost (lost_given speech acknowledged is_followed is_passed t.lived.life turn_given t.lived.spot [] (seen lens f.sent) t.lived.life.stand)

-- ALL SLAVES of a plan
abbrev pub AllGiven : List Leads → Type 0
AllGiven [] = ⊤
AllGiven (a ∷ as') = IsGiven a.lived.life × AllGiven as'

module _ (plan : Scenario) where
  abbrev lens : ℕ → Lens
  lens = lens_of plan.slaves

  first_given : (place : ℕ) (ss : List SlaveSpec) → AllGiven (leads_from plan.services place ss)
  first_given place [] = tt
  first_given place (s ∷ ss) = ((λ e none. opens_gone _ e), first_given (suc place) ss)

  module _ (gives : Bool) (made : ℕ) (f : Exchanged) (ds : List Raw.Datagram) where
    all_given : (as' : List Leads) (ts : List Turn) → AllTurn lens made ds as' ts → AllGiven as' → AllGiven (map (Led.led_behind lens plan.recover plan.retry gives made f) ts)
    all_given [] [] y given = tt
    all_given [] (t ∷ ts) y given = absurd y
    all_given (a ∷ as') [] y given = absurd y
    all_given (a ∷ as') (t ∷ ts) y given = (one_given lens plan.recover plan.retry gives made f ds a t y.0 given.0 f.fate, all_given as' ts y.1 given.1)

  pub givens : (fs : List Exchanged) (missed : ℕ) (as' : List Leads) → IsLed lens plan.recover plan.retry (first_leads plan) fs missed as' → AllGiven as'
  givens _ _ _ IsLed.start = first_given 0 plan.slaves
  givens _ _ _ (IsLed.on fs missed as' f ts l y) = all_given (gives_up_at lens plan.recover plan.retry missed) (length fs) f y.datagrams as' ts y.each (givens fs missed as' l)

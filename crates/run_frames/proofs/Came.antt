-- WHAT CAME INTO HAND over a run: frame by frame the next of the script, a packet, or nothing; no frame takes one back.
use Rattle.std.proofs.Common.{◌≡◌, ℕ, suc, Bool, true, false, Option, Some, None, List, [], ◌∷◌, ◌++◌, map, length, refl, ap, sym, ◌∙◌, subst, append_assoc, append-nil}
use Rattle.std.specs.Prelude.{◌%◌, ◌&&◌}
use Rattle.life_runs.specs.of_datagrams.Datagram as Raw
use Rattle.life_runs.specs.of_life_model.Script.{eras_started, life_started}
use Rattle.life_runs.proofs.of_life_model.Scripts.{back_same, lost_same}
use Rattle.life_runs.specs.of_exchange_model.Exchange.{Speech}
use Rattle.life_runs.specs.of_frame_view.View.{Lens}
use Rattle.life_runs.specs.of_frame_view.Seen.{seen}
use Rattle.life_runs.specs.of_frame_view.Frames.{Share}
use Rattle.life_runs.specs.of_frame_view.Shares.{Lived, came_at, given_where}
use Rattle.life_runs.specs.of_life_model.Lives.{Spot, Life, Stand, granted, life_next, life_lost}
use Rattle.life_runs.specs.First.{lens_of, script_for, first_leads, leads_from}
use Rattle.life_runs.specs.Led as Led
use Rattle.life_runs.specs.Led.{Exchanged, Leads, Turn, Comes, Took, IsTurn, AllTurn, IsLed, is_passed, speech_at, life_behind, gives_up_at}
use Rattle.life_runs.specs.of_link_mails.Body.{Body}
use Rattle.life_runs.specs.of_master_duty.Reply.{Reply}
use Rattle.life_runs.specs.of_master_hand.Spoken.{Asked, acknowledged, is_followed}
use Rattle.life_runs.specs.of_segment_model.Ends.{Passing}
use Rattle.life_runs.specs.of_segment_model.Seats.{Side}
use Rattle.life_runs.specs.of_segment_plan.declared.plan.Scenario.{Scenario}
use Rattle.life_runs.specs.of_segment_plan.declared.service.Service as Plan
use Rattle.life_runs.specs.of_segment_plan.declared.slave.SlaveSpec.{SlaveSpec}
use Rattle.life_runs.specs.of_segment_ring.declared.wire.Fate.{Fate}
use Rattle.life_runs.specs.of_segment_ring.declared.wire.Fate.TheVariants.{Pass, Lost}
use Rattle.life_runs.specs.of_state_model.Stated.{Service}
use Rattle.life_runs.specs.of_state_model.Accounts.{Account, Duty, Pick, Started, account_begins}
use Rattle.life_runs.specs.of_state_model.Promise.{services_in}
use Rattle.run_frames.specs.Came.{Came}
use Rattle.run_frames.specs.Slaves.{HasCome, AllCome}
use Rattle.run_frames.proofs.Firsts.{firsts}

-- none or one
abbrev pub listed : Option (Service Asked) → List (Service Asked)
listed None = []
listed (Some q) = q ∷ []

services_append : {Q : Type 0} (rs ss : List (Started Q)) → services_in (rs ++ ss) ≡ services_in rs ++ services_in ss
services_append [] ss = refl
services_append (r ∷ rs) ss = ap (λ l. r.service ∷ l) (services_append rs ss)

-- WITHOUT A WISH nothing comes into hand
nothing_begins : {M Q R : Type 0} (x : Speech M Q R) (ack : Q → Bool) (frame : ℕ) (d : Side M Q R) (a : Account Q R) (hand : Option Duty) → account_begins x ack frame d a hand None ≡ a
nothing_begins x ack frame d a None = refl
nothing_begins x ack frame d a (Some duty) = refl

not_granted : {Q : Type 0} (passing : Option Passing) (p : Pick Q) → p.begin ≡ None → (granted passing p).begin ≡ None
not_granted None p e = e
not_granted (Some passing) p e = refl

module _ {M Q R : Type 0} (x : Speech M Q R) (ack : Q → Bool) (more : M → Bool) (passed : Q → Bool) (made : ℕ) (l : Life M Q R) (pick : Pick Q) where
  past_stays : (stand : Stand) → (life_next x ack more passed made l stand pick).past ≡ l.past
  past_stays (Stand.Opens o) = refl
  past_stays Stand.Open = refl
  past_stays Stand.Gone = refl

  rows_stay : (stand : Stand) → pick.begin ≡ None → (life_next x ack more passed made l stand pick).era.account.started ≡ l.era.account.started
  rows_stay (Stand.Opens o) e = refl
  rows_stay Stand.Open e =
      ap (λ (b : Option (Service Q)). (account_begins x ack made l.era.side l.era.account l.era.account.hand b).started) (not_granted l.era.passing pick e)
      ∙ ap (λ (a : Account Q R). a.started) (nothing_begins x ack made l.era.side l.era.account l.era.account.hand)
  rows_stay Stand.Gone e = refl

-- A TURN: what came into hand is the newest
module _ (lens : ℕ → Lens) (made : ℕ) (ds : List Raw.Datagram) (a : Leads) (t : Turn) (y : IsTurn lens made ds a t) where
  pub past_is : t.lived.life.past ≡ a.lived.life.past
  past_is = ap (λ (l : Life Body Asked Reply). l.past) y.next.life ∙ past_stays (speech_at lens a.lived.spot) acknowledged is_followed is_passed made a.lived.life y.next.pick a.lived.life.stand

  started_is : (b : Option (Service Asked)) → t.begun ≡ b → Took made a.lived.life.era.account t.lived.life.era.account b → services_in t.lived.life.era.account.started ≡ services_in a.lived.life.era.account.started ++ listed b
  started_is None e took =
      ap services_in (ap (λ (l : Life Body Asked Reply). l.era.account.started) y.next.life ∙ rows_stay (speech_at lens a.lived.spot) acknowledged is_followed is_passed made a.lived.life y.next.pick a.lived.life.stand (y.begun ∙ e))
      ∙ sym (append-nil (services_in a.lived.life.era.account.started))
  started_is (Some q) e took = ap services_in took ∙ services_append a.lived.life.era.account.started (record { service = q; frame = made } ∷ [])

  pub turn_started : life_started t.lived.life ≡ life_started a.lived.life ++ listed t.begun
  turn_started =
      ap (λ es. eras_started es ++ services_in t.lived.life.era.account.started) past_is
      ∙ ap (λ qs. eras_started a.lived.life.past ++ qs) (started_is t.begun refl y.took)
      ∙ sym (append_assoc (eras_started a.lived.life.past) (services_in a.lived.life.era.account.started) (listed t.begun))

-- ONE MORE of the script, or a packet, or nothing
came_on : (room : ℕ) (script : List Plan.Service) (n : ℕ) (qs : List (Service Asked)) (b : Option (Service Asked)) (k : ℕ) → Came room script n qs → Comes room script n b k → Came room script k (qs ++ listed b)
came_on room script n qs _ _ came Comes.none = subst (λ (rs : List (Service Asked)). Came room script n rs) (sym (append-nil qs)) came
came_on room script n qs _ _ came (Comes.mails s q at asked) = Came.next n (suc n) qs (Service.Mails q) came (Comes.mails s q at asked)
came_on room script n qs _ _ came (Comes.state target at) = Came.next n (suc n) qs (Service.State (target % 16)) came (Comes.state target at)
came_on room script n qs _ _ came (Comes.packet octets frame) = Came.next n n qs _ came (Comes.packet octets frame)

-- THE FRAME takes none back
module _ (lens : ℕ → Lens) (recover retry : ℕ) (gives : Bool) (made : ℕ) (f : Exchanged) (l : Lived Asked Reply) (share : Share) where
  given_same : (b : Bool) (m : Life Body Asked Reply) → life_started (given_where b recover l.spot made m) ≡ life_started m
  given_same true m = refl
  given_same false m = refl

  pub behind_same : (fate : Fate) → life_started (life_behind lens recover retry gives made f fate l share).life ≡ life_started l.life
  behind_same Pass = back_same (speech_at lens l.spot) acknowledged is_followed is_passed l.spot l.life made [] (seen lens f.back) (came_at share.under share.at (seen lens f.back)) l.life.stand
  behind_same (Lost after) = given_same (gives && share.under) (life_lost (speech_at lens l.spot) acknowledged is_followed is_passed l.spot [] (seen lens f.sent) l.life l.life.stand)
      ∙ lost_same (speech_at lens l.spot) acknowledged is_followed is_passed l.spot l.life [] (seen lens f.sent) l.life.stand

  spot_same : (fate : Fate) → (life_behind lens recover retry gives made f fate l share).spot ≡ l.spot
  spot_same Pass = refl
  spot_same (Lost after) = refl

-- ALL SLAVES of a plan
module _ (plan : Scenario) where
  abbrev lens : ℕ → Lens
  lens = lens_of plan.slaves

  first_come : (place : ℕ) (ss : List SlaveSpec) → AllCome plan place ss (leads_from plan.services place ss)
  first_come place [] = tt
  first_come place (s ∷ ss) = (record { spot = refl; script = refl; came = Came.none; firsts = firsts (lens s.station).out (script_for place plan.services) 0 [] Came.none }, first_come (suc place) ss)

  module _ (gives : Bool) (made : ℕ) (f : Exchanged) (ds : List Raw.Datagram) where
    one_come : (place : ℕ) (s : SlaveSpec) (a : Leads) (t : Turn) → IsTurn lens made ds a t → HasCome plan place s a → HasCome plan place s (Led.led_behind lens plan.recover plan.retry gives made f t)
    one_come place s a t y x =
        let comes : Comes (lens s.station).out (script_for place plan.services) a.number t.begun t.number =
        subst (λ (script : List Plan.Service). Comes (lens s.station).out script a.number t.begun t.number) x.script
        (subst (λ (spot : Spot). Comes (lens spot.station).out a.script a.number t.begun t.number) x.spot y.comes) in
        let came = came_on (lens s.station).out (script_for place plan.services) a.number (life_started a.lived.life) t.begun t.number x.came comes in
        let now = subst (λ (qs : List (Service Asked)). Came (lens s.station).out (script_for place plan.services) t.number qs)
        (sym (behind_same lens plan.recover plan.retry gives made f t.lived t.share f.fate ∙ turn_started lens made ds a t y)) came in
        record {
          spot = spot_same lens plan.recover plan.retry gives made f t.lived t.share f.fate ∙ y.next.spot ∙ x.spot;
          script = y.script ∙ x.script;
          came = now;
          firsts = firsts (lens s.station).out (script_for place plan.services) t.number _ now;
        }

    all_come : (place : ℕ) (ss : List SlaveSpec) (as' : List Leads) (ts : List Turn) → AllTurn lens made ds as' ts → AllCome plan place ss as' → AllCome plan place ss (map (Led.led_behind lens plan.recover plan.retry gives made f) ts)
    all_come place [] [] [] y x = tt
    all_come place [] [] (t ∷ ts) y x = absurd y
    all_come place [] (a ∷ as') ts y x = absurd x
    all_come place (s ∷ ss) [] ts y x = absurd x
    all_come place (s ∷ ss) (a ∷ as') [] y x = absurd y
    all_come place (s ∷ ss) (a ∷ as') (t ∷ ts) y x = (one_come place s a t y.0 x.0, all_come (suc place) ss as' ts y.1 x.1)

  -- BEHIND ALL FRAMES
  pub come : (fs : List Exchanged) (missed : ℕ) (as' : List Leads) → IsLed lens plan.recover plan.retry (first_leads plan) fs missed as' → AllCome plan 0 plan.slaves as'
  come _ _ _ IsLed.start = first_come 0 plan.slaves
  come _ _ _ (IsLed.on fs missed as' f ts l y) = all_come (gives_up_at lens plan.recover plan.retry missed) (length fs) f y.datagrams 0 plan.slaves as' ts y.each (come fs missed as' l)

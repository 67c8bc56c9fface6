-- A SLAVE THAT STAYS UP is in its first epoch: one that was never given up or returned to Init behind a frame never was before it.
use Rattle.std.proofs.Common.{◌≡◌, ℕ, suc, Bool, true, false, Option, Some, None, List, [], ◌∷◌, ◌++◌, map, length, refl, ap, sym, ◌∙◌, subst, arith, length-append}
use Rattle.std.specs.Prelude.{◌&&◌, ◌==◌, if◌then◌else◌, ⊤}
use Rattle.packets_heard.specs.of_datagrams.Datagram as Raw
use Rattle.served_rings.specs.of_plan_ring.Rows.{WishStays, IsFirst}
use Rattle.served_rings.proofs.of_plan_ring.Rows.{back_first, lost_first, new_first}
use Rattle.packets_heard.specs.of_life_model.Script.{life_started}
use Rattle.packets_heard.specs.of_exchange_model.Exchange.{Speech}
use Rattle.packets_heard.specs.of_frame_view.View.{Lens}
use Rattle.packets_heard.specs.of_frame_view.Seen.{seen}
use Rattle.packets_heard.specs.of_frame_view.Shares.{came_at, given_where}
use Rattle.packets_heard.specs.of_life_model.Book.{NoInits}
use Rattle.packets_heard.specs.of_life_model.Lives.{Spot, Life, Opening, Stand, life_next, life_back, life_lost, opening_back, shows_clear, is_shown, last_step, clears, opens, steps_on, reopens, reopens_at, reopening, opens_state, returns_to_init, era_back}
use Rattle.packets_heard.specs.of_life_runs.First.{lens_of, first_leads, leads_from}
use Rattle.packets_heard.specs.of_life_runs.Led as Led
use Rattle.packets_heard.specs.of_life_runs.Led.{Exchanged, Leads, Turn, IsTurn, AllTurn, IsLed, is_passed, speech_at, life_behind, gives_up_at}
use Rattle.packets_heard.specs.of_link_mails.Body.{Body}
use Rattle.packets_heard.specs.of_master_duty.Reply.{Reply}
use Rattle.packets_heard.specs.of_master_hand.Spoken.{Asked, acknowledged, is_followed}
use Rattle.packets_heard.specs.of_segment_model.Record.{News}
use Rattle.packets_heard.specs.of_segment_model.Slaves.{Datagram, Found}
use Rattle.packets_heard.specs.of_segment_plan.declared.plan.Scenario.{Scenario}
use Rattle.packets_heard.specs.of_segment_plan.declared.slave.SlaveSpec.{SlaveSpec}
use Rattle.packets_heard.specs.of_segment_ring.declared.wire.Fate.{Fate}
use Rattle.packets_heard.specs.of_segment_ring.declared.wire.Fate.TheVariants.{Pass, Lost}
use Rattle.packets_heard.specs.of_state_model.Stated.{Service}
use Rattle.packets_heard.specs.of_state_model.Accounts.{Duty, Stage, Pick}
use Rattle.run_promises.specs.Books.{StaysUp}
use Rattle.served_rings.proofs.of_run_frames.Came.{listed, past_is, turn_started, behind_same}

-- services of which none returns to Init
quiet_front : {Q : Type 0} (xs ys : List (Service Q)) → NoInits (xs ++ ys) → NoInits xs
quiet_front [] ys k = tt
quiet_front (Service.Mails q ∷ xs) ys k = quiet_front xs ys k
quiet_front (Service.State target ∷ xs) ys k = (k.0, quiet_front xs ys k.1)

quiet_behind : {Q : Type 0} (xs ys : List (Service Q)) → NoInits (xs ++ ys) → NoInits ys
quiet_behind [] ys k = k
quiet_behind (Service.Mails q ∷ xs) ys k = quiet_behind xs ys k
quiet_behind (Service.State target ∷ xs) ys k = quiet_behind xs ys k.1

wish_quiet : (b : Option (Service Asked)) → NoInits (listed b) → WishStays b
wish_quiet None k = tt
wish_quiet (Some (Service.Mails q)) k = tt
wish_quiet (Some (Service.State target)) k = k.0

-- no list ends up empty by one more
never_empty : {X : Type 0} (xs : List X) (x : X) → xs ++ x ∷ [] ≡ [] → ⊥
never_empty [] x e = cc
never_empty (y ∷ xs) x e = cc

module _ {M Q R : Type 0} (l : Life M Q R) where
  -- what a frame that came back leaves of past epochs and give-ups
  record Earlier (m : Life M Q R) : Type 0 where
    past : m.past ≡ [] → l.past ≡ []
    gave : m.gave ≡ l.gave

  earlier_opening : (frame : ℕ) (o : Opening) (done : Bool) (found : Option Found) → Earlier (opening_back frame l o done found)
  earlier_opening frame o done found = go (shows_clear o) (done && is_shown 1 found) (o.step == last_step o) (done && is_shown o.state found)
    where
      go : (shows seen last there : Bool) → Earlier (if shows then (if seen then clears frame l o else l) else if last then (if there then opens frame l else l) else steps_on l o)
      go true true last there = record { past = λ e. absurd (never_empty l.past l.era e); gave = refl }
      go true false last there = record { past = λ e. e; gave = refl }
      go false seen true true = record { past = λ e. e; gave = refl }
      go false seen true false = record { past = λ e. e; gave = refl }
      go false seen false there = record { past = λ e. e; gave = refl }

earlier_reopened : {M Q R : Type 0} (k l : Life M Q R) (hand : Option Duty) → l.past ≡ k.past → l.gave ≡ k.gave → Earlier k (reopens l hand)
earlier_reopened k l None p g = record { past = λ e. sym p ∙ e; gave = g }
earlier_reopened k l (Some duty) p g = go duty.stage
  where
    either : (b : Bool) → Earlier k (if b then record l { stand = reopening (opens_state duty.target) true } else l)
    either true = record { past = λ e. sym p ∙ e; gave = g }
    either false = record { past = λ e. sym p ∙ e; gave = g }

    go : (stage : Stage) → Earlier k (reopens_at l duty.target stage)
    go Stage.Drains = record { past = λ e. sym p ∙ e; gave = g }
    go (Stage.Goes phase) = either (returns_to_init duty.target)

module _ {M Q R : Type 0} (x : Speech M Q R) (ack : Q → Bool) (more : M → Bool) (passed : Q → Bool) (spot : Spot) (l : Life M Q R) where
  earlier_back : (frame : ℕ) (news : List (News M)) (back : List (Datagram M)) (came : Option (Bool × Option Found)) (stand : Stand) → Earlier l (life_back x ack more passed frame spot news back came l stand)
  earlier_back frame news back None (Stand.Opens o) = record { past = λ e. e; gave = refl }
  earlier_back frame news back (Some came) (Stand.Opens o) = earlier_opening l frame o came.0 came.1
  earlier_back frame news back came Stand.Open =
      let e = era_back x ack more passed spot.station frame news back l.era in earlier_reopened l (record l { era = e }) e.account.hand refl refl
  earlier_back frame news back came Stand.Gone = record { past = λ e. e; gave = refl }

  earlier_lost : (news : List (News M)) (sent : List (Datagram M)) (stand : Stand) → Earlier l (life_lost x ack more passed spot news sent l stand)
  earlier_lost news sent (Stand.Opens o) = record { past = λ e. e; gave = refl }
  earlier_lost news sent Stand.Open = record { past = λ e. e; gave = refl }
  earlier_lost news sent Stand.Gone = record { past = λ e. e; gave = refl }

module _ {M Q R : Type 0} (x : Speech M Q R) (ack : Q → Bool) (more : M → Bool) (passed : Q → Bool) (made : ℕ) (l : Life M Q R) (pick : Pick Q) where
  gave_stays : (stand : Stand) → (life_next x ack more passed made l stand pick).gave ≡ l.gave
  gave_stays (Stand.Opens o) = refl
  gave_stays Stand.Open = refl
  gave_stays Stand.Gone = refl

  stand_stays : (stand : Stand) → l.stand ≡ stand → (life_next x ack more passed made l stand pick).stand ≡ stand
  stand_stays (Stand.Opens o) e = e
  stand_stays Stand.Open e = e
  stand_stays Stand.Gone e = e

-- a slave that is given up has given up
given_none : (b : Bool) (recover : ℕ) (spot : Spot) (made : ℕ) (l : Life Body Asked Reply) → (given_where b recover spot made l).gave ≡ [] → b ≡ false
given_none true recover spot made l e = absurd (never_empty l.gave made e)
given_none false recover spot made l e = refl

-- ONE SLAVE by a frame
module _ (lens : ℕ → Lens) (recover retry : ℕ) (gives : Bool) (made : ℕ) (f : Exchanged) (ds : List Raw.Datagram) (a : Leads) (t : Turn) (y : IsTurn lens made ds a t) where
  abbrev speech : Speech Body Asked Reply
  speech = speech_at lens a.lived.spot

  abbrev next : Life Body Asked Reply
  next = life_next speech acknowledged is_followed is_passed made a.lived.life a.lived.life.stand y.next.pick

  gave_is : t.lived.life.gave ≡ a.lived.life.gave
  gave_is = ap (λ (l : Life Body Asked Reply). l.gave) y.next.life ∙ gave_stays speech acknowledged is_followed is_passed made a.lived.life y.next.pick a.lived.life.stand

  -- as it was before
  record Was : Type 0 where
    up : StaysUp a.lived.life
    wish : WishStays y.next.pick.begin

  was_up : (m : Life Body Asked Reply) → life_started m ≡ life_started t.lived.life → (m.past ≡ [] → t.lived.life.past ≡ []) → m.gave ≡ t.lived.life.gave → StaysUp m → Was
  was_up m started past gave u =
      let quiet : NoInits (life_started a.lived.life ++ listed t.begun) = subst (λ (qs : List (Service Asked)). NoInits qs) (started ∙ turn_started lens made ds a t y) u.quiet in
      record {
        up = record { past = sym (past_is lens made ds a t y) ∙ past u.past; gave = sym gave_is ∙ sym gave ∙ u.gave; quiet = quiet_front (life_started a.lived.life) (listed t.begun) quiet };
        wish = subst (λ (b : Option (Service Asked)). WishStays b) (sym y.begun) (wish_quiet t.begun (quiet_behind (life_started a.lived.life) (listed t.begun) quiet));
      }

  stand_is : next.stand ≡ a.lived.life.stand
  stand_is = stand_stays speech acknowledged is_followed is_passed made a.lived.life y.next.pick a.lived.life.stand refl

  spoken : speech_at lens t.lived.spot ≡ speech
  spoken = ap (speech_at lens) y.next.spot

  -- and it stays in its first epoch
  back_on : IsFirst made a.lived.life → WishStays y.next.pick.begin → IsFirst (suc made) (life_behind lens recover retry gives made f Pass t.lived t.share).life
  back_on is wish =
      let back = seen lens f.back in
      let came = came_at t.share.under t.share.at back in
      subst (λ (x : Speech Body Asked Reply). IsFirst (suc made) (life_back x acknowledged is_followed is_passed made t.lived.spot [] back came t.lived.life t.lived.life.stand)) (sym spoken)
      (subst (λ (l : Life Body Asked Reply). IsFirst (suc made) (life_back speech acknowledged is_followed is_passed made t.lived.spot [] back came l l.stand)) (sym y.next.life)
      (subst (λ (st : Stand). IsFirst (suc made) (life_back speech acknowledged is_followed is_passed made t.lived.spot [] back came next st)) (sym stand_is)
      (back_first speech acknowledged is_followed is_passed made t.lived.spot [] y.next.pick wish a.lived.life is back came a.lived.life.stand refl)))

  lost_on : (after : ℕ) → IsFirst made a.lived.life → WishStays y.next.pick.begin → (gives && t.share.under) ≡ false → IsFirst (suc made) (life_behind lens recover retry gives made f (Lost after) t.lived t.share).life
  lost_on after is wish given =
      let sent = seen lens f.sent in
      subst (λ (b : Bool). IsFirst (suc made) (given_where b recover t.lived.spot made (life_lost (speech_at lens t.lived.spot) acknowledged is_followed is_passed t.lived.spot [] sent t.lived.life t.lived.life.stand))) (sym given)
      (subst (λ (x : Speech Body Asked Reply). IsFirst (suc made) (life_lost x acknowledged is_followed is_passed t.lived.spot [] sent t.lived.life t.lived.life.stand)) (sym spoken)
      (subst (λ (l : Life Body Asked Reply). IsFirst (suc made) (life_lost speech acknowledged is_followed is_passed t.lived.spot [] sent l l.stand)) (sym y.next.life)
      (subst (λ (st : Stand). IsFirst (suc made) (life_lost speech acknowledged is_followed is_passed t.lived.spot [] sent next st)) (sym stand_is)
      (lost_first speech acknowledged is_followed is_passed made t.lived.spot [] y.next.pick wish a.lived.life is sent a.lived.life.stand refl))))

  one_on : (fate : Fate) → (StaysUp a.lived.life → IsFirst made a.lived.life) → StaysUp (life_behind lens recover retry gives made f fate t.lived t.share).life → IsFirst (suc made) (life_behind lens recover retry gives made f fate t.lived t.share).life
  one_on Pass first up =
      let e = earlier_back (speech_at lens t.lived.spot) acknowledged is_followed is_passed t.lived.spot t.lived.life made [] (seen lens f.back) (came_at t.share.under t.share.at (seen lens f.back)) t.lived.life.stand in
      let was = was_up (life_behind lens recover retry gives made f Pass t.lived t.share).life (behind_same lens recover retry gives made f t.lived t.share Pass) e.past e.gave up in
      back_on (first was.up) was.wish
  one_on (Lost after) first up =
      let lost = life_lost (speech_at lens t.lived.spot) acknowledged is_followed is_passed t.lived.spot [] (seen lens f.sent) t.lived.life t.lived.life.stand in
      let given : (gives && t.share.under) ≡ false = given_none (gives && t.share.under) recover t.lived.spot made lost up.gave in
      let e = earlier_lost (speech_at lens t.lived.spot) acknowledged is_followed is_passed t.lived.spot t.lived.life [] (seen lens f.sent) t.lived.life.stand in
      let same : (life_behind lens recover retry gives made f (Lost after) t.lived t.share).life ≡ lost = ap (λ (b : Bool). given_where b recover t.lived.spot made lost) given in
      let up_then : StaysUp lost = subst (λ (l : Life Body Asked Reply). StaysUp l) same up in
      let started : life_started lost ≡ life_started t.lived.life = ap (λ (l : Life Body Asked Reply). life_started l) (sym same) ∙ behind_same lens recover retry gives made f t.lived t.share (Lost after) in
      let was = was_up lost started e.past e.gave up_then in
      lost_on after (first was.up) was.wish given

-- ALL SLAVES of a plan
module _ (plan : Scenario) where
  abbrev lens : ℕ → Lens
  lens = lens_of plan.slaves

  abbrev pub AllUp : ℕ → List Leads → Type 0
  AllUp made [] = ⊤
  AllUp made (a ∷ as') = (StaysUp a.lived.life → IsFirst made a.lived.life) × AllUp made as'

  first_up : (place : ℕ) (ss : List SlaveSpec) → AllUp 0 (leads_from plan.services place ss)
  first_up place [] = tt
  first_up place (s ∷ ss) = ((λ up. new_first s.start), first_up (suc place) ss)

  module _ (gives : Bool) (made : ℕ) (f : Exchanged) (ds : List Raw.Datagram) where
    all_on : (as' : List Leads) (ts : List Turn) → AllTurn lens made ds as' ts → AllUp made as' → AllUp (suc made) (map (Led.led_behind lens plan.recover plan.retry gives made f) ts)
    all_on [] [] y x = tt
    all_on [] (t ∷ ts) y x = absurd y
    all_on (a ∷ as') [] y x = absurd y
    all_on (a ∷ as') (t ∷ ts) y x = (one_on lens plan.recover plan.retry gives made f ds a t y.0 f.fate x.0, all_on as' ts y.1 x.1)

  pub ups : (fs : List Exchanged) (missed : ℕ) (as' : List Leads) → IsLed lens plan.recover plan.retry (first_leads plan) fs missed as' → AllUp (length fs) as'
  ups _ _ _ IsLed.start = first_up 0 plan.slaves
  ups _ _ _ (IsLed.on fs missed as' f ts l y) =
      let more : suc (length fs) ≡ length (fs ++ f ∷ []) = let e = length-append fs (f ∷ []) in omega (arith, e) in
      let gives = gives_up_at lens plan.recover plan.retry missed in
      subst (λ (n : ℕ). AllUp n (map (Led.led_behind lens plan.recover plan.retry gives (length fs) f) ts)) more (all_on gives (length fs) f y.datagrams as' ts y.each (ups fs missed as' l))

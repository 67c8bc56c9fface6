-- WHAT A MASTER SHOWS OF THE SLAVES OF A SERVING behind a frame that was lost.
use Rattle.std.proofs.Common.{◌≡◌, ◌≤◌, ◌<◌, ℕ, zero, suc, Bool, true, false, List, [], ◌∷◌, refl, sym, ap, ◌∙◌, subst, arith, length}
use Rattle.std.specs.Prelude.{◌&&◌, not, map, All, nat_le, if◌then◌else◌}
use Rattle.std.proofs.lemmas.List.Elements.{All-nil}
use Rattle.life_runs.specs.Lives.{LifeKept}
use Rattle.life_runs.proofs.Lives.{given_life, lost_life}
use Rattle.life_runs.specs.of_master_side.Counts.{counts_on}
use Rattle.life_runs.specs.Led.{Exchanged, Leads, led_behind, speech_at}
use Rattle.life_runs.specs.of_frame_view.View.{Lens}
use Rattle.life_runs.specs.of_frame_view.Seen.{seen}
use Rattle.life_runs.specs.of_frame_view.Shares.{Lived, AllThree, given_where, lived_lost}
use Rattle.life_runs.specs.of_segment_ring.declared.wire.Fate.{Fate}
use Rattle.life_runs.specs.of_segment_ring.declared.wire.Fate.TheVariants.{Lost}
use Rattle.life_runs.specs.of_master_duty.Reply.{Reply}
use Rattle.life_runs.specs.of_segment_model.Record.{Kept, News}
use Rattle.life_runs.specs.of_segment_model.Slaves.{Datagram}
use Rattle.life_runs.specs.of_state_model.Accounts.{duty_access}
use Rattle.life_runs.specs.of_master_hand.Laying.{scripted}
use Rattle.life_runs.specs.of_master_hand.Shown.{awaits_reply, knows}
use Rattle.life_runs.specs.of_master_hand.Spoken.{Asked, acknowledged, is_followed, is_passed}
use Rattle.life_runs.specs.of_master_hand.declared.hand.InHand.{InHand}
use Rattle.life_runs.specs.of_master_side.Passing.{news_lost}
use Rattle.life_runs.specs.of_master_side.declared.hand.Hand.{Ghosts}
use Rattle.life_runs.specs.of_link_mails.Body.{Body}
use Rattle.life_runs.specs.of_master_tour.Counting.{StandCounts, StopCounts}
use Rattle.life_runs.specs.of_master_tour.Goes.{holds_at, is_opened, opened_behind}
use Rattle.life_runs.specs.of_master_tour.Passing.{StandPassing}
use Rattle.life_runs.specs.of_master_tour.Stands.{StandUnder, is_opening}
use Rattle.life_runs.specs.of_master_tour.Under.{Under}
use Rattle.life_runs.specs.of_master_tour.Walks.{EachPair}
use Rattle.life_runs.specs.of_master_tour.declared.stop.Stop.{Stop}
use Rattle.life_runs.specs.of_life_model.Lives
use Rattle.life_runs.specs.of_life_model.Lives.{Life, Spot, life_lost}
use Rattle.life_runs.proofs.of_master_tour.Backs.{seen_aims}
use Rattle.life_runs.specs.Served.{Keyed, ServedTurn, served_behind}
use Rattle.master_node.specs.Handed.{work_at}
use Rattle.master_node.specs.Inhand.{HasInHand}
use Rattle.master_node.specs.Passes.{waits_in}
use Rattle.master_node.specs.Serving.{IsServed, IsServedUnder, MayPass, run_lead, run_turn, waits_of}
use Rattle.master_node.specs.Shows.{ComeAgain, GoesOn, GoesUnder, HoldsFirst, IsLived, is_led, is_live_lead, is_opening_lead, side_shows}
use Rattle.master_node.specs.declared.post.Post.{Post}
use Rattle.master_node.specs.declared.post.Work.{Work}
use Rattle.master_node.proofs.Handeds.{lost_handed}
use Rattle.master_node.proofs.Inhand.{lost_inhand}
use Rattle.master_node.proofs.Goings.{ahead_again, ahead_behind, comes_again}
use Rattle.master_node.proofs.Serveds.{open_stand}
use Rattle.master_node.proofs.Droppeds.{and_false}

-- whether an empty read counts behind a lost frame
abbrev CountsLost : {G : Ghosts InHand} → ℕ → Stop InHand G → Stop InHand G → Life Body Asked Reply → Type 0
CountsLost made s t l = (counts : Bool) → StopCounts s made counts → StopCounts t (suc made) (counts_on l.stand s.side.station s.side.pace made [] counts)

-- where a frame gave slaves up it carried them
carried_and : (a u i : Bool) → (u ≡ true → i ≡ true) → ((a && u) && i) ≡ (a && u)
carried_and true true i h = h refl
carried_and true false i h = refl
carried_and false u i h = refl

kept_given : (b : Bool) (recover made : ℕ) (spot : Spot) (kept : Kept) (l : Life Body Asked Reply) → LifeKept kept l → LifeKept kept (given_where b recover spot made l)
kept_given true recover made spot kept l k = given_life recover made spot kept l
kept_given false recover made spot kept l k = k

left_fits : (R : Keyed → Type 0) (b : Bool) (ks : List Keyed) → All R ks → All R (if b then [] else ks)
left_fits R true ks a = All-nil R
left_fits R false ks a = a

-- for how the master stands to a slave the news of a lost frame never count
lost_stand : (lens : ℕ → Lens) (recover made : ℕ) (spot : Spot) (ns ms : List (News Body)) (sent : List (Datagram Body)) (l : Life Body Asked Reply) (b : Bool) (z : Lives.Stand) →
    (given_where b recover spot made (life_lost (speech_at lens spot) acknowledged is_followed is_passed spot ns sent l z)).stand ≡ (given_where b recover spot made (life_lost (speech_at lens spot) acknowledged is_followed is_passed spot ms sent l z)).stand
lost_stand lens recover made spot ns ms sent l true (Lives.Stand.Opens o) = refl
lost_stand lens recover made spot ns ms sent l true Lives.Stand.Open = refl
lost_stand lens recover made spot ns ms sent l true Lives.Stand.Gone = refl
lost_stand lens recover made spot ns ms sent l false (Lives.Stand.Opens o) = refl
lost_stand lens recover made spot ns ms sent l false Lives.Stand.Open = refl
lost_stand lens recover made spot ns ms sent l false Lives.Stand.Gone = refl

-- those that come again, by tests of them that agree
first_as : (as' bs : List Leads) (visit : List ℕ) → ((k : ℕ) → holds_at is_live_lead bs k ≡ holds_at is_live_lead as' k) → HoldsFirst is_live_lead as' visit → HoldsFirst is_live_lead bs visit
first_as as' bs [] h f = absurd f
first_as as' bs (p ∷ ps) h f = h p ∙ f

come_as : (as' bs : List Leads) (visit : List ℕ) (opened : ℕ) → length bs ≡ length as' → ((k : ℕ) → holds_at is_live_lead bs k ≡ holds_at is_live_lead as' k) → ComeAgain is_live_lead visit opened as' → ComeAgain is_live_lead visit opened bs
come_as as' bs visit opened n h c = record { once = c.once; first = first_as as' bs visit h c.first; alone = λ l k e. c.alone (omega (arith, l, n)) k e }

module _ (lens : ℕ → Lens) (recover retry : ℕ) where
  -- a frame with these octets that was lost
  abbrev pub lost_so_far : Exchanged → List ℕ → ℕ → Exchanged
  lost_so_far f octets after = record { sent = octets; fate = Lost after; back = f.back }

  pub so_is : (f : Exchanged) (octets : List ℕ) (after : ℕ) → f.fate ≡ Lost after → f.sent ≡ octets → f ≡ lost_so_far f octets after
  so_is f octets after is b = λ i. record { sent = b i; fate = is i; back = f.back }

  module _ (gives : Bool) (made : ℕ) where
    -- THE SLAVE BEHIND A LOST FRAME, by what its stop shows of it
    lost_served : {G : Ghosts InHand} (given : Bool) (f : Exchanged) (octets : List ℕ) (after : ℕ) (v : ServedTurn) (p q : Post) (s t : Stop InHand G) → given ≡ gives → IsServedUnder lens recover octets made v p s →
        ((ns : List (News Body)) → IsLived lens recover (lived_lost (speech_at lens v.turn.lived.spot) acknowledged is_followed is_passed given recover made (seen lens octets) v.turn.lived (record { under = s.under; at = s.at }) ns) t) →
        StandPassing t.stand (awaits_reply t.side.hand.course t.side.hand.which t.side.hand.clients) t.side.passing
        (given_where (given && s.under) recover v.turn.lived.spot made (life_lost (speech_at lens v.turn.lived.spot) acknowledged is_followed is_passed v.turn.lived.spot (news_lost s.side.station v.kept (seen lens octets)) (seen lens octets) v.turn.lived.life v.turn.lived.life.stand)) →
        CountsLost made s t v.turn.lived.life → t.side.pace ≡ s.side.pace → scripted t.side.hand.laying ≡ scripted s.side.hand.laying → waits_of q ≡ (if given && s.under then [] else waits_of p) → q.work ≡ (if given && s.under then Work.Nothing else p.work) → ((given && s.under) ≡ false → knows t.side.hand.course ≡ knows s.side.hand.course) →
        IsServed lens recover (suc made) (served_behind lens recover retry gives made (lost_so_far f octets after) v) q t
    lost_served given f octets after v p q s t g i lives passes counts pace script waits works known =
        let l = v.turn.lived.life in
        let spot = v.turn.lived.spot in
        let x = speech_at lens spot in
        let h = i.served in
        let sent = seen lens octets in
        let news = news_lost spot.station v.kept sent in
        let share : record { under = s.under; at = s.at } ≡ v.turn.share = λ j. record { under = (sym i.under) j; at = (sym i.at) j } in
        let station = h.lives.planned.stands.station_is in
        let stands = open_stand (λ d b. side_shows lens recover s spot d b) spot s.stand l h.lives.shown.stood in
        let under : l.stand ≡ Lives.Stand.Open → Under spot.station s.at s.under s.side.carried l.era.side.halves (duty_access l.era.account.hand) sent = λ o.
        subst (λ z. Under z s.at s.under s.side.carried l.era.side.halves (duty_access l.era.account.hand) sent) station (subst (λ z. StandUnder lens s.side.station s.at s.under s.side.carried z l sent) (stands o) i.way) in
        let work_is : q.work ≡ (if gives && v.turn.share.under then Work.Nothing else p.work) = works ∙ (λ j. if (g j && sym i.under j) then Work.Nothing else p.work) in
        let kept = lost_life x acknowledged is_followed is_passed s.at s.under s.side.carried spot news sent v.kept l (seen_aims lens octets spot.station (subst (λ z. nat_le 1 z ≡ true) station s.named)) under h.kept in
        record {
          lives = subst (λ z. IsLived lens recover z t) (λ j. lived_lost x acknowledged is_followed is_passed (g j) recover made sent v.turn.lived (share j) news) (lives news);
          script = ap (λ z. z.script) script ∙ h.script;
          number = ap (λ z. z.number) script ∙ h.number;
          short = h.short;
          passing = subst (λ z. StandPassing t.stand (awaits_reply t.side.hand.course t.side.hand.which t.side.hand.clients) t.side.passing z)
              (λ j. given_where (g j && sym i.under j) recover spot made (life_lost x acknowledged is_followed is_passed spot (news_lost (station j) v.kept sent) sent l l.stand)) passes;
          kept = kept_given (gives && v.turn.share.under) recover made spot _ _ kept;
          counts = subst (λ z. StandCounts t.stand t.side.read_at t.side.pace (suc made) z) (λ j. counts_on l.stand (station j) (h.pace j) made [] v.counts) (counts v.counts h.counts);
          pace = pace ∙ h.pace;
          waits = waits ∙ (λ j. if (g j && sym i.under j) then [] else h.waits j);
          fits = left_fits (λ k. MayPass (lens spot.station).out k) (gives && v.turn.share.under) v.waits h.fits;
          handed = lost_handed x spot v.kept sent (gives && v.turn.share.under) recover made l p.work q.work v.hand h.handed (λ e. work_is ∙ ap (λ (z : Bool). if z then Work.Nothing else p.work) e) (λ e. work_is ∙ ap (λ (z : Bool). if z then Work.Nothing else p.work) e);
          inhand =
              let gone = gives && v.turn.share.under in
              let m = given_where gone recover spot made (life_lost x acknowledged is_followed is_passed spot news sent l l.stand) in
              subst (λ z. HasInHand x (knows t.side.hand.course) m m.stand z) (sym work_is)
              (lost_inhand (record { out = (lens spot.station).out; back = (lens spot.station).back }) spot v.kept sent recover made l (knows s.side.hand.course) (knows t.side.hand.course) gone p.work h.inhand (λ e. known ((λ j. g j && sym i.under j) ∙ e)));
        }

    module _ (f : Exchanged) (octets : List ℕ) (after : ℕ) (is : f.fate ≡ Lost after) (b : f.sent ≡ octets) where
      pub served_lost : {G : Ghosts InHand} (given : Bool) (v : ServedTurn) (p q : Post) (s t : Stop InHand G) → given ≡ gives → IsServedUnder lens recover octets made v p s →
          ((ns : List (News Body)) → IsLived lens recover (lived_lost (speech_at lens v.turn.lived.spot) acknowledged is_followed is_passed given recover made (seen lens octets) v.turn.lived (record { under = s.under; at = s.at }) ns) t) →
          StandPassing t.stand (awaits_reply t.side.hand.course t.side.hand.which t.side.hand.clients) t.side.passing
          (given_where (given && s.under) recover v.turn.lived.spot made (life_lost (speech_at lens v.turn.lived.spot) acknowledged is_followed is_passed v.turn.lived.spot (news_lost s.side.station v.kept (seen lens octets)) (seen lens octets) v.turn.lived.life v.turn.lived.life.stand)) →
          CountsLost made s t v.turn.lived.life → t.side.pace ≡ s.side.pace → scripted t.side.hand.laying ≡ scripted s.side.hand.laying → waits_of q ≡ (if given && s.under then [] else waits_of p) → q.work ≡ (if given && s.under then Work.Nothing else p.work) →
          ((given && s.under) ≡ false → knows t.side.hand.course ≡ knows s.side.hand.course) → IsServed lens recover (suc made) (served_behind lens recover retry gives made f v) q t
      served_lost given v p q s t g i lives passes counts pace script waits works known =
          subst (λ (z : Exchanged). IsServed lens recover (suc made) (served_behind lens recover retry gives made z v) q t) (sym (so_is f octets after is b)) (lost_served given f octets after v p q s t g i lives passes counts pace script waits works known)

      -- all of them
      pub all_lost : {G : Ghosts InHand} (given : Bool) (T : Lived Asked Reply → Stop InHand G → Stop InHand G → Type 0) (E : Stop InHand G → Stop InHand G → Type 0) (vs : List ServedTurn) (ps qs : List Post) (ss ts : List (Stop InHand G)) →
          AllThree (λ v p s. IsServedUnder lens recover octets made v p s) vs ps ss → length (map waits_of qs) ≡ length (map waits_of ps) → ((k : ℕ) → waits_in (map waits_of qs) k ≡ (if given && holds_at (λ s. s.under) ss k then [] else waits_in (map waits_of ps) k)) → ((k : ℕ) → work_at qs k ≡ (if given && holds_at (λ s. s.under) ss k then Work.Nothing else work_at ps k)) →
          AllThree T (map (λ v. v.turn.lived) vs) ss ts → EachPair E ss ts →
          ((v : ServedTurn) (p q : Post) (s t : Stop InHand G) → IsServedUnder lens recover octets made v p s → waits_of q ≡ (if given && s.under then [] else waits_of p) → q.work ≡ (if given && s.under then Work.Nothing else p.work) → T v.turn.lived s t → E s t → IsServed lens recover (suc made) (served_behind lens recover retry gives made f v) q t) →
          AllThree (λ w q t. IsServed lens recover (suc made) w q t) (map (served_behind lens recover retry gives made f) vs) qs ts
      all_lost given T E [] [] [] [] [] i n w o t e h = tt
      all_lost given T E [] [] [] [] (y ∷ ts) i n w o t e h = absurd e
      all_lost given T E [] [] (q ∷ qs) [] ts i n w o t e h = absurd (omega (arith, n))
      all_lost given T E [] [] qs (s ∷ ss) ts i n w o t e h = absurd i
      all_lost given T E [] (p ∷ ps) qs [] ts i n w o t e h = absurd i
      all_lost given T E [] (p ∷ ps) qs (s ∷ ss) ts i n w o t e h = absurd i
      all_lost given T E (v ∷ vs) [] qs [] ts i n w o t e h = absurd i
      all_lost given T E (v ∷ vs) [] qs (s ∷ ss) ts i n w o t e h = absurd i
      all_lost given T E (v ∷ vs) (p ∷ ps) qs [] ts i n w o t e h = absurd i
      all_lost given T E (v ∷ vs) (p ∷ ps) [] (s ∷ ss) ts i n w o t e h = absurd (omega (arith, n))
      all_lost given T E (v ∷ vs) (p ∷ ps) (q ∷ qs) (s ∷ ss) [] i n w o t e h = absurd e
      all_lost given T E (v ∷ vs) (p ∷ ps) (q ∷ qs) (s ∷ ss) (y ∷ ts) i n w o t e h =
          (h v p q s y i.0 (w zero) (o zero) t.0 e.0, all_lost given T E vs ps qs ss ts i.1 (omega (arith, n)) (λ k. w (suc k)) (λ k. o (suc k)) t.1 e.1 h)

      pub lost_spot : (v : ServedTurn) → (served_behind lens recover retry gives made f v).lead.lived.spot ≡ v.turn.lived.spot
      lost_spot v = ap (λ (z : Fate). (served_behind lens recover retry gives made (record { sent = f.sent; fate = z; back = f.back }) v).lead.lived.spot) is

      -- as the master stands to them the serving's lives are those of a run
      lost_run : (v : ServedTurn) → (served_behind lens recover retry gives made f v).lead.lived.life.stand ≡ (led_behind lens recover retry gives made f v.turn).lived.life.stand
      lost_run v =
          subst (λ (z : Exchanged). (served_behind lens recover retry gives made z v).lead.lived.life.stand ≡ (led_behind lens recover retry gives made z v.turn).lived.life.stand) (sym (so_is f octets after is b))
          (lost_stand lens recover made v.turn.lived.spot _ [] (seen lens octets) v.turn.lived.life (gives && v.turn.share.under) v.turn.lived.life.stand)

      holds_run : (test : Lives.Stand → Bool) (vs : List ServedTurn) (k : ℕ) → holds_at (λ (a : Leads). test a.lived.life.stand) (map run_lead (map (served_behind lens recover retry gives made f) vs)) k ≡ holds_at (λ (a : Leads). test a.lived.life.stand) (map (led_behind lens recover retry gives made f) (map run_turn vs)) k
      holds_run test [] k = refl
      holds_run test (v ∷ vs) zero = ap test (lost_run v)
      holds_run test (v ∷ vs) (suc k) = holds_run test vs k

      long_run : (vs : List ServedTurn) → length (map run_lead (map (served_behind lens recover retry gives made f) vs)) ≡ length (map (led_behind lens recover retry gives made f) (map run_turn vs))
      long_run [] = refl
      long_run (v ∷ vs) = ap suc (long_run vs)

      long_turns : (vs : List ServedTurn) → length (map run_lead (map (served_behind lens recover retry gives made f) vs)) ≡ length (map run_turn vs)
      long_turns [] = refl
      long_turns (v ∷ vs) = ap suc (long_turns vs)

      -- where the tour goes on behind slaves that were given up
      goes_given : {G : Ghosts InHand} (again : Bool) (visit visit' : List ℕ) (opened opened' : ℕ) (vs : List ServedTurn) (ts : List (Stop InHand G)) → again ≡ false → opened' ≡ opened_behind (λ s. is_opened s.stand) opened ts →
          length ts ≡ length (map run_lead (map (served_behind lens recover retry gives made f) vs)) → ((k : ℕ) → holds_at (λ s. is_opened s.stand) ts k ≡ holds_at is_opening_lead (map run_lead (map (served_behind lens recover retry gives made f) vs)) k) →
          GoesUnder visit opened (map run_turn vs) → GoesOn again visit' opened' (map run_lead (map (served_behind lens recover retry gives made f) vs))
      goes_given again visit visit' opened opened' vs ts n e long opens g = record {
        ahead = λ k a c. holds_run is_opening vs k ∙ ahead_behind lens recover retry gives made f (λ s. is_opened s.stand) opened visit (map run_turn vs) ts g (long ∙ long_turns vs) (λ j. opens j ∙ holds_run is_opening vs j) k
            (subst (λ z. z ≤ k) e a) (subst (λ z. k < z) (long_run vs) c);
        comes = λ t. absurd (let z = sym t ∙ n in cc);
      }

  -- and where the same come again
  goes_again : (made : ℕ) (f : Exchanged) (octets : List ℕ) (after : ℕ) (is : f.fate ≡ Lost after) (b : f.sent ≡ octets) (again : Bool) (visit visit' : List ℕ) (opened opened' : ℕ) (vs : List ServedTurn) → visit' ≡ visit → opened' ≡ opened →
      GoesUnder visit opened (map run_turn vs) → GoesOn again visit' opened' (map run_lead (map (served_behind lens recover retry false made f) vs))
  goes_again made f octets after is b again visit visit' opened opened' vs v e g =
      let ws = map run_lead (map (served_behind lens recover retry false made f) vs) in
      let us = map (led_behind lens recover retry false made f) (map run_turn vs) in
      let long = long_run false made f octets after is b vs in
      record {
        ahead = λ k a c. holds_run false made f octets after is b is_opening vs k ∙ ahead_again lens recover retry made f after is opened visit (map run_turn vs) g k (subst (λ z. z ≤ k) e a) (subst (λ z. k < z) long c);
        comes = λ t. subst (λ z. ComeAgain is_live_lead z opened' ws) (sym v) (subst (λ z. ComeAgain is_live_lead visit z ws) (sym e)
            (come_as us ws visit opened long (λ k. holds_run false made f octets after is b is_led vs k) (comes_again lens recover retry made f after is opened visit (map run_turn vs) g)));
      }

  pub goes_lost : {G : Ghosts InHand} (made : ℕ) (f : Exchanged) (octets : List ℕ) (after : ℕ) (is : f.fate ≡ Lost after) (b : f.sent ≡ octets) (come again : Bool) (visit visit' : List ℕ) (opened opened' : ℕ) (vs : List ServedTurn) (ts : List (Stop InHand G)) → again ≡ come → visit' ≡ visit →
      opened' ≡ (if come then opened else opened_behind (λ s. is_opened s.stand) opened ts) → length ts ≡ length (map run_lead (map (served_behind lens recover retry (not come) made f) vs)) →
      ((k : ℕ) → holds_at (λ s. is_opened s.stand) ts k ≡ holds_at is_opening_lead (map run_lead (map (served_behind lens recover retry (not come) made f) vs)) k) →
      GoesUnder visit opened (map run_turn vs) → GoesOn again visit' opened' (map run_lead (map (served_behind lens recover retry (not come) made f) vs))
  goes_lost made f octets after is b true again visit visit' opened opened' vs ts n v e long opens g = goes_again made f octets after is b again visit visit' opened opened' vs v e g
  goes_lost made f octets after is b false again visit visit' opened opened' vs ts n v e long opens g = goes_given true made f octets after is b again visit visit' opened opened' vs ts n e long opens g

-- which slaves the frame gave up
pub gave_all : {V P S : Type 0} (R : V → P → S → Type 0) (E : S → S → Type 0) (a u : S → Bool) (g : Bool) → ((v : V) (p : P) (s t : S) → R v p s → E s t → a t ≡ (g && u s)) → (vs : List V) (ps : List P) (ss ts : List S) → AllThree R vs ps ss → EachPair E ss ts → (k : ℕ) →
    holds_at a ts k ≡ (g && holds_at u ss k)
gave_all R E a u g h [] [] [] [] r e k = sym (and_false g)
gave_all R E a u g h [] [] [] (t ∷ ts) r e k = absurd e
gave_all R E a u g h [] [] (s ∷ ss) ts r e k = absurd r
gave_all R E a u g h [] (p ∷ ps) [] ts r e k = absurd r
gave_all R E a u g h [] (p ∷ ps) (s ∷ ss) ts r e k = absurd r
gave_all R E a u g h (v ∷ vs) [] [] ts r e k = absurd r
gave_all R E a u g h (v ∷ vs) [] (s ∷ ss) ts r e k = absurd r
gave_all R E a u g h (v ∷ vs) (p ∷ ps) [] ts r e k = absurd r
gave_all R E a u g h (v ∷ vs) (p ∷ ps) (s ∷ ss) [] r e k = absurd e
gave_all R E a u g h (v ∷ vs) (p ∷ ps) (s ∷ ss) (t ∷ ts) r e zero = h v p s t r.0 e.0
gave_all R E a u g h (v ∷ vs) (p ∷ ps) (s ∷ ss) (t ∷ ts) r e (suc k) = gave_all R E a u g h vs ps ss ts r.1 e.1 k

-- whose mails wait no more
pub waits_lost : (given gave i u : Bool) (ks : List Keyed) → gave ≡ (given && u) → (u ≡ true → i ≡ true) → (if gave && i then [] else ks) ≡ (if given && u then [] else ks)
waits_lost given gave i u ks e c = ap (λ (z : Bool). if z then [] else ks) (ap (λ z. z && i) e ∙ carried_and given u i c)

-- and of which nothing is in hand
pub works_lost : (given gave i u : Bool) (work : Work) → gave ≡ (given && u) → (u ≡ true → i ≡ true) → (if gave && i then Work.Nothing else work) ≡ (if given && u then Work.Nothing else work)
works_lost given gave i u work e c = ap (λ (z : Bool). if z then Work.Nothing else work) (ap (λ z. z && i) e ∙ carried_and given u i c)

-- Over all frames of a serving: none of a script is skipped, and mails are passed on in the order in which they were asked.
use Rattle.std.proofs.Common.{◌≡◌, ℕ, zero, suc, Bool, true, false, Option, Some, None, List, [], ◌∷◌, ◌++◌, map, length, refl, ap, sym, ◌∙◌, subst, append_assoc, append-nil}
use Rattle.std.specs.Prelude.{◌&&◌, ◌==◌, if◌then◌else◌, All}
use Rattle.std.proofs.lemmas.List.Elements.{All-nil, All-cons, All-head, All-tail}
use Rattle.master_tour.specs.of_life_model.Script.{eras_started, life_started}
use Rattle.master_tour.proofs.of_life_model.Scripts.{back_same, lost_same}
use Rattle.master_hand.specs.of_exchange_model.Exchange.{Speech}
use Rattle.master_tour.specs.of_life_model.Lives.{Spot, Life, Stand, Opening, granted, life_next, life_back, life_lost, era_back, opening_back, shows_clear, last_step, is_shown, clears, opens, steps_on, reopens, reopens_at, returns_to_init, reopening, opens_state}
use Rattle.master_hand.specs.of_segment_model.Ends.{Passing}
use Rattle.master_hand.specs.of_segment_model.Record.{News}
use Rattle.master_hand.specs.of_segment_model.Slaves.{Datagram, Found}
use Rattle.master_hand.specs.of_state_model.Stated.{Service}
use Rattle.master_hand.specs.of_state_model.Accounts as Accounts
use Rattle.master_hand.specs.of_state_model.Accounts.{Account, Duty, Pick, Started, account_begins}
use Rattle.master_hand.specs.of_state_model.Promise.{services_in}
use Rattle.master_tour.specs.of_datagrams.Datagram as Raw
use Rattle.master_tour.specs.of_frame_view.View.{Lens}
use Rattle.master_tour.specs.of_frame_view.Seen.{seen}
use Rattle.master_tour.specs.of_frame_view.Shares.{came_at, given_where}
use Rattle.master_tour.specs.of_link_mails.Body.{Body}
use Rattle.master_tour.specs.of_master_duty.Reply.{Reply}
use Rattle.master_hand.specs.Spoken.{Asked, acknowledged, is_followed, is_passed}
use Rattle.master_tour.specs.of_master_side.Passing.{news_back, news_lost}
use Rattle.master_hand.specs.of_segment_plan.declared.service.Service as Plan
use Rattle.segment_ring.specs.declared.wire.Fate.{Fate}
use Rattle.segment_ring.specs.declared.wire.Fate.TheVariants.{Pass, Lost}
use Rattle.life_runs.specs.Led.{Exchanged, Leads, Took, gives_up_at, speech_at}
use Rattle.life_runs.specs.Came.{ServedCame, HasServed, IsFresh, AreAmong}
use Rattle.life_runs.specs.Served.{Keyed, Serves, ServedTurn, ServedComes, IsServedTurn, AllServedTurn, IsServedLed, all_serve, asked_at, gives_it, served_behind, served_life}
use Rattle.life_runs.specs.Told.{Passed}

-- none or one
abbrev listed : Option (Service Asked) → List (Service Asked)
listed None = []
listed (Some q) = q ∷ []

services_append : (rs ss : List (Started Asked)) → services_in (rs ++ ss) ≡ services_in rs ++ services_in ss
services_append [] ss = refl
services_append (r ∷ rs) ss = ap (λ l. r.service ∷ l) (services_append rs ss)

module _ (x : Speech Body Asked Reply) (made : ℕ) (l : Life Body Asked Reply) (pick : Pick Asked) where
  past_stays : (stand : Stand) → (life_next x acknowledged is_followed is_passed made l stand pick).past ≡ l.past
  past_stays (Stand.Opens o) = refl
  past_stays Stand.Open = refl
  past_stays Stand.Gone = refl

  gave_stays : (stand : Stand) → (life_next x acknowledged is_followed is_passed made l stand pick).gave ≡ l.gave
  gave_stays (Stand.Opens o) = refl
  gave_stays Stand.Open = refl
  gave_stays Stand.Gone = refl

  nothing_begins : (hand : Option Duty) → account_begins x acknowledged made l.era.side l.era.account hand None ≡ l.era.account
  nothing_begins None = refl
  nothing_begins (Some duty) = refl

  not_granted : (passing : Option Passing) → pick.begin ≡ None → (granted passing pick).begin ≡ None
  not_granted None e = e
  not_granted (Some passing) e = refl

  rows_stay : (stand : Stand) → pick.begin ≡ None → (life_next x acknowledged is_followed is_passed made l stand pick).era.account.started ≡ l.era.account.started
  rows_stay (Stand.Opens o) e = refl
  rows_stay Stand.Open e = ap (λ (b : Option (Service Asked)). (account_begins x acknowledged made l.era.side l.era.account l.era.account.hand b).started) (not_granted l.era.passing e) ∙ ap (λ (a : Account Asked Reply). a.started) (nothing_begins l.era.account.hand)
  rows_stay Stand.Gone e = refl

-- no frame takes a give-up back
module _ (x : Speech Body Asked Reply) where
  opening_gave : (frame : ℕ) (l : Life Body Asked Reply) (o : Opening) (done : Bool) (found : Option Found) → (opening_back frame l o done found).gave ≡ l.gave
  opening_gave frame l o done found = go (shows_clear o) (done && is_shown 1 found) (o.step == last_step o) (done && is_shown o.state found)
    where
      go : (a b c d : Bool) → (if a then (if b then clears frame l o else l) else if c then (if d then opens frame l else l) else steps_on l o).gave ≡ l.gave
      go true true c d = refl
      go true false c d = refl
      go false b true true = refl
      go false b true false = refl
      go false b false d = refl

  reopens_gave : (l : Life Body Asked Reply) (hand : Option Duty) → (reopens l hand).gave ≡ l.gave
  reopens_gave l None = refl
  reopens_gave l (Some duty) = go duty.stage
    where
      by : (b : Bool) → (if b then record l { stand = reopening (opens_state duty.target) true } else l).gave ≡ l.gave
      by true = refl
      by false = refl

      go : (s : Accounts.Stage) → (reopens_at l duty.target s).gave ≡ l.gave
      go Accounts.Stage.Drains = refl
      go (Accounts.Stage.Goes phase) = by (returns_to_init duty.target)

  back_gave : (frame : ℕ) (spot : Spot) (ns : List (News Body)) (back : List (Datagram Body)) (came : Option (Bool × Option Found)) (l : Life Body Asked Reply) (stand : Stand) → (life_back x acknowledged is_followed is_passed frame spot ns back came l stand).gave ≡ l.gave
  back_gave frame spot ns back None l (Stand.Opens o) = refl
  back_gave frame spot ns back (Some came) l (Stand.Opens o) = opening_gave frame l o came.0 came.1
  back_gave frame spot ns back came l Stand.Open = (let era = era_back x acknowledged is_followed is_passed spot.station frame ns back l.era in reopens_gave (record l { era = era }) era.account.hand)
  back_gave frame spot ns back came l Stand.Gone = refl

  lost_gave : (spot : Spot) (ns : List (News Body)) (sent : List (Datagram Body)) (l : Life Body Asked Reply) (stand : Stand) → (life_lost x acknowledged is_followed is_passed spot ns sent l stand).gave ≡ l.gave
  lost_gave spot ns sent l (Stand.Opens o) = refl
  lost_gave spot ns sent l Stand.Open = refl
  lost_gave spot ns sent l Stand.Gone = refl

some_not : {T : Type 0} (xs : List T) (y : T) → xs ++ y ∷ [] ≡ [] → ⊥
some_not [] y e = cc
some_not (x ∷ xs) y e = cc

-- one more of both, and none of the last
more_among : (k : Keyed) (ks ls : List Keyed) → AreAmong ks ls → AreAmong (ks ++ k ∷ []) (ls ++ k ∷ [])
more_among k _ _ AreAmong.none = AreAmong.takes k [] [] AreAmong.none
more_among k _ _ (AreAmong.takes l ks ls a) = AreAmong.takes l (ks ++ k ∷ []) (ls ++ k ∷ []) (more_among k ks ls a)
more_among k _ _ (AreAmong.skips l ks ls a) = AreAmong.skips l (ks ++ k ∷ []) (ls ++ k ∷ []) (more_among k ks ls a)

none_among : (ls : List Keyed) → AreAmong [] ls
none_among [] = AreAmong.none
none_among (l ∷ ls) = AreAmong.skips l [] ls (none_among ls)

less_among : (ks rest ms ls : List Keyed) → ms ≡ ks ++ rest → AreAmong ms ls → AreAmong (ks ++ []) ls
less_among [] rest ms ls e a = none_among ls
less_among (k ∷ ks) rest _ _ e AreAmong.none = absurd (let bad : [] ≡ k ∷ (ks ++ rest) = e in cc)
less_among (k ∷ ks) rest _ _ e (AreAmong.takes l ms ls a) =
    let same : l ≡ k = (let all = e in cc) in
    let tail : ms ≡ ks ++ rest = (let all = e in cc) in
    subst (λ z. AreAmong (k ∷ (ks ++ [])) (z ∷ ls)) (sym same) (AreAmong.takes k (ks ++ []) ls (less_among ks rest ms ls tail a))
less_among (k ∷ ks) rest _ _ e (AreAmong.skips l ms ls a) = AreAmong.skips l (k ∷ (ks ++ [])) ls (less_among (k ∷ ks) rest ms ls e a)

-- the same of a slave before a frame
record HasServedTurn (lens : ℕ → Lens) (v : ServedTurn) : Type 0 where
  mails : List Keyed
  came : ServedCame (lens v.turn.lived.spot.station).out v.turn.script v.turn.number mails (life_started v.turn.lived.life)
  among : AreAmong (mails ++ v.waits) v.asked
  all : v.turn.lived.life.gave ≡ [] → v.asked ≡ mails ++ v.waits

module _ (lens : ℕ → Lens) where
  -- BEFORE A FRAME
  module _ (made : ℕ) (ds : List Raw.Datagram) (w : Serves) (v : ServedTurn) (t : IsServedTurn lens made ds w v) (h : HasServed lens w) where
    started_is : (b : Option (Service Asked)) → v.turn.begun ≡ b → Took made w.lead.lived.life.era.account v.turn.lived.life.era.account b → services_in v.turn.lived.life.era.account.started ≡ services_in w.lead.lived.life.era.account.started ++ listed b
    started_is None e took =
        ap services_in (ap (λ (l : Life Body Asked Reply). l.era.account.started) t.next.life ∙ rows_stay (speech_at lens w.lead.lived.spot) made w.lead.lived.life t.next.pick w.lead.lived.life.stand (t.begun ∙ e))
        ∙ sym (append-nil (services_in w.lead.lived.life.era.account.started))
    started_is (Some q) e took = ap services_in took ∙ services_append w.lead.lived.life.era.account.started (record { service = q; frame = made } ∷ [])

    past_is : v.turn.lived.life.past ≡ w.lead.lived.life.past
    past_is = ap (λ (l : Life Body Asked Reply). l.past) t.next.life ∙ past_stays (speech_at lens w.lead.lived.spot) made w.lead.lived.life t.next.pick w.lead.lived.life.stand

    gave_is : v.turn.lived.life.gave ≡ w.lead.lived.life.gave
    gave_is = ap (λ (l : Life Body Asked Reply). l.gave) t.next.life ∙ gave_stays (speech_at lens w.lead.lived.spot) made w.lead.lived.life t.next.pick w.lead.lived.life.stand

    turn_started : life_started v.turn.lived.life ≡ life_started w.lead.lived.life ++ listed v.turn.begun
    turn_started =
        ap (λ es. eras_started es ++ services_in v.turn.lived.life.era.account.started) past_is
        ∙ ap (λ qs. eras_started w.lead.lived.life.past ++ qs) (started_is v.turn.begun refl t.took)
        ∙ sym (append_assoc (eras_started w.lead.lived.life.past) (services_in w.lead.lived.life.era.account.started) (listed v.turn.begun))

    -- one more of the script, a packet, a mail, or nothing
    record One (room : ℕ) (script : List Plan.Service) (m : ℕ) (rest : List Keyed) (b : Option (Service Asked)) : Type 0 where
      mails : List Keyed
      came : ServedCame room script m mails (life_started w.lead.lived.life ++ listed b)
      among : AreAmong (mails ++ rest) w.asked
      all : w.lead.lived.life.gave ≡ [] → w.asked ≡ mails ++ rest

    one : (room n m : ℕ) (script : List Plan.Service) (waits rest : List Keyed) (hand after : Option Passed) (b : Option (Service Asked)) → ServedComes room script waits hand n b m rest after → w.waits ≡ waits → ServedCame room script n h.mails (life_started w.lead.lived.life) → One room script m rest b
    one room n _ script waits _ hand _ _ ServedComes.none e c = record { mails = h.mails; came = subst (λ qs. ServedCame room script n h.mails qs) (sym (append-nil (life_started w.lead.lived.life))) c; among = subst (λ z. AreAmong (h.mails ++ z) w.asked) e h.among; all = λ g. h.all g ∙ ap (λ z. h.mails ++ z) e }
    one room n _ script waits _ hand _ _ (ServedComes.own s m o) e c = record { mails = h.mails; came = ServedCame.own n m h.mails (life_started w.lead.lived.life) s c o; among = subst (λ z. AreAmong (h.mails ++ z) w.asked) e h.among; all = λ g. h.all g ∙ ap (λ z. h.mails ++ z) e }
    one room n _ script waits _ hand _ _ (ServedComes.mail k rest q) e c = record {
      mails = h.mails ++ k ∷ [];
      came = ServedCame.mail n h.mails (life_started w.lead.lived.life) k c;
      among = subst (λ z. AreAmong z w.asked) (ap (λ z. h.mails ++ z) (e ∙ q) ∙ sym (append_assoc h.mails (k ∷ []) rest)) h.among;
      all = λ g. h.all g ∙ ap (λ z. h.mails ++ z) (e ∙ q) ∙ sym (append_assoc h.mails (k ∷ []) rest);
    }

    turn_served : HasServedTurn lens v
    turn_served =
        let x = one (lens w.lead.lived.spot.station).out w.lead.number v.turn.number w.lead.script w.waits v.waits w.hand v.hand v.turn.begun t.comes refl h.came in
        record {
          mails = x.mails;
          came = subst (λ (spot : Spot). ServedCame (lens spot.station).out v.turn.script v.turn.number x.mails (life_started v.turn.lived.life)) (sym t.next.spot)
              (subst (λ script. ServedCame (lens w.lead.lived.spot.station).out script v.turn.number x.mails (life_started v.turn.lived.life)) (sym t.script)
              (subst (λ qs. ServedCame (lens w.lead.lived.spot.station).out w.lead.script v.turn.number x.mails qs) (sym turn_started) x.came));
          among = subst (λ z. AreAmong (x.mails ++ v.waits) z) (sym t.same) x.among;
          all = λ g. t.same ∙ x.all (sym gave_is ∙ g);
        }

  all_turns : (made : ℕ) (ds : List Raw.Datagram) (ws : List Serves) (vs : List ServedTurn) → AllServedTurn lens made ds ws vs → All (HasServed lens) ws → All (HasServedTurn lens) vs
  all_turns made ds [] [] t h = All-nil (HasServedTurn lens)
  all_turns made ds [] (v ∷ vs) t h = absurd t
  all_turns made ds (w ∷ ws) [] t h = absurd t
  all_turns made ds (w ∷ ws) (v ∷ vs) t h = All-cons (HasServedTurn lens) v vs (turn_served made ds w v t.0 (All-head (HasServed lens) w ws h)) (all_turns made ds ws vs t.1 (All-tail (HasServed lens) w ws h))

  -- BEHIND IT
  module _ (recover retry : ℕ) (gives : Bool) (made : ℕ) (f : Exchanged) where
    spot_same : (fate : Fate) (v : ServedTurn) → (served_life lens recover retry gives made f fate v).spot ≡ v.turn.lived.spot
    spot_same Pass v = refl
    spot_same (Lost after) v = refl

    given_same : (b : Bool) (spot : Spot) (m : Life Body Asked Reply) → life_started (given_where b recover spot made m) ≡ life_started m
    given_same true spot m = refl
    given_same false spot m = refl

    life_same : (fate : Fate) (v : ServedTurn) → life_started (served_life lens recover retry gives made f fate v).life ≡ life_started v.turn.lived.life
    life_same Pass v = back_same (speech_at lens v.turn.lived.spot) acknowledged is_followed is_passed v.turn.lived.spot v.turn.lived.life made (news_back v.turn.lived.spot.station v.kept v.counts (seen lens f.back)) (seen lens f.back) (came_at v.turn.share.under v.turn.share.at (seen lens f.back)) v.turn.lived.life.stand
    life_same (Lost after) v = given_same (gives && v.turn.share.under) v.turn.lived.spot (life_lost (speech_at lens v.turn.lived.spot) acknowledged is_followed is_passed v.turn.lived.spot (news_lost v.turn.lived.spot.station v.kept (seen lens f.sent)) (seen lens f.sent) v.turn.lived.life v.turn.lived.life.stand)
        ∙ lost_same (speech_at lens v.turn.lived.spot) acknowledged is_followed is_passed v.turn.lived.spot v.turn.lived.life (news_lost v.turn.lived.spot.station v.kept (seen lens f.sent)) (seen lens f.sent) v.turn.lived.life.stand

    -- where it isn't given up its mails wait on
    waits_on : (fate : Fate) (v : ServedTurn) → (served_life lens recover retry gives made f fate v).life.gave ≡ [] → (v.turn.lived.life.gave ≡ []) × ((if gives_it lens recover retry gives fate v then [] else v.waits) ≡ v.waits)
    waits_on Pass v g = (sym (back_gave (speech_at lens v.turn.lived.spot) made v.turn.lived.spot (news_back v.turn.lived.spot.station v.kept v.counts (seen lens f.back)) (seen lens f.back) (came_at v.turn.share.under v.turn.share.at (seen lens f.back)) v.turn.lived.life v.turn.lived.life.stand) ∙ g, refl)
    waits_on (Lost after) v g = by (gives && v.turn.share.under) g
      where
        behind : Life Body Asked Reply
        behind = life_lost (speech_at lens v.turn.lived.spot) acknowledged is_followed is_passed v.turn.lived.spot (news_lost v.turn.lived.spot.station v.kept (seen lens f.sent)) (seen lens f.sent) v.turn.lived.life v.turn.lived.life.stand

        same : behind.gave ≡ v.turn.lived.life.gave
        same = lost_gave (speech_at lens v.turn.lived.spot) v.turn.lived.spot (news_lost v.turn.lived.spot.station v.kept (seen lens f.sent)) (seen lens f.sent) v.turn.lived.life v.turn.lived.life.stand

        by : (z : Bool) → (given_where z recover v.turn.lived.spot made behind).gave ≡ [] → (v.turn.lived.life.gave ≡ []) × ((if z then [] else v.waits) ≡ v.waits)
        by true b = absurd (some_not behind.gave made b)
        by false b = (sym same ∙ b, refl)

    fewer : (z : Bool) (mails waits asked : List Keyed) → AreAmong (mails ++ waits) asked → AreAmong (mails ++ (if z then [] else waits)) asked
    fewer true mails waits asked a = less_among mails waits (mails ++ waits) asked refl a
    fewer false mails waits asked a = a

    behind_served : (v : ServedTurn) → HasServedTurn lens v → HasServed lens (served_behind lens recover retry gives made f v)
    behind_served v h = record {
      mails = h.mails;
      came = subst (λ (spot : Spot). ServedCame (lens spot.station).out v.turn.script v.turn.number h.mails (life_started (served_life lens recover retry gives made f f.fate v).life)) (sym (spot_same f.fate v))
          (subst (λ qs. ServedCame (lens v.turn.lived.spot.station).out v.turn.script v.turn.number h.mails qs) (sym (life_same f.fate v)) h.came);
      among = fewer (gives_it lens recover retry gives f.fate v) h.mails v.waits v.asked h.among;
      all = λ g. (let o = waits_on f.fate v g in h.all o.0 ∙ ap (λ z. h.mails ++ z) (sym o.1));
    }

    all_behind : (vs : List ServedTurn) → All (HasServedTurn lens) vs → All (HasServed lens) (map (served_behind lens recover retry gives made f) vs)
    all_behind [] h = All-nil (HasServed lens)
    all_behind (v ∷ vs) h = All-cons (HasServed lens) (served_behind lens recover retry gives made f v) (map (served_behind lens recover retry gives made f) vs) (behind_served v (All-head (HasServedTurn lens) v vs h)) (all_behind vs (All-tail (HasServedTurn lens) v vs h))

  asked_one : (k : Keyed) (w : Serves) → HasServed lens w → HasServed lens (record w { asked = w.asked ++ k ∷ []; waits = w.waits ++ k ∷ [] })
  asked_one k w h = record {
    mails = h.mails;
    came = h.came;
    among = subst (λ z. AreAmong z (w.asked ++ k ∷ [])) (append_assoc h.mails w.waits (k ∷ [])) (more_among k (h.mails ++ w.waits) w.asked h.among);
    all = λ g. ap (λ z. z ++ k ∷ []) (h.all g) ∙ append_assoc h.mails w.waits (k ∷ []);
  }

  asked_served : (place : ℕ) (k : Keyed) (ws : List Serves) → All (HasServed lens) ws → All (HasServed lens) (asked_at place k ws)
  asked_served place k [] h = All-nil (HasServed lens)
  asked_served zero k (w ∷ ws) h = All-cons (HasServed lens) (record w { asked = w.asked ++ k ∷ []; waits = w.waits ++ k ∷ [] }) ws (asked_one k w (All-head (HasServed lens) w ws h)) (All-tail (HasServed lens) w ws h)
  asked_served (suc place) k (w ∷ ws) h = All-cons (HasServed lens) w (asked_at place k ws) (All-head (HasServed lens) w ws h) (asked_served place k ws (All-tail (HasServed lens) w ws h))

  first_one : (pace : ℕ) (a : Leads) → IsFresh a → HasServed lens (record { lead = a; pace = pace; asked = []; waits = []; hand = None; kept = record { told = 0; heard = 0 }; counts = true })
  first_one pace a f = record {
    mails = [];
    came = subst (λ n. ServedCame (lens a.lived.spot.station).out a.script n [] (life_started a.lived.life)) (sym f.number) (subst (λ qs. ServedCame (lens a.lived.spot.station).out a.script 0 [] qs) (sym f.started) ServedCame.none);
    among = AreAmong.none;
    all = λ g. refl;
  }

  first_served : (paces : List ℕ) (as' : List Leads) → All IsFresh as' → All (HasServed lens) (all_serve paces as')
  first_served paces [] n = All-nil (HasServed lens)
  first_served [] (a ∷ as') n = All-cons (HasServed lens) _ (all_serve [] as') (first_one 1 a (All-head IsFresh a as' n)) (first_served [] as' (All-tail IsFresh a as' n))
  first_served (pace ∷ paces) (a ∷ as') n = All-cons (HasServed lens) _ (all_serve paces as') (first_one pace a (All-head IsFresh a as' n)) (first_served paces as' (All-tail IsFresh a as' n))

  module _ (recover retry : ℕ) (paces : List ℕ) (first : List Leads) (fresh : All IsFresh first) where
    pub serves_come : (fs : List Exchanged) (missed : ℕ) (ws : List Serves) → IsServedLed lens recover retry (all_serve paces first) fs missed ws → All (HasServed lens) ws
    serves_come _ _ _ IsServedLed.start = first_served paces first fresh
    serves_come _ _ _ (IsServedLed.asks fs missed ws place k led room) = asked_served place k ws (serves_come fs missed ws led)
    serves_come _ _ _ (IsServedLed.on fs missed ws f vs led frame) =
        all_behind recover retry (gives_up_at lens recover retry missed) (length fs) f vs (all_turns (length fs) frame.datagrams ws vs frame.each (serves_come fs missed ws led))

-- What came back of a slave's datagram, for its opening and for its mailboxes.
use Rattle.std.proofs.Common.{◌≡◌, ℕ, zero, suc, ◌+◌, ◌-◌, ◌≤◌, ◌==◌, Bool, true, false, List, [], ◌∷◌, length, get_or, take, drop, Option, Some, None, refl, sym, ap, ◌∙◌, subst, arith, ◌++◌, length-append}
use Rattle.std.specs.Prelude.{nat_lt, nat_le, if◌then◌else◌, ◌&&◌, map, cond, Result, Ok, Err}
use Rattle.master_side.specs.of_datagrams.declared.frame.Part.{Part}
use Rattle.master_side.specs.of_datagrams.Frame.{datagram_of, frame_read}
use Rattle.master_side.specs.of_al_state.declared.bringing.BringStep.{BringStep}
use Rattle.master_side.specs.of_al_state.declared.bringing.BringStep.TheVariants.{Return, Watch, Address, OutOff, InOff, OutManager, InManager, Start, Await}
use Rattle.master_side.specs.of_al_state.declared.bringing.BringUp.{BringUp}
use Rattle.master_side.specs.of_al_state.BringUp.{head_of, octets_of}
use Rattle.master_side.specs.of_link_mails.Body.{Body}
use Rattle.master_side.specs.of_link_model.Frames.{all_accepted}
use Rattle.master_side.specs.of_link_model.Link.{Halves}
use Rattle.master_side.specs.of_exchange_model.Exchange.{Speech}
use Rattle.master_side.specs.of_segment_model.Slaves.{Datagram, Access, Found, grams}
use Rattle.master_side.specs.of_segment_model.Returned.{Returns}
use Rattle.master_side.specs.of_segment_model.Seats.{Side, side_back, side_lost}
use Rattle.master_side.specs.of_state_model.Accounts
use Rattle.master_side.specs.of_state_model.Accounts.{Account, account_back, new_account}
use Rattle.master_side.specs.of_segment_model.Record.{News}
use Rattle.master_side.specs.of_life_model.Lives
use Rattle.master_side.specs.of_life_model.Lives.{Life, Spot, Era, era_back, era_lost, life_back, life_lost, reopens, gives_up, returns_to_init}
use Rattle.master_side.specs.of_life_model.Own
use Rattle.master_side.specs.of_life_model.Tours.{item_at}
use Rattle.master_side.specs.of_frame_view.View.{Lens, datagram_seen, station_of, found_of, register_counter}
use Rattle.master_side.specs.of_frame_view.Seen.{part_seen, parts_seen, seen}
use Rattle.master_side.specs.of_datagrams.declared.frame.Frame.{Frame}
use Rattle.master_side.specs.of_datagrams.declared.frame.FrameFault.{FrameFault}
use Rattle.master_side.specs.Shown.{new_side}
use Rattle.std.proofs.lemmas.Bool.{lt-ltb}
use Rattle.master_side.specs.of_master_duty.Reply.{Reply}
use Rattle.master_tour.specs.Under.{Grams, mine, IsAt}
use Rattle.master_tour.specs.Stands.{OpensUnder, IsMet, is_reading, came_at, came_of, turned, turned_by, is_opening, is_open, is_still, opening_of, IsOpeningOf, ShowsSome, EraShows, StopShows, FollowShows}
use Rattle.master_tour.specs.declared.stop.Stand.{Stand}
use Rattle.master_tour.specs.declared.stop.Turned.{Turned}
use Rattle.master_tour.proofs.Unders.{SameAim, aims, at_answer, at_map, at_short, status_whole, back_as, lost_as, account_as, accepted_as}
use Rattle.master_tour.proofs.Openings.{turned_is, lt_self, lt_more}

-- an opening's status reads are seen as such
reads_status : (lens : ℕ → Lens) (index adp station out_len in_len start : ℕ) (again : Bool) (step : BringStep) → is_reading step ≡ true → (let up : BringUp = record { adp = adp; station = station; out_len = out_len; in_len = in_len; start = start; again = again; step = step } in
    (datagram_seen lens (datagram_of (head_of up index) (octets_of up))).access ≡ Access.ReadState)
reads_status lens index adp station out_len in_len start again Watch r = refl
reads_status lens index adp station out_len in_len start again Await r = refl
reads_status lens index adp station out_len in_len start again Return r = absurd (cc)
reads_status lens index adp station out_len in_len start again Address r = absurd (cc)
reads_status lens index adp station out_len in_len start again OutOff r = absurd (cc)
reads_status lens index adp station out_len in_len start again InOff r = absurd (cc)
reads_status lens index adp station out_len in_len start again OutManager r = absurd (cc)
reads_status lens index adp station out_len in_len start again InManager r = absurd (cc)
reads_status lens index adp station out_len in_len start again Start r = absurd (cc)

item_is : (at : ℕ) (ds : Grams) (b : Datagram Body) → IsAt at ds b → item_at at ds ≡ Some b
item_is at [] b i = absurd i
item_is zero (d ∷ ds) b i = ap Some (sym i)
item_is (suc at) (d ∷ ds) b i = item_is at ds b i

-- WHAT CAME BACK OF AN OPENING'S ACCESS
pub record Came (up : BringUp) (counter : ℕ) (body : List ℕ) (got : Option (Bool × Option Found)) : Type 0 where
  pub came : Bool × Option Found
  pub is : got ≡ Some came
  pub met : IsMet up counter body came

pub opening_came : (lens : ℕ → Lens) (octets body : List ℕ) (ps : List Part) (p z : Part) (at : ℕ) (under : Bool) (up : BringUp) (sent back : Grams) → back ≡ map (part_seen lens octets) ps → Returns sent back → OpensUnder lens at under up sent → under ≡ true →
    p ≡ get_or ps at z → body ≡ take p.head.len (drop (p.at + 10) octets) → Came up p.head.counter body (came_at under at back)
opening_came lens octets body ps p z at under up sent back e r (OpensUnder.none n) u g o = absurd (let t = sym n ∙ u in cc)
opening_came lens octets body ps p z at under up sent back e r (OpensUnder.has index s v i k) u g o =
    let (b, j, q) = at_answer at sent back s r i in
    let same : b ≡ part_seen lens octets p = at_map (part_seen lens octets) at ps z b (subst (λ w. IsAt at w b) e j) ∙ ap (part_seen lens octets) (sym g) in
    let reads : is_reading up.step ≡ true → (part_seen lens octets p).access ≡ Access.ReadState = λ w. ap (λ (d : Datagram Body). d.access) (sym same) ∙ q.access ∙ ap (λ (d : Datagram Body). d.access) k ∙ reads_status lens index up.adp up.station up.out_len up.in_len up.start up.again up.step w in
    let inner : List ℕ = take p.head.len (drop (p.at + 10) octets) in
    record {
      came = ((part_seen lens octets p).counter == 1, (part_seen lens octets p).found);
      is = ap (λ w. came_at w at back) u ∙ ap came_of (item_is at back b j) ∙ ap (λ (d : Datagram Body). came_of (Some d)) same;
      met = record {
        done = λ w. ap (λ a. register_counter a p.head.counter == 1) (reads w);
        found = λ w. ap (λ a. found_of a p.head.counter inner) (reads w) ∙ ap (found_of Access.ReadState p.head.counter) (sym o);
        whole = λ w. ap length o ∙ status_whole (lens (station_of p.head.command p.head.adp)) p.head.command p.head.ado inner (reads w);
      };
    }

-- the datagram that was sent stands in the frame that came back
pub opening_there : (lens : ℕ → Lens) (octets : List ℕ) (ps : List Part) (at : ℕ) (under : Bool) (up : BringUp) (sent back : Grams) → back ≡ map (part_seen lens octets) ps → Returns sent back → OpensUnder lens at under up sent → under ≡ true → length ps ≤ at → ⊥
opening_there lens octets ps at under up sent back e r (OpensUnder.none n) u l = absurd (let t = sym n ∙ u in cc)
opening_there lens octets ps at under up sent back e r (OpensUnder.has index s v i k) u l =
    let (b, j, q) = at_answer at sent back s r i in
    at_short at (part_seen lens octets) ps b (subst (λ w. IsAt at w b) e j) l

-- nothing changed
pub turned_same : {Q : Type 0} (l m : Life Body Q Reply) → m.gave ≡ l.gave → m.past ≡ l.past → (is_opening l.stand && is_open m.stand) ≡ false → None ≡ turned l m
turned_same l m g p s = turned_is l m false false false (ap (λ z. nat_lt (length l.gave) (length z)) g ∙ lt_self (length l.gave)) (ap (λ z. nat_lt (length l.past) (length z)) p ∙ lt_self (length l.past)) s

pub not_both : (s : Lives.Stand) → (is_opening s && is_open s) ≡ false
not_both (Lives.Stand.Opens o) = refl
not_both Lives.Stand.Open = refl
not_both Lives.Stand.Gone = refl

-- a slave's own datagrams by their address are those of its mailboxes
own_mine_by : (station : ℕ) (ds : Grams) → SameAim station ds → Own.own station ds ≡ mine station ds
own_mine_by station [] a = refl
own_mine_by station (d ∷ ds) a = ap (λ (z : Bool). cond z (d ∷ Own.own station ds) (Own.own station ds)) a.0 ∙ go (d.gram.station == station) (own_mine_by station ds a.1)
  where
    go : (z : Bool) → Own.own station ds ≡ mine station ds → cond z (d ∷ Own.own station ds) (Own.own station ds) ≡ (if z then d ∷ mine station ds else mine station ds)
    go true e = ap (λ k. d ∷ k) e
    go false e = e

mine_twice : (station : ℕ) (ds : Grams) → mine station (mine station ds) ≡ mine station ds
mine_twice station [] = refl
mine_twice station (d ∷ ds) = go (d.gram.station == station) refl (mine_twice station ds)
  where
    go : (z : Bool) → (d.gram.station == station) ≡ z → mine station (mine station ds) ≡ mine station ds → mine station (if z then d ∷ mine station ds else mine station ds) ≡ (if z then d ∷ mine station ds else mine station ds)
    go true k e = ap (λ (z : Bool). if z then d ∷ mine station (mine station ds) else mine station (mine station ds)) k ∙ ap (λ k. d ∷ k) e
    go false k e = e

mine_own : (station : ℕ) (ds : Grams) → SameAim station ds → mine station (Own.own station ds) ≡ mine station ds
mine_own station ds a = ap (mine station) (own_mine_by station ds a) ∙ mine_twice station ds

aims_mine : (station : ℕ) (ds : Grams) → SameAim station ds → SameAim station (mine station ds)
aims_mine station [] a = tt
aims_mine station (d ∷ ds) a = go (d.gram.station == station) (aims_mine station ds a.1)
  where
    go : (z : Bool) → SameAim station (mine station ds) → SameAim station (if z then d ∷ mine station ds else mine station ds)
    go true e = (a.0, e)
    go false e = e

aims_own : (station : ℕ) (ds : Grams) → SameAim station ds → SameAim station (Own.own station ds)
aims_own station ds a = subst (SameAim station) (sym (own_mine_by station ds a)) (aims_mine station ds a)

-- so they give the same side and account
pub own_back : {Q : Type 0} (x : Speech Body Q Reply) (R : Side Body Q Reply → Account Q Reply → Type 0) (made station : ℕ) (ds : Grams) (d : Side Body Q Reply) (a : Account Q Reply) → SameAim station ds →
    R (side_back x made station ds d) (account_back station made a ds) → R (side_back x made station (Own.own station ds) d) (account_back station made a (Own.own station ds))
own_back x R made station ds d a aim h =
    let m = mine_own station ds aim in
    subst (λ z. R z (account_back station made a (Own.own station ds))) (sym (back_as x made station (Own.own station ds) ds d m))
    (subst (λ z. R (side_back x made station ds d) z) (sym (account_as x station made a (Own.own station ds) ds (aims_own station ds aim) aim m)) h)

-- and the same mails
pub own_accepted : (P : List Body → Type 0) (station : ℕ) (ds : Grams) (h : Halves Body) → SameAim station ds → P (all_accepted station h (grams ds)) → P (all_accepted station h (grams (Own.own station ds)))
own_accepted P station ds h aim a = subst P (sym (accepted_as station (Own.own station ds) ds h (mine_own station ds aim))) a

pub own_lost : {Q : Type 0} (x : Speech Body Q Reply) (R : Side Body Q Reply → Type 0) (station : ℕ) (ds : Grams) (d : Side Body Q Reply) → SameAim station ds → R (side_lost station ds d) → R (side_lost station (Own.own station ds) d)
own_lost x R station ds d aim h = subst R (sym (lost_as x station (Own.own station ds) ds d (mine_own station ds aim))) h

reopens_gave : {Q : Type 0} (l : Life Body Q Reply) (hand : Option Accounts.Duty) → (reopens l hand).gave ≡ l.gave
reopens_gave l None = refl
reopens_gave l (Some duty) = go duty.stage
  where
    go : (s : Accounts.Stage) → (Lives.reopens_at l duty.target s).gave ≡ l.gave
    go Accounts.Stage.Drains = refl
    go (Accounts.Stage.Goes phase) = by (returns_to_init duty.target)
      where
        by : (z : Bool) → (if z then record l { stand = Lives.reopening (Lives.opens_state duty.target) true } else l).gave ≡ l.gave
        by true = refl
        by false = refl

reopens_past : {Q : Type 0} (l : Life Body Q Reply) (hand : Option Accounts.Duty) → (reopens l hand).past ≡ l.past
reopens_past l None = refl
reopens_past l (Some duty) = go duty.stage
  where
    go : (s : Accounts.Stage) → (Lives.reopens_at l duty.target s).past ≡ l.past
    go Accounts.Stage.Drains = refl
    go (Accounts.Stage.Goes phase) = by (returns_to_init duty.target)
      where
        by : (z : Bool) → (if z then record l { stand = Lives.reopening (Lives.opens_state duty.target) true } else l).past ≡ l.past
        by true = refl
        by false = refl

module _ {Q : Type 0} (shows : Side Body Q Reply → Account Q Reply → Type 0) (x : Speech Body Q Reply) (acknowledged : Q → Bool) (more : Body → Bool) (passed : Q → Bool) (number recover : ℕ) (spot : Spot) (ns : List (News Body)) (back : Grams) (l : Life Body Q Reply) (stand : Stand) (spare : ℕ) (news : Option Turned) where
  abbrev pub after : Option (Bool × Option Found) → Lives.Stand → Life Body Q Reply
  after got s = life_back x acknowledged more passed number spot ns back got l s

  -- nothing of an opening came back
  pub nothing_came : (got : Option (Bool × Option Found)) (o : Lives.Opening) → got ≡ None → l.stand ≡ Lives.Stand.Opens o → news ≡ None → StopShows shows recover spot stand spare l → FollowShows shows recover spot stand spare news l (after got l.stand)
  nothing_came got o e st n sh =
      subst (λ z. FollowShows shows recover spot stand spare news l (after z l.stand)) (sym e)
      (subst (λ z. FollowShows shows recover spot stand spare news l (after None z)) (sym st)
      (record { shown = sh; told = n ∙ turned_same l l refl refl (not_both l.stand) }))

  -- nor has a slave that is gone any
  pub gone_follows : (got : Option (Bool × Option Found)) → l.stand ≡ Lives.Stand.Gone → news ≡ None → StopShows shows recover spot stand spare l → FollowShows shows recover spot stand spare news l (after got l.stand)
  gone_follows got st n sh = subst (λ z. FollowShows shows recover spot stand spare news l (after got z)) (sym st) (go got)
    where
      go : (z : Option (Bool × Option Found)) → FollowShows shows recover spot stand spare news l (after z Lives.Stand.Gone)
      go None = record { shown = sh; told = n ∙ turned_same l l refl refl (not_both l.stand) }
      go (Some came) = record { shown = sh; told = n ∙ turned_same l l refl refl (not_both l.stand) }

  abbrev pub now : Era Body Q Reply
  now = era_back x acknowledged more passed spot.station number ns back l.era

  pub open_follows : (got : Option (Bool × Option Found)) → l.stand ≡ Lives.Stand.Open → news ≡ None → StopShows shows recover spot stand spare (reopens (record l { era = now }) now.account.hand) → FollowShows shows recover spot stand spare news l (after got l.stand)
  open_follows got st n sh = subst (λ z. FollowShows shows recover spot stand spare news l (after got z)) (sym st) (go got)
    where
      done : FollowShows shows recover spot stand spare news l (reopens (record l { era = now }) now.account.hand)
      done = record {
        shown = sh;
        told = n ∙ turned_same l (reopens (record l { era = now }) now.account.hand) (reopens_gave (record l { era = now }) now.account.hand) (reopens_past (record l { era = now }) now.account.hand) (ap (λ z. is_opening z && is_open (reopens (record l { era = now }) now.account.hand).stand) st);
      }

      go : (z : Option (Bool × Option Found)) → FollowShows shows recover spot stand spare news l (after z Lives.Stand.Open)
      go None = done
      go (Some came) = done

-- A LOST FRAME
pub lost_follows : {Q : Type 0} (shows : Side Body Q Reply → Account Q Reply → Type 0) (x : Speech Body Q Reply) (acknowledged : Q → Bool) (more : Body → Bool) (passed : Q → Bool) (recover : ℕ) (spot : Spot) (ns : List (News Body)) (sent : Grams) (l : Life Body Q Reply) (spare : ℕ) (news : Option Turned) →
    l.stand ≡ Lives.Stand.Open → news ≡ None → shows (side_lost spot.station (Own.own spot.station sent) l.era.side) l.era.account → spare ≡ recover - length l.gave → FollowShows shows recover spot Stand.Open spare news l (life_lost x acknowledged more passed spot ns sent l l.stand)
lost_follows shows x acknowledged more passed recover spot ns sent l spare news st n s sp =
    subst (λ z. FollowShows shows recover spot Stand.Open spare news l (life_lost x acknowledged more passed spot ns sent l z)) (sym st)
    (record { shown = record { stood = (st, s); spared = sp; over = λ e. absurd (cc) }; told = n ∙ turned_same l (record l { era = era_lost x acknowledged more passed spot.station ns sent l.era }) refl refl (not_both l.stand) })

pub still_follows : {Q : Type 0} (shows : Side Body Q Reply → Account Q Reply → Type 0) (x : Speech Body Q Reply) (acknowledged : Q → Bool) (more : Body → Bool) (passed : Q → Bool) (recover : ℕ) (spot : Spot) (ns : List (News Body)) (sent : Grams) (l : Life Body Q Reply) (stand : Stand) (spare : ℕ) (news : Option Turned) →
    is_open l.stand ≡ false → news ≡ None → StopShows shows recover spot stand spare l → FollowShows shows recover spot stand spare news l (life_lost x acknowledged more passed spot ns sent l l.stand)
still_follows shows x acknowledged more passed recover spot ns sent l stand spare news st n sh = go l.stand st
  where
    go : (z : Lives.Stand) → is_open z ≡ false → FollowShows shows recover spot stand spare news l (life_lost x acknowledged more passed spot ns sent l z)
    go (Lives.Stand.Opens o) e = record { shown = sh; told = n ∙ turned_same l l refl refl (not_both l.stand) }
    go Lives.Stand.Open e = absurd (cc)
    go Lives.Stand.Gone e = record { shown = sh; told = n ∙ turned_same l l refl refl (not_both l.stand) }

-- each frame of octets is seen so
pub seen_aims : (lens : ℕ → Lens) (octets : List ℕ) (station : ℕ) → nat_le 1 station ≡ true → SameAim station (seen lens octets)
seen_aims lens octets station l = go (frame_read octets)
  where
    go : (r : Result Frame FrameFault) → SameAim station (parts_seen lens octets r)
    go (Ok frame) = aims lens octets station frame.parts.items l
    go (Err fault) = tt

-- a slave that may still be opened anew shows the mailboxes of some epoch
some_of : {Q : Type 0} (shows : Side Body Q Reply → Account Q Reply → Type 0) (recover : ℕ) (spot : Spot) (stand : Stand) (spare : ℕ) (l : Life Body Q Reply) → StopShows shows recover spot stand spare l → 1 ≤ spare → ShowsSome shows
some_of shows recover spot (Stand.Opening up) spare l sh m = go (is_still up) sh.stood.era
  where
    go : (z : Bool) → EraShows shows z l.era → ShowsSome shows
    go true s = s
    go false s = record { side = l.era.side; account = l.era.account; shown = s }
some_of shows recover spot Stand.Open spare l sh m = record { side = l.era.side; account = l.era.account; shown = sh.stood.1 }
some_of shows recover spot Stand.Gone spare l sh m = absurd (let z = sh.over refl in omega (arith, z, m))

-- A GIVE-UP THAT ISN'T FOR GOOD
pub given_up_follows : {Q : Type 0} (shows new : Side Body Q Reply → Account Q Reply → Type 0) (number recover : ℕ) (spot : Spot) (stand : Stand) (spare left : ℕ) (up : BringUp) (l : Life Body Q Reply) → 1 ≤ spare → left ≡ spare - 1 → StopShows shows recover spot stand spare l →
    ((d : Side Body Q Reply) (a : Account Q Reply) → shows d a → new new_side new_account) → opening_of up false ≡ record { again = true; step = 1; state = spot.start; own = false } → is_still up ≡ true → IsOpeningOf spot up →
    FollowShows new recover spot (Stand.Opening up) left (Some Turned.GivenUp) l (gives_up recover spot number l)
given_up_follows shows new number recover spot stand spare left up l m e sh renews is still o =
    let some = some_of shows recover spot stand spare l sh m in
    let sp = sh.spared in
    let may : nat_lt (length l.gave) recover ≡ true = lt-ltb (length l.gave) recover (omega (arith, sp, m)) in
    let long = length-append l.gave (number ∷ []) in
    record {
      shown = record {
        stood = record {
          own = false;
          stand = ap (λ (z : Bool). if z then Lives.reopening spot.start false else Lives.Stand.Gone) may ∙ ap Lives.Stand.Opens (sym is);
          opening = o;
          era = subst (λ z. EraShows new z l.era) (sym still) (record { side = new_side; account = new_account; shown = renews some.side some.account some.shown });
        };
        spared = omega (arith, sp, e, m, long);
        over = λ k. absurd (cc);
      };
      told = λ i. turned_by ((sym (lt_more l.gave number)) i) (nat_lt (length l.past) (length l.past)) (is_opening l.stand && is_open (gives_up recover spot number l).stand);
    }

-- one more give-up is what a life has turned to, whatever else the frame did
pub gave_turned : {Q : Type 0} (l m : Life Body Q Reply) (recover : ℕ) (spot : Spot) (number : ℕ) → m.gave ≡ l.gave → turned m (gives_up recover spot number m) ≡ turned l (gives_up recover spot number m)
gave_turned {Q} l m recover spot number e = more m refl ∙ sym (more l e)
  where
    more : (k : Life Body Q Reply) → m.gave ≡ k.gave → turned k (gives_up recover spot number m) ≡ Some Turned.GivenUp
    more k f = ap (λ z. turned_by (nat_lt (length z) (length (m.gave ++ number ∷ []))) (nat_lt (length k.past) (length m.past)) (is_opening k.stand && is_open (gives_up recover spot number m).stand)) (sym f)
        ∙ ap (λ z. turned_by z (nat_lt (length k.past) (length m.past)) (is_opening k.stand && is_open (gives_up recover spot number m).stand)) (lt_more m.gave number)

pub lost_gave : {Q : Type 0} (x : Speech Body Q Reply) (acknowledged : Q → Bool) (more : Body → Bool) (passed : Q → Bool) (spot : Spot) (ns : List (News Body)) (sent : Grams) (l : Life Body Q Reply) (s : Lives.Stand) → (life_lost x acknowledged more passed spot ns sent l s).gave ≡ l.gave
lost_gave x acknowledged more passed spot ns sent l (Lives.Stand.Opens o) = refl
lost_gave x acknowledged more passed spot ns sent l Lives.Stand.Open = refl
lost_gave x acknowledged more passed spot ns sent l Lives.Stand.Gone = refl

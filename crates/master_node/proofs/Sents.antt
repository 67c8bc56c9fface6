-- THE FRAME IS MADE: before its first visit, and behind its last.
use Rattle.std.proofs.Common.{◌≡◌, ◌<◌, ◌≤◌, ◌+◌, ℕ, zero, suc, Bool, true, false, Option, Some, None, List, [], ◌∷◌, ◌++◌, refl, sym, ap, ◌∙◌, subst, arith, length}
use Rattle.std.specs.Prelude.{map, All, not, ◌==◌, ◌||◌}
use Rattle.std.proofs.lemmas.Bool.{ne_eqb}
use Rattle.std.specs.List.{list_any}
use Rattle.life_runs.specs.of_datagrams.Datagram as Raw
use Rattle.life_runs.specs.of_datagrams.Frame.{IsFrame, MoreButLast, chained}
use Rattle.life_runs.specs.of_frame_view.View.{Lens, datagram_seen}
use Rattle.life_runs.specs.of_frame_view.Seen.{seen, datagrams_seen}
use Rattle.life_runs.proofs.of_frame_view.Octets.{seen_is, seen_chained}
use Rattle.life_runs.specs.of_frame_view.Frames.{AreApart}
use Rattle.life_runs.specs.of_frame_view.Shares.{Lived, AllFrom, AllBoth, AllThree, IsElsewhere, AreDistinct}
use Rattle.life_runs.specs.of_life_model.Lives
use Rattle.life_runs.specs.of_life_model.Lives.{Spot}
use Rattle.life_runs.specs.Led.{Leads, Turn, Comes, Took, IsTurn, AllTurn, speech_at}
use Rattle.life_runs.specs.of_master_duty.Reply.{Reply}
use Rattle.life_runs.specs.of_master_hand.Spoken.{Asked, acknowledged, is_followed, is_passed}
use Rattle.life_runs.specs.of_master_hand.declared.hand.InHand.{InHand}
use Rattle.life_runs.specs.of_master_side.Shown.{started_by}
use Rattle.life_runs.specs.of_master_side.declared.hand.Hand.{Ghosts}
use Rattle.life_runs.specs.of_master_tour.Goes.{is_live, holds_at, BeginsLive}
use Rattle.life_runs.specs.of_master_tour.Made.{StopLives, StopSent, is_in}
use Rattle.life_runs.specs.of_master_tour.Stands.{StandShows, StandUnder, is_opening}
use Rattle.life_runs.specs.of_master_tour.Walks.{EachPair}
use Rattle.life_runs.specs.of_master_tour.declared.stop.Stand.{Stand}
use Rattle.life_runs.specs.of_master_tour.declared.stop.Stop.{Stop}
use Rattle.life_runs.proofs.of_master_tour.Unpassed.{unpassed_next}
use Rattle.life_runs.specs.of_mailbox_master.Any.{in_area_len}
use Rattle.life_runs.specs.of_state_model.Stated.{Service}
use Rattle.life_runs.specs.of_state_model.Accounts.{Account}
use Rattle.master_node.specs.Rooms.{FitAgain}
use Rattle.master_node.specs.Begins.{begun_for, begun_of}
use Rattle.master_node.specs.Filling.{IsAmong}
use Rattle.master_node.specs.declared.node.MasterNode.{MasterNode}
use Rattle.master_node.specs.Shows.{MasterShows, WaitsNone, is_led, lived_of, turned_of, is_live_lead, is_opening_lead, is_live_turn, is_opening_turn, is_carried, side_shows, HoldsFirst, ComeAgain, GoesOn, GoesUnder, IsLived, IsLead, IsUnder}
use Rattle.life_runs.proofs.Quiet.{comes_own}
use Rattle.master_node.proofs.Lists.{both_holds, both_length}
use Rattle.master_node.proofs.Mailed.{next_stands}

-- a slave is live where its life is
pub stand_lives : {G : Ghosts InHand} (lens : ℕ → Lens) (recover : ℕ) (a : Lived Asked Reply) (t : Stop InHand G) → IsLived lens recover a t → is_live t.stand ≡ is_led a.life.stand
stand_lives lens recover a t v = go t.stand v.shown.stood
  where
    go : (z : Stand) → StandShows (side_shows lens recover t a.spot) a.spot z a.life → is_live z ≡ is_led a.life.stand
    go (Stand.Opening up) s = sym (ap is_led s.stand)
    go Stand.Open s = sym (ap is_led s.0)
    go Stand.Gone s = sym (ap is_led s)

opening_live : (s : Lives.Stand) → is_opening s ≡ true → is_led s ≡ true
opening_live (Lives.Stand.Opens o) e = refl
opening_live Lives.Stand.Open e = refl
opening_live Lives.Stand.Gone e = absurd (cc)

pub holds_both : {A : Type 0} (t r : A → Bool) → ((a : A) → t a ≡ true → r a ≡ true) → (as' : List A) (k : ℕ) → holds_at t as' k ≡ true → holds_at r as' k ≡ true
holds_both t r h [] k e = e
holds_both t r h (a ∷ as') zero e = h a e
holds_both t r h (a ∷ as') (suc k) e = holds_both t r h as' k e

-- BEFORE THE FIRST VISIT
pub each_holds : {S : Type 0} (P : S → S → Type 0) (test : S → Bool) → ((s t : S) → P s t → test t ≡ test s) → (ss ts : List S) → EachPair P ss ts → (k : ℕ) → holds_at test ts k ≡ holds_at test ss k
each_holds P test h [] [] e k = refl
each_holds P test h [] (t ∷ ts) e k = absurd e
each_holds P test h (s ∷ ss) [] e k = absurd e
each_holds P test h (s ∷ ss) (t ∷ ts) e zero = h s t e.0
each_holds P test h (s ∷ ss) (t ∷ ts) e (suc k) = each_holds P test h ss ts e.1 k

pub each_any : {S : Type 0} (P : S → S → Type 0) (test : S → Bool) → ((s t : S) → P s t → test t ≡ test s) → (ss ts : List S) → EachPair P ss ts → list_any test ts ≡ list_any test ss
each_any P test h [] [] e = refl
each_any P test h [] (t ∷ ts) e = absurd e
each_any P test h (s ∷ ss) [] e = absurd e
each_any P test h (s ∷ ss) (t ∷ ts) e = (λ i. h s t e.0 i || each_any P test h ss ts e.1 i)

pub begins_live : {S : Type 0} (live : S → Bool) (again : Bool) (visit : List ℕ) (opened : ℕ) (ss : List S) (as' : List Leads) → length ss ≡ length as' → ((k : ℕ) → holds_at live ss k ≡ holds_at is_live_lead as' k) → GoesOn again visit opened as' → BeginsLive live again visit opened ss
begins_live live true [] opened ss as' n h g = (g.comes refl).first
begins_live live true (p ∷ ps) opened ss as' n h g = h p ∙ (g.comes refl).first
begins_live live false visit opened ss as' n h g = λ l.
    h opened ∙ holds_both is_opening_lead is_live_lead (λ a e. opening_live a.lived.life.stand e) as' opened (g.ahead opened (omega arith) (omega (arith, l, n)))

pub both_from : {A S : Type 0} (P : A → S → Type 0) (K : S → S → Type 0) (T : ℕ → A → S → Type 0) → ((i : ℕ) (a : A) (s t : S) → P a s → K s t → T i a t) → (i : ℕ) (as' : List A) (ss ts : List S) → AllBoth P as' ss → EachPair K ss ts → AllFrom T i as' ts
both_from P K T h i [] [] [] p k = tt
both_from P K T h i [] [] (t ∷ ts) p k = absurd k
both_from P K T h i [] (s ∷ ss) ts p k = absurd p
both_from P K T h i (a ∷ as') [] ts p k = absurd p
both_from P K T h i (a ∷ as') (s ∷ ss) [] p k = absurd k
both_from P K T h i (a ∷ as') (s ∷ ss) (t ∷ ts) p k = (h i a s t p.0 k.0, both_from P K T h (suc i) as' ss ts p.1 k.1)

pub lead_among : {G : Ghosts InHand} (lens : ℕ → Lens) (recover : ℕ) (left : List ℕ) (i : ℕ) (a : Leads) (s t : Stop InHand G) → IsLead lens recover a s → t.side ≡ s.side → t.place ≡ s.place → IsAmong lens (λ k. None) left i a t
lead_among lens recover left i a s t l e p =
    let number = ap (λ z. z.hand.laying.number) e ∙ l.number in
    let at = l.lives.planned.stands in
    record {
      script = ap (λ z. z.hand.laying.script) e ∙ l.script;
      comes = subst (λ z. Comes (lens a.lived.spot.station).out a.script a.number None z) (sym number) Comes.none;
      still = λ x. number;
      short = l.short;
      unpassed = ap (λ z. z.passing) e ∙ l.unpassed;
      own = l.own;
      place = p ∙ at.place_is;
      room = ap (λ z. (lens z).out) (sym at.station_is) ∙ l.lives.planned.out_is ∙ sym (ap (λ z. z.out.len) e);
    }

-- BEHIND THE LAST VISIT
pub took_of : (made : ℕ) (old new : Account Asked Reply) (p b : Option (Service Asked)) → p ≡ b → new.started ≡ old.started ++ started_by made p → Took made old new b
took_of made old new p None e s = tt
took_of made old new None (Some b) e s = absurd (cc)
took_of made old new (Some a) (Some b) e s = subst (λ z. new.started ≡ old.started ++ started_by made z) e s

-- each stands as it did, where it did
pub record Same (a : Leads) (u : Turn) : Type 0 where
  pub stand : u.lived.life.stand ≡ a.lived.life.stand
  pub spot : u.lived.spot ≡ a.lived.spot

elsewhere_same : (spot : Spot) (as' : List Leads) (us : List Turn) → AllBoth Same as' us → IsElsewhere spot (map lived_of as') → IsElsewhere spot (map turned_of us)
elsewhere_same spot [] [] k e = tt
elsewhere_same spot [] (u ∷ us) k e = absurd k
elsewhere_same spot (a ∷ as') [] k e = absurd k
elsewhere_same spot (a ∷ as') (u ∷ us) k e = (subst (AreApart spot) (sym k.0.spot) e.0, elsewhere_same spot as' us k.1 e.1)

pub distinct_same : (as' : List Leads) (us : List Turn) → AllBoth Same as' us → AreDistinct (map lived_of as') → AreDistinct (map turned_of us)
distinct_same [] [] k d = tt
distinct_same [] (u ∷ us) k d = absurd k
distinct_same (a ∷ as') [] k d = absurd k
distinct_same (a ∷ as') (u ∷ us) k d = (subst (λ (z : Spot). IsElsewhere z (map turned_of us)) (sym k.0.spot) (elsewhere_same a.lived.spot as' us k.1 d.0), distinct_same as' us k.1 d.1)

first_same : (as' : List Leads) (us : List Turn) (visit : List ℕ) → ((k : ℕ) → holds_at is_live_turn us k ≡ holds_at is_live_lead as' k) → HoldsFirst is_live_lead as' visit → HoldsFirst is_live_turn us visit
first_same as' us [] h f = absurd f
first_same as' us (p ∷ ps) h f = h p ∙ f

module _ {G : Ghosts InHand} (lens : ℕ → Lens) (recover made : ℕ) (begun : ℕ → Option (Service Asked)) (octets : List ℕ) (ds : List Raw.Datagram) (is : seen lens octets ≡ datagrams_seen lens ds) where
  -- a slave in the frame that was made
  abbrev Sends : Lived Asked Reply → Lived Asked Reply → Stop InHand G → Type 0
  Sends a b s = StopSent (speech_at lens a.spot) acknowledged is_followed is_passed made begun lens recover (side_shows lens recover s a.spot) s.side.station s.place s.start s.stand s.spare s.side.out.len (in_area_len s.side.inn) s.side.carried s.under s.at ds a b

  abbrev pub turn_of : Leads → Lived Asked Reply → Stop InHand G → Turn
  turn_of a b s = record { script = a.script; number = s.side.hand.laying.number; begun = begun a.lived.spot.place; lived = b; share = record { under = s.under; at = s.at } }

  turn_is : (left : List ℕ) (i : ℕ) (a : Leads) (b : Lived Asked Reply) (s : Stop InHand G) → IsAmong lens begun left i a s → Sends a.lived b s → IsTurn lens made ds a (turn_of a b s)
  turn_is left i a b s m t = record {
    script = refl;
    comes = m.comes;
    next = t.next;
    begun = t.wish;
    took = took_of made a.lived.life.era.account b.life.era.account t.next.pick.begin (begun a.lived.spot.place) t.wish t.took;
    asked = t.asked;
  }

  stays : (a b : Lived Asked Reply) (s : Stop InHand G) → Sends a b s → b.life.stand ≡ a.life.stand
  stays a b s t = ap (λ z. z.stand) t.next.life ∙ next_stands (speech_at lens a.spot) made a.life a.life.stand t.next.pick refl

  under_is : (left : List ℕ) (i : ℕ) (a : Leads) (b : Lived Asked Reply) (s : Stop InHand G) → IsAmong lens begun left i a s → Sends a.lived b s → IsUnder lens recover octets (turn_of a b s) s
  under_is left i a b s m t = record {
    lead = record {
      lives = subst (λ z. Lived_as z) (sym t.next.spot) t.lives;
      script = m.script;
      number = refl;
      short = m.short;
      unpassed = m.unpassed;
      own = ap (λ z. z.era.passing) t.next.life ∙ unpassed_next (speech_at lens a.lived.spot) acknowledged is_followed is_passed made a.lived.life a.lived.life.stand t.next.pick m.own
          (λ q e. comes_own (lens a.lived.spot.station).out a.script a.number s.side.hand.laying.number (begun a.lived.spot.place) m.comes q (sym t.wish ∙ e));
    };
    under = refl;
    at = refl;
    way = subst (λ z. StandUnder lens s.side.station s.at s.under s.side.carried s.stand b.life z) (sym is) t.way;
  }
    where
      Lived_as : Spot → Type 0
      Lived_as spot = StopLives lens recover (side_shows lens recover s spot) s.side.station s.place s.start s.stand s.spare s.side.out.len (in_area_len s.side.inn) b

  -- all of them
  abbrev pub turns : List Leads → List (Lived Asked Reply) → List (Stop InHand G) → List Turn
  turns [] bs ss = []
  turns (a ∷ as') [] ss = []
  turns (a ∷ as') (b ∷ bs) [] = []
  turns (a ∷ as') (b ∷ bs) (s ∷ ss) = turn_of a b s ∷ turns as' bs ss

  pub turns_all : (left : List ℕ) (i : ℕ) (as' : List Leads) (bs : List (Lived Asked Reply)) (ss : List (Stop InHand G)) → AllFrom (λ j a s. IsAmong lens begun left j a s) i as' ss → AllThree (λ a b s. Sends a b s) (map lived_of as') bs ss → AllTurn lens made ds as' (turns as' bs ss)
  turns_all left i [] [] [] m t = tt
  turns_all left i [] (b ∷ bs) ss m t = absurd t
  turns_all left i [] [] (s ∷ ss) m t = absurd t
  turns_all left i (a ∷ as') [] ss m t = absurd t
  turns_all left i (a ∷ as') (b ∷ bs) [] m t = absurd t
  turns_all left i (a ∷ as') (b ∷ bs) (s ∷ ss) m t = (turn_is left i a b s m.0 t.0, turns_all left (suc i) as' bs ss m.1 t.1)

  pub begun_turns : (as' : List Leads) (bs : List (Lived Asked Reply)) (ss : List (Stop InHand G)) → AllThree (λ a b s. Sends a b s) (map lived_of as') bs ss → (k : ℕ) → begun_of (turns as' bs ss) k ≡ begun_for begun as' k
  begun_turns [] bs ss t k = refl
  begun_turns (a ∷ as') [] ss t k = absurd t
  begun_turns (a ∷ as') (b ∷ bs) [] t k = absurd t
  begun_turns (a ∷ as') (b ∷ bs) (s ∷ ss) t zero = refl
  begun_turns (a ∷ as') (b ∷ bs) (s ∷ ss) t (suc k) = begun_turns as' bs ss t.1 k

  pub under_all : (left : List ℕ) (i : ℕ) (as' : List Leads) (bs : List (Lived Asked Reply)) (ss : List (Stop InHand G)) → AllFrom (λ j a s. IsAmong lens begun left j a s) i as' ss → AllThree (λ a b s. Sends a b s) (map lived_of as') bs ss → AllBoth (λ u s. IsUnder lens recover octets u s) (turns as' bs ss) ss
  under_all left i [] [] [] m t = tt
  under_all left i [] (b ∷ bs) ss m t = absurd t
  under_all left i [] [] (s ∷ ss) m t = absurd t
  under_all left i (a ∷ as') [] ss m t = absurd t
  under_all left i (a ∷ as') (b ∷ bs) [] m t = absurd t
  under_all left i (a ∷ as') (b ∷ bs) (s ∷ ss) m t = (under_is left i a b s m.0 t.0, under_all left (suc i) as' bs ss m.1 t.1)

  pub same_all : (as' : List Leads) (bs : List (Lived Asked Reply)) (ss : List (Stop InHand G)) → AllThree (λ a b s. Sends a b s) (map lived_of as') bs ss → AllBoth Same as' (turns as' bs ss)
  same_all [] [] [] t = tt
  same_all [] (b ∷ bs) ss t = absurd t
  same_all [] [] (s ∷ ss) t = absurd t
  same_all (a ∷ as') [] ss t = absurd t
  same_all (a ∷ as') (b ∷ bs) [] t = absurd t
  same_all (a ∷ as') (b ∷ bs) (s ∷ ss) t = (record { stand = stays a.lived b s t.0; spot = t.0.next.spot }, same_all as' bs ss t.1)

  -- those whose visit was not come to have no datagram in it
  pub carried_not : (left : List ℕ) (i j k : ℕ) (as' : List Leads) (bs : List (Lived Asked Reply)) (ss : List (Stop InHand G)) → j ≡ i + k → k < length (turns as' bs ss) → AllFrom (λ n a s. is_in n left ≡ true → s.under ≡ false) i as' ss → is_in j left ≡ true → holds_at is_carried (turns as' bs ss) k ≡ false
  carried_not left i j k [] bs ss e l b n = absurd (omega (arith, l))
  carried_not left i j k (a ∷ as') [] ss e l b n = absurd (omega (arith, l))
  carried_not left i j k (a ∷ as') (x ∷ bs) [] e l b n = absurd (omega (arith, l))
  carried_not left i j zero (a ∷ as') (x ∷ bs) (s ∷ ss) e l b n = b.0 (subst (λ z. is_in z left ≡ true) (let f : j ≡ i = omega (arith, e) in f) n)
  carried_not left i j (suc k) (a ∷ as') (x ∷ bs) (s ∷ ss) e l b n = carried_not left (suc i) j k as' bs ss (omega (arith, e)) (omega (arith, l)) b.1 n

  -- WHERE THE TOUR STANDS
  pub goes_under : (again : Bool) (visit visit' : List ℕ) (opened : ℕ) (left : List ℕ) (as' : List Leads) (bs : List (Lived Asked Reply)) (ss : List (Stop InHand G)) → AllThree (λ a b s. Sends a b s) (map lived_of as') bs ss → AllFrom (λ n a s. is_in n left ≡ true → s.under ≡ false) 0 as' ss →
      (opened < length as' → (k : ℕ) → k < length as' → (k ≡ opened → ⊥) → is_in k left ≡ true) → ComeAgain is_live_lead visit opened as' → GoesOn again visit' opened as' → GoesUnder visit opened (turns as' bs ss)
  goes_under again visit visit' opened left as' bs ss t b apart comes g =
      let us = turns as' bs ss in
      let k = same_all as' bs ss t in
      let n = both_length Same as' us k in
      record {
        ahead = λ j a l. both_holds Same is_opening_lead is_opening_turn (λ c u s. ap is_opening s.stand) as' us k j ∙ g.ahead j a (omega (arith, l, n));
        apart = λ j a l. carried_not left 0 j j as' bs ss (omega arith) l b (apart (omega (arith, a, l, n)) j (omega (arith, l, n)) (λ e. omega (arith, e, a)));
        comes = record {
          once = comes.once;
          first = first_same as' us visit (both_holds Same is_live_lead is_live_turn (λ c u s. ap is_led s.stand) as' us k) comes.first;
          alone = λ l j e. comes.alone (omega (arith, l, n)) j e;
        };
      }

-- a frame has a datagram
chain_some : (ds : List Raw.Datagram) → MoreButLast (chained ds) → 1 ≤ length ds
chain_some [] c = absurd c
chain_some (d ∷ ds) c = omega arith

map_long : {A B : Type 0} (f : A → B) (xs : List A) → length (map f xs) ≡ length xs
map_long f [] = refl
map_long f (x ∷ xs) = ap suc (map_long f xs)

pub sent_is : (lens : ℕ → Lens) (octets : List ℕ) (ds : List Raw.Datagram) → IsFrame octets (chained ds) → seen lens octets ≡ datagrams_seen lens ds
sent_is lens octets ds f = seen_is lens octets (chained ds) f ∙ seen_chained lens ds

pub sent_many : (lens : ℕ → Lens) (octets : List ℕ) (ds : List Raw.Datagram) → IsFrame octets (chained ds) → length (seen lens octets) ≡ length ds
sent_many lens octets ds f = ap length (sent_is lens octets ds f) ∙ map_long (datagram_seen lens) ds

pub sent_some : (lens : ℕ → Lens) (octets : List ℕ) (ds : List Raw.Datagram) → IsFrame octets (chained ds) → 1 ≤ length (seen lens octets)
sent_some lens octets ds f =
    let n = ap length (sent_is lens octets ds f) ∙ map_long (datagram_seen lens) ds in
    let l = chain_some ds f.chain in
    omega (arith, n, l)

-- where it goes on before a frame
pub goes_begun : (again again' : Bool) (visit visit' : List ℕ) (opened opened' : ℕ) (as' : List Leads) → again' ≡ again → opened' ≡ opened → (again ≡ true → visit' ≡ visit) → GoesOn again visit opened as' → GoesOn again' visit' opened' as'
goes_begun again again' visit visit' opened opened' as' a o v g = record {
  ahead = λ k l n. g.ahead k (subst (λ z. z ≤ k) o l) n;
  comes = λ t. let e = sym a ∙ t in subst (λ z. ComeAgain is_live_lead z opened' as') (sym (v e)) (subst (λ z. ComeAgain is_live_lead visit z as') (sym o) (g.comes e));
}

pub some_not : (n : ℕ) → 1 ≤ n → not (n == 0) ≡ true
some_not n l = ap not (ne_eqb n 0 (λ q. omega (arith, q, l)))

-- the master shows the same where its tour and its posts are the same
pub shows_same : (lens : ℕ → Lens) (recover retry missed : ℕ) (as' : List Leads) (m n : MasterNode) → n.tour ≡ m.tour → n.posts ≡ m.posts → MasterShows lens recover retry m missed as' → MasterShows lens recover retry n missed as'
shows_same lens recover retry missed as' m n e f x = record {
  each = subst (λ z. AllBoth (λ a s. IsLead lens recover a s) as' z.stops.items) (sym e) x.each;
  distinct = x.distinct;
  quiet = subst (λ z. All WaitsNone z.items) (sym f) x.quiet;
  goes = subst (λ z. GoesOn z.again z.visit.items z.opened as') (sym e) x.goes;
  missed_is = ap (λ z. z.missed) e ∙ x.missed_is;
  retry_is = ap (λ z. z.retry) e ∙ x.retry_is;
  again = λ a. subst (λ z. FitAgain z.visit.items z.stops.items) (sym e) (x.again (ap (λ z. z.again) (sym e) ∙ a));
}

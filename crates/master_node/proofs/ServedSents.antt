-- THE FRAME OF A SERVING IS MADE: before its first visit, and behind its last.
use Rattle.std.proofs.Common.{◌≡◌, ◌%◌, ℕ, suc, Bool, Option, None, Some, List, [], ◌∷◌, refl, sym, ap, ◌∙◌, subst, length}
use Rattle.std.specs.Prelude.{is_some, map, All}
use Rattle.std.proofs.lemmas.List.Elements.{All-tail}
use Rattle.life_runs.specs.of_datagrams.Datagram as Raw
use Rattle.life_runs.specs.Lives.{LifeKept}
use Rattle.life_runs.proofs.Lives.{next_life}
use Rattle.life_runs.specs.of_frame_view.View.{Lens}
use Rattle.life_runs.specs.of_frame_view.Seen.{seen, datagrams_seen}
use Rattle.life_runs.specs.of_frame_view.Shares.{AllFrom, Lived, AllBoth, AllThree, AreDistinct}
use Rattle.life_runs.specs.Led.{Turn, speech_at}
use Rattle.life_runs.specs.of_mailbox_master.Any.{in_area_len}
use Rattle.life_runs.specs.of_master_duty.Reply.{Reply}
use Rattle.life_runs.specs.of_state_model.Stated.{Service}
use Rattle.life_runs.specs.of_master_hand.Shown.{knows}
use Rattle.life_runs.specs.of_master_hand.Spoken.{Asked, acknowledged, is_followed, is_passed}
use Rattle.life_runs.specs.of_master_hand.declared.hand.InHand.{InHand}
use Rattle.life_runs.specs.of_master_side.Passing.{passing_seen}
use Rattle.life_runs.specs.of_master_side.declared.hand.Hand.{Ghosts}
use Rattle.life_runs.specs.of_master_side.declared.passing.Passing.{Passing}
use Rattle.life_runs.specs.of_link_mails.Body.{Body}
use Rattle.life_runs.specs.of_master_tour.Made.{FrameMade, StopLives, StopSent}
use Rattle.life_runs.specs.of_master_tour.Passing.{StandPassing}
use Rattle.life_runs.specs.of_master_tour.Stands.{Counts, StandUnder}
use Rattle.life_runs.specs.of_master_tour.Walks.{EachPair}
use Rattle.life_runs.specs.of_master_tour.declared.stop.Stand.{Stand}
use Rattle.life_runs.specs.of_master_tour.declared.stop.Stop.{Stop}
use Rattle.life_runs.specs.of_life_model.Lives.{Life, Spot}
use Rattle.life_runs.specs.of_segment_plan.declared.service.Service as Plan
use Rattle.life_runs.specs.Served.{AllServedTurn, IsServedTurn, Keyed, Serves, ServedComes, ServedTurn}
use Rattle.life_runs.specs.Told.{Passed}
use Rattle.master_node.specs.Begins.{HasBegun, begun_for, begun_of}
use Rattle.master_node.specs.Listing.{Before}
use Rattle.master_node.specs.Events.{served_tells}
use Rattle.master_node.specs.Filling.{StopFills}
use Rattle.master_node.specs.Handed.{IsHanding}
use Rattle.master_node.specs.Named.{IsHanded, is_left}
use Rattle.master_node.specs.Numbered.{IsNumbered}
use Rattle.master_node.specs.Inhand.{HasInHand, WorkOf}
use Rattle.master_node.specs.Passes.{BeginsFree, IsPassing, IsServing, ThreeFrom}
use Rattle.master_node.specs.Serving.{IsServed, IsServedUnder, MayPass, ServedShows, mails_in, run_lead, run_turn, waits_of}
use Rattle.master_node.specs.Rooms.{FitAgain}
use Rattle.master_node.specs.Starts.{HasStarted}
use Rattle.master_node.specs.Shows.{GoesOn, GoesUnder, lived_of, side_shows, turned_of}
use Rattle.master_node.specs.declared.node.MasterNode.{MasterNode}
use Rattle.master_node.specs.declared.post.Post.{Post}
use Rattle.master_node.specs.declared.post.Work.{Work}
use Rattle.master_node.proofs.Handeds.{begun_is, hand_is}
use Rattle.master_node.proofs.Inhand.{next_inhand}
use Rattle.master_node.proofs.Listing.{listed_on}
use Rattle.master_node.proofs.Roundings.{SameTour}
use Rattle.master_node.proofs.Mailed as Mailed
use Rattle.master_node.proofs.Mailed.{next_passing}
use Rattle.master_node.proofs.Sents.{took_of, turns}
use Rattle.master_node.proofs.Alikes.{Alike, serving_alike}

pub map_map : {A B C : Type 0} (g : B → C) (f : A → B) (xs : List A) → map g (map f xs) ≡ map (λ x. g (f x)) xs
map_map g f [] = refl
map_map g f (x ∷ xs) = ap (λ z. g (f x) ∷ z) (map_map g f xs)

-- the turns of a serving are those of its run
module _ (us : List Turn) (vs : List ServedTurn) (are : map run_turn vs ≡ us) where
  pub sent_distinct : AreDistinct (map turned_of us) → AreDistinct (map (λ v. v.turn.lived) vs)
  sent_distinct d = subst (λ z. AreDistinct z) (ap (map turned_of) (sym are) ∙ map_map turned_of run_turn vs) d

  pub sent_goes : (visit : List ℕ) (opened : ℕ) → GoesUnder visit opened us → GoesUnder visit opened (map run_turn vs)
  sent_goes visit opened g = subst (λ z. GoesUnder visit opened z) (sym are) g

  pub sent_begun : (begun : ℕ → Option (Service Asked)) → ((k : ℕ) → begun_of us k ≡ begun k) → (k : ℕ) → begun_of (map run_turn vs) k ≡ begun k
  sent_begun begun h k = ap (λ z. begun_of z k) are ∙ h k

pub three_long : {A B S : Type 0} (P : ℕ → A → B → S → Type 0) (i : ℕ) (as' : List A) (bs : List B) (ss : List S) → ThreeFrom P i as' bs ss → length ss ≡ length as'
three_long P i [] [] [] p = refl
three_long P i [] [] (s ∷ ss) p = absurd p
three_long P i [] (b ∷ bs) [] p = absurd p
three_long P i [] (b ∷ bs) (s ∷ ss) p = absurd p
three_long P i (a ∷ as') [] [] p = absurd p
three_long P i (a ∷ as') [] (s ∷ ss) p = absurd p
three_long P i (a ∷ as') (b ∷ bs) [] p = absurd p
three_long P i (a ∷ as') (b ∷ bs) (s ∷ ss) p = ap suc (three_long P (suc i) as' bs ss p.1)

map_long : {A B : Type 0} (f : A → B) (xs : List A) → length (map f xs) ≡ length xs
map_long f [] = refl
map_long f (x ∷ xs) = ap suc (map_long f xs)

-- while a frame is made there is a slave for each place
pub many_serve : (lens : ℕ → Lens) (recover made : ℕ) (from : Before) (ws : List Serves) (left : List ℕ) (m : MasterNode) (octets : List ℕ) → IsPassing lens recover made from left m octets ws → length m.tour.stops.items ≡ length (map run_lead ws)
many_serve lens recover made from ws left m octets f = three_long (λ i w ks s. IsServing lens f.begun made left i w ks s) 0 ws (mails_in m) m.tour.stops.items f.each ∙ sym (map_long run_lead ws)

pub passing_same : (lens : ℕ → Lens) (recover made : ℕ) (from : Before) (ws : List Serves) (left : List ℕ) (m n : MasterNode) (octets : List ℕ) → SameTour m n → IsPassing lens recover made from left m octets ws → IsPassing lens recover made from left n octets ws
passing_same lens recover made from ws left m n octets k f = record {
  begun = f.begun;
  frame = subst (λ z. FrameMade (λ ds i a s. StopFills lens recover made f.begun (n.made % 256) left ds i a s) octets n.tour.count (map (λ w. lived_of (run_lead w)) ws) z.items) (sym k.stops)
      (subst (λ z. FrameMade (λ ds i a s. StopFills lens recover made f.begun (n.made % 256) left ds i a s) octets z (map (λ w. lived_of (run_lead w)) ws) m.tour.stops.items) (sym k.count)
      (subst (λ z. FrameMade (λ ds i a s. StopFills lens recover made f.begun (z % 256) left ds i a s) octets m.tour.count (map (λ w. lived_of (run_lead w)) ws) m.tour.stops.items) (sym k.made) f.frame));
  each = subst (λ z. ThreeFrom (λ i w ks s. IsServing lens f.begun made left i w ks s) 0 ws (mails_in n) z.items) (sym k.stops)
      (subst (λ z. ThreeFrom (λ i w ks s. IsServing lens f.begun made left i w ks s) 0 ws (map waits_of z.items) m.tour.stops.items) (sym k.posts) f.each);
  handed = subst (λ z. ThreeFrom (λ i w p s. IsHanding lens f.begun w p.work (knows s.side.hand.course)) 0 ws n.posts.items z.items) (sym k.stops)
      (subst (λ z. ThreeFrom (λ i w p s. IsHanding lens f.begun w p.work (knows s.side.hand.course)) 0 ws z.items m.tour.stops.items) (sym k.posts) f.handed);
  numbered = subst (λ z. AllBoth (λ w p. IsNumbered (length w.asked) p) ws z.items) (sym k.posts) f.numbered;
  packets = subst (λ z. HasBegun from.switch left f.begun (map run_lead ws) z) (sym k.lan) f.packets;
  listing = listed_on (served_tells ws) from.forwards left f.begun (map run_lead ws) m n k.list k.posts f.listing;
  starts = record {
    visited = f.starts.visited;
    each = subst (λ z. AllFrom (λ i w s. HasStarted lens z f.starts.visited i (begun_for f.begun (map run_lead ws) i) w.lead w.waits s) 0 ws n.tour.stops.items) (sym k.lan)
        (subst (λ z. AllFrom (λ i w s. HasStarted lens m.lan f.starts.visited i (begun_for f.begun (map run_lead ws) i) w.lead w.waits s) 0 ws z.items) (sym k.stops) f.starts.each);
  };
}

-- the master of a serving shows the same where its tour, its posts and the frame's number are the same
pub served_same : (lens : ℕ → Lens) (recover retry missed made : ℕ) (ws : List Serves) (m n : MasterNode) → n.tour ≡ m.tour → n.posts ≡ m.posts → n.made ≡ m.made → ServedShows lens recover retry m missed made ws → ServedShows lens recover retry n missed made ws
served_same lens recover retry missed made ws m n e f g x = record {
  each = subst (λ z. AllThree (λ w p s. IsServed lens recover made w p s) ws n.posts.items z.stops.items) (sym e) (subst (λ z. AllThree (λ w p s. IsServed lens recover made w p s) ws z.items m.tour.stops.items) (sym f) x.each);
  distinct = x.distinct;
  goes = subst (λ z. GoesOn z.again z.visit.items z.opened (map run_lead ws)) (sym e) x.goes;
  missed_is = ap (λ z. z.missed) e ∙ x.missed_is;
  retry_is = ap (λ z. z.retry) e ∙ x.retry_is;
  again = λ a. subst (λ z. FitAgain z.visit.items z.stops.items) (sym e) (x.again (ap (λ z. z.again) (sym e) ∙ a));
  made_is = g ∙ x.made_is;
  early = x.early;
  numbered = subst (λ z. AllBoth (λ w p. IsNumbered (length w.asked) p) ws z.items) (sym f) x.numbered;
}

-- a mail that is passed on is in hand where the life has it
pub seen_some : (p : Option Passing) → is_some (passing_seen p) ≡ is_some p
seen_some None = refl
seen_some (Some Passing.Waiting) = refl
seen_some (Some Passing.Sent) = refl
seen_some (Some Passing.Boxed) = refl
seen_some (Some Passing.Served) = refl
seen_some (Some Passing.Answered) = refl

pub waits_alike : (stand : Stand) (awaits : Bool) (p : Option Passing) (l : Life Body Asked Reply) → StandPassing stand awaits p l → stand ≡ Stand.Open → is_some l.era.passing ≡ is_some p
waits_alike stand awaits p l s e = ap (λ (z : Option _). is_some z) (subst (λ z. StandPassing z awaits p l) e s).is ∙ seen_some p

module _ {G : Ghosts InHand} (lens : ℕ → Lens) (recover made : ℕ) where
  -- BEFORE THE FIRST VISIT nothing came into hand
  first_serving : (left : List ℕ) (i : ℕ) (w : Serves) (p : Post) (s : Stop InHand G) → IsServed lens recover made w p s → IsServing lens (λ k. None) made left i w (waits_of p) s
  first_serving left i w p s h =
      let at = h.lives.planned.stands in
      record {
        hand = w.hand;
        script = h.script;
        comes = subst (λ z. ServedComes (lens w.lead.lived.spot.station).out w.lead.script w.waits w.hand w.lead.number None z (waits_of p) w.hand) (sym h.number)
            (subst (λ z. ServedComes (lens w.lead.lived.spot.station).out w.lead.script w.waits w.hand w.lead.number None w.lead.number z w.hand) (sym h.waits) ServedComes.none);
        still = λ e. refl;
        free = λ q e. absurd (cc);
        short = h.short;
        place = at.place_is;
        room = ap (λ z. (lens z).out) (sym at.station_is) ∙ h.lives.planned.out_is;
        passing = λ l e. Mailed.stand_same s.stand _ s.side.passing w.lead.lived.life l e h.passing;
        kept = h.kept;
        counts = h.counts;
        pace = h.pace;
        fits = h.fits;
      }

  pub firsts_serving : (left : List ℕ) (i : ℕ) (ws : List Serves) (ps : List Post) (ss ts : List (Stop InHand G)) → AllThree (λ w p s. IsServed lens recover made w p s) ws ps ss → EachPair (λ s t. Alike s t) ss ts →
      ThreeFrom (λ j w ks s. IsServing lens (λ k. None) made left j w ks s) i ws (map waits_of ps) ts
  firsts_serving left i [] [] [] [] h k = tt
  firsts_serving left i [] [] [] (t ∷ ts) h k = absurd k
  firsts_serving left i [] [] (s ∷ ss) ts h k = absurd h
  firsts_serving left i [] (p ∷ ps) [] ts h k = absurd h
  firsts_serving left i [] (p ∷ ps) (s ∷ ss) ts h k = absurd h
  firsts_serving left i (w ∷ ws) [] [] ts h k = absurd h
  firsts_serving left i (w ∷ ws) [] (s ∷ ss) ts h k = absurd h
  firsts_serving left i (w ∷ ws) (p ∷ ps) [] ts h k = absurd h
  firsts_serving left i (w ∷ ws) (p ∷ ps) (s ∷ ss) [] h k = absurd k
  firsts_serving left i (w ∷ ws) (p ∷ ps) (s ∷ ss) (t ∷ ts) h k =
      (serving_alike lens (λ n. None) made left i w (waits_of p) s t (first_serving left i w p s h.0) k.0, firsts_serving left (suc i) ws ps ss ts h.1 k.1)

-- what a post has in hand, where nothing came
first_handing : (lens : ℕ → Lens) (w : Serves) (work : Work) (known : Bool) → IsHanded work w.hand w.lead.lived.life → HasInHand (speech_at lens w.lead.lived.spot) known w.lead.lived.life w.lead.lived.life.stand work → IsHanding lens (λ k. None) w work known
first_handing lens w work known h i = record {
  handed = λ l b. record {
    named = λ key e. (let n = h.named key e in
        record { opened = b.stand ∙ n.opened; passing = ap (λ (z : Option _). is_some z) b.passing ∙ n.passing; alone = b.duty ∙ n.alone; passed = n.passed; is = n.is; key_is = n.key_is });
    only = λ n t. h.only (ap is_left (sym b.stand) ∙ n) (ap (λ (z : Option _). is_some z) (sym b.passing) ∙ t);
  };
  old = work;
  was = i;
  came = refl;
}

module _ {G : Ghosts InHand} (lens : ℕ → Lens) (recover made : ℕ) where
  pub firsts_handing : (i : ℕ) (ws : List Serves) (ps : List Post) (ss ts : List (Stop InHand G)) → AllThree (λ w p s. IsServed lens recover made w p s) ws ps ss → EachPair (λ s t. Alike s t) ss ts →
      ThreeFrom (λ i w p s. IsHanding lens (λ k. None) w p.work (knows s.side.hand.course)) i ws ps ts
  firsts_handing i [] [] [] [] h k = tt
  firsts_handing i [] [] [] (t ∷ ts) h k = absurd k
  firsts_handing i [] [] (s ∷ ss) ts h k = absurd h
  firsts_handing i [] (p ∷ ps) [] ts h k = absurd h
  firsts_handing i [] (p ∷ ps) (s ∷ ss) ts h k = absurd h
  firsts_handing i (w ∷ ws) [] [] ts h k = absurd h
  firsts_handing i (w ∷ ws) [] (s ∷ ss) ts h k = absurd h
  firsts_handing i (w ∷ ws) (p ∷ ps) [] ts h k = absurd h
  firsts_handing i (w ∷ ws) (p ∷ ps) (s ∷ ss) [] h k = absurd k
  firsts_handing i (w ∷ ws) (p ∷ ps) (s ∷ ss) (t ∷ ts) h k =
      (subst (λ z. IsHanding lens (λ k. None) w p.work z) (sym k.0.known) (first_handing lens w p.work (knows s.side.hand.course) h.0.handed h.0.inhand), firsts_handing (suc i) ws ps ss ts h.1 k.1)

-- the mails that still wait fit as they did
came_fits : (R : Keyed → Type 0) (room : ℕ) (script : List Plan.Service) (waits left : List Keyed) (hand behind : Option Passed) (n m : ℕ) (b : Option (Service Asked)) → ServedComes room script waits hand n b m left behind → All R waits → All R left
came_fits R room script waits left hand behind n m b ServedComes.none a = a
came_fits R room script waits left hand behind n m b (ServedComes.own s k c) a = a
came_fits R room script waits left hand behind n m b (ServedComes.mail k rest e) a = All-tail R k rest (subst (λ z. All R z) e a)

module _ {G : Ghosts InHand} (lens : ℕ → Lens) (recover made : ℕ) (begun : ℕ → Option (Service Asked)) (octets : List ℕ) (ds : List Raw.Datagram) (is : seen lens octets ≡ datagrams_seen lens ds) where
  -- a slave in the frame that was made
  abbrev pub Sends : Lived Asked Reply → Lived Asked Reply → Stop InHand G → Type 0
  Sends a b s = StopSent (speech_at lens a.spot) acknowledged is_followed is_passed made begun lens recover (side_shows lens recover s a.spot) s.side.station s.place s.start s.stand s.spare s.side.out.len (in_area_len s.side.inn) s.side.carried s.under s.at ds a b

  abbrev turn_so : Serves → Option Passed → Lived Asked Reply → Post → Stop InHand G → ServedTurn
  turn_so w hand b p s = record {
    turn = record { script = w.lead.script; number = s.side.hand.laying.number; begun = begun w.lead.lived.spot.place; lived = b; share = record { under = s.under; at = s.at } };
    pace = w.pace;
    asked = w.asked;
    waits = waits_of p;
    hand = hand;
    kept = w.kept;
    counts = w.counts;
  }

  turn_is : (left : List ℕ) (i : ℕ) (w : Serves) (b : Lived Asked Reply) (p : Post) (s : Stop InHand G) (h : IsServing lens begun made left i w (waits_of p) s) → Sends w.lead.lived b s → IsServedTurn lens made ds w (turn_so w h.hand b p s)
  turn_is left i w b p s h t = record {
    script = refl;
    comes = h.comes;
    next = t.next;
    begun = t.wish;
    took = took_of made w.lead.lived.life.era.account b.life.era.account t.next.pick.begin (begun w.lead.lived.spot.place) t.wish t.took;
    asked = t.asked;
    same = refl;
    pace = refl;
    kept = refl;
    counts = refl;
  }

  under_is : (left : List ℕ) (i : ℕ) (w : Serves) (b : Lived Asked Reply) (p : Post) (s : Stop InHand G) (h : IsServing lens begun made left i w (waits_of p) s) → IsHanding lens begun w p.work (knows s.side.hand.course) → Sends w.lead.lived b s → IsServedUnder lens recover octets made (turn_so w h.hand b p s) p s
  under_is left i w b p s h o t =
      let a = w.lead.lived in
      let known = knows s.side.hand.course in
      record {
        served = record {
          lives = subst (λ z. Lived_as z) (sym t.next.spot) t.lives;
          script = h.script;
          number = refl;
          short = h.short;
          passing = h.passing b.life (next_passing (speech_at lens a.spot) made a.life b.life (begun a.spot.place) t.next.pick t.next.life t.wish t.took h.free);
          kept = subst (λ z. LifeKept w.kept z) (sym t.next.life) (next_life (speech_at lens a.spot) acknowledged is_followed is_passed made w.kept a.life t.next.pick h.kept);
          counts = h.counts;
          pace = h.pace;
          waits = refl;
          fits = subst (λ (z : Spot). All (λ k. MayPass (lens z.station).out k) (waits_of p)) (sym t.next.spot)
              (came_fits (λ k. MayPass (lens a.spot.station).out k) (lens a.spot.station).out w.lead.script w.waits (waits_of p) w.hand h.hand w.lead.number s.side.hand.laying.number (begun a.spot.place) h.comes h.fits);
          handed = subst (λ z. IsHanded p.work z b.life)
              (sym (hand_is (lens a.spot.station).out w.lead.script w.waits (waits_of p) w.hand h.hand w.lead.number s.side.hand.laying.number (begun a.spot.place) h.comes))
              (o.handed b.life (begun_is (speech_at lens a.spot) made a.life b.life (begun a.spot.place) t.next.pick t.next.life t.wish t.took h.free));
          inhand = subst (λ (z : Spot). HasInHand (speech_at lens z) known b.life b.life.stand p.work) (sym t.next.spot)
              (subst (λ (z : Life Body Asked Reply). HasInHand (speech_at lens a.spot) known z z.stand p.work) (sym t.next.life)
              (next_inhand (record { out = (lens a.spot.station).out; back = (lens a.spot.station).back }) made a.life known known o.old p.work t.next.pick o.was (λ none. refl) (subst (λ z. WorkOf z o.old p.work) (sym t.wish) o.came)
              (subst (λ z. BeginsFree a.life z) (sym t.wish) h.free) (subst (λ z. Counts made t.next.pick.begin a.life z) t.next.life t.took)));
        };
        under = refl;
        at = refl;
        way = subst (λ z. StandUnder lens s.side.station s.at s.under s.side.carried s.stand b.life z) (sym is) t.way;
      }
    where
      Lived_as : Spot → Type 0
      Lived_as spot = StopLives lens recover (side_shows lens recover s spot) s.side.station s.place s.start s.stand s.spare s.side.out.len (in_area_len s.side.inn) b

  -- ALL OF THEM
  pub record Served (ws : List Serves) (bs : List (Lived Asked Reply)) (ps : List Post) (ss : List (Stop InHand G)) : Type 0 where
    pub sent : List ServedTurn
    pub turns_are : map run_turn sent ≡ turns lens recover made begun octets ds is (map run_lead ws) bs ss
    pub each : AllServedTurn lens made ds ws sent
    pub under : AllThree (λ v p s. IsServedUnder lens recover octets made v p s) sent ps ss
    pub numbered : AllBoth (λ v p. IsNumbered (length v.asked) p) sent ps

  pub served_all : (left : List ℕ) (i : ℕ) (ws : List Serves) (bs : List (Lived Asked Reply)) (ps : List Post) (ss : List (Stop InHand G)) → ThreeFrom (λ j w ks s. IsServing lens begun made left j w ks s) i ws (map waits_of ps) ss → ThreeFrom (λ j w p s. IsHanding lens begun w p.work (knows s.side.hand.course)) i ws ps ss →
      AllBoth (λ w p. IsNumbered (length w.asked) p) ws ps →
      AllThree (λ a b s. Sends a b s) (map (λ w. lived_of (run_lead w)) ws) bs ss → Served ws bs ps ss
  served_all left i [] [] [] [] h o k t = record { sent = []; turns_are = refl; each = tt; under = tt; numbered = tt }
  served_all left i [] (b ∷ bs) ps ss h o k t = absurd t
  served_all left i [] [] (p ∷ ps) [] h o k t = absurd h
  served_all left i [] [] (p ∷ ps) (s ∷ ss) h o k t = absurd h
  served_all left i [] [] [] (s ∷ ss) h o k t = absurd t
  served_all left i (w ∷ ws) [] ps ss h o k t = absurd t
  served_all left i (w ∷ ws) (b ∷ bs) ps [] h o k t = absurd t
  served_all left i (w ∷ ws) (b ∷ bs) [] (s ∷ ss) h o k t = absurd h
  served_all left i (w ∷ ws) (b ∷ bs) (p ∷ ps) (s ∷ ss) h o k t =
      let r = served_all left (suc i) ws bs ps ss h.1 o.1 k.1 t.1 in
      let v = turn_so w h.0.hand b p s in
      record { sent = v ∷ r.sent; turns_are = ap (λ z. run_turn v ∷ z) r.turns_are; each = (turn_is left i w b p s h.0 t.0, r.each); under = (under_is left i w b p s h.0 o.0 t.0, r.under); numbered = (k.0, r.numbered) }

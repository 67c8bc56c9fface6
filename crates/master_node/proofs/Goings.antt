-- Where a tour goes on behind a frame.
use Rattle.std.proofs.Common.{◌≡◌, ℕ, zero, suc, ◌+◌, ◌<◌, ◌≤◌, Bool, true, false, List, [], ◌∷◌, refl, sym, ap, ◌∙◌, subst, arith, length}
use Rattle.std.specs.Prelude.{map, ◌&&◌, not, nat_lt, if◌then◌else◌}
use Rattle.std.proofs.lemmas.Bool.{ltb-true, ltb-false}
use Rattle.life_runs.specs.of_frame_view.View.{Lens}
use Rattle.life_runs.specs.of_frame_view.Seen.{seen}
use Rattle.life_runs.specs.of_frame_view.Frames.{Share}
use Rattle.life_runs.specs.of_frame_view.Shares.{Lived, came_at, given_where}
use Rattle.life_runs.specs.of_life_model.Lives
use Rattle.life_runs.specs.of_life_model.Lives.{Life, Spot, life_back, life_lost}
use Rattle.life_runs.specs.Led.{Turn, Exchanged, speech_at, life_behind, led_behind}
use Rattle.life_runs.specs.of_link_mails.Body.{Body}
use Rattle.life_runs.specs.of_master_duty.Reply.{Reply}
use Rattle.life_runs.specs.of_master_hand.Spoken.{Asked, acknowledged, is_followed, is_passed}
use Rattle.life_runs.specs.of_master_tour.Goes.{holds_at, opened_behind}
use Rattle.life_runs.specs.of_master_tour.Stands.{is_opening}
use Rattle.life_runs.specs.of_segment_model.Slaves.{Datagram}
use Rattle.life_runs.specs.of_segment_ring.declared.wire.Fate.{Fate}
use Rattle.life_runs.specs.of_segment_ring.declared.wire.Fate.TheVariants.{Pass, Lost}
use Rattle.master_node.specs.Shows.{is_led, is_live_lead, is_opening_lead, is_live_turn, is_opening_turn, is_carried, HoldsFirst, ComeAgain, GoesUnder}

-- a test that each place keeps
pub kept_at : {A B : Type 0} (f : A → B) (t : A → Bool) (r : B → Bool) → ((a : A) → t a ≡ true → r (f a) ≡ true) → (as' : List A) (k : ℕ) → holds_at t as' k ≡ true → holds_at r (map f as') k ≡ true
kept_at f t r h [] k e = absurd (cc)
kept_at f t r h (a ∷ as') zero e = h a e
kept_at f t r h (a ∷ as') (suc k) e = kept_at f t r h as' k e

pub kept_apart : {A B : Type 0} (f : A → B) (t c : A → Bool) (r : B → Bool) → ((a : A) → t a ≡ true → c a ≡ false → r (f a) ≡ true) → (as' : List A) (k : ℕ) → holds_at t as' k ≡ true → holds_at c as' k ≡ false → holds_at r (map f as') k ≡ true
kept_apart f t c r h [] k e n = absurd (cc)
kept_apart f t c r h (a ∷ as') zero e n = h a e n
kept_apart f t c r h (a ∷ as') (suc k) e n = kept_apart f t c r h as' k e n

pub map_length : {A B : Type 0} (f : A → B) (as' : List A) → length (map f as') ≡ length as'
map_length f [] = refl
map_length f (a ∷ as') = ap suc (map_length f as')

module _ (lens : ℕ → Lens) (recover retry : ℕ) where
  -- an opening of which the frame has no datagram goes on as it was
  back_opening : (made : ℕ) (spot : Spot) (back : List (Datagram Body)) (at : ℕ) (l : Life Body Asked Reply) (under : Bool) (stand : Lives.Stand) → l.stand ≡ stand → is_opening stand ≡ true → under ≡ false →
      is_opening (life_back (speech_at lens spot) acknowledged is_followed is_passed made spot [] back (came_at under at back) l stand).stand ≡ true
  back_opening made spot back at l false (Lives.Stand.Opens o) s e u = ap is_opening s
  back_opening made spot back at l false Lives.Stand.Open s e u = absurd (cc)
  back_opening made spot back at l false Lives.Stand.Gone s e u = absurd (cc)
  back_opening made spot back at l true stand s e u = absurd (cc)

  lost_stays : (made : ℕ) (spot : Spot) (sent : List (Datagram Body)) (l : Life Body Asked Reply) (stand : Lives.Stand) → l.stand ≡ stand → (life_lost (speech_at lens spot) acknowledged is_followed is_passed spot [] sent l stand).stand ≡ stand
  lost_stays made spot sent l (Lives.Stand.Opens o) s = s
  lost_stays made spot sent l Lives.Stand.Open s = s
  lost_stays made spot sent l Lives.Stand.Gone s = s

  not_given : (gives under : Bool) (made : ℕ) (spot : Spot) (l : Life Body Asked Reply) → (gives && under) ≡ false → given_where (gives && under) recover spot made l ≡ l
  not_given gives under made spot l e = ap (λ z. given_where z recover spot made l) e

  and_false : (gives under : Bool) → under ≡ false → (gives && under) ≡ false
  and_false true under e = e
  and_false false under e = refl

  behind_opening : (gives : Bool) (made : ℕ) (f : Exchanged) (fate : Fate) (l : Lived Asked Reply) (share : Share) → is_opening l.life.stand ≡ true → share.under ≡ false → is_opening (life_behind lens recover retry gives made f fate l share).life.stand ≡ true
  behind_opening gives made f Pass l share e u = back_opening made l.spot (seen lens f.back) share.at l.life share.under l.life.stand refl e u
  behind_opening gives made f (Lost after) l share e u =
      let x = life_lost (speech_at lens l.spot) acknowledged is_followed is_passed l.spot [] (seen lens f.sent) l.life l.life.stand in
      ap (λ (z : Life Body Asked Reply). is_opening z.stand) (not_given gives share.under made l.spot x (and_false gives share.under u)) ∙ ap is_opening (lost_stays made l.spot (seen lens f.sent) l.life l.life.stand refl) ∙ e

  pub led_opening : (gives : Bool) (made : ℕ) (f : Exchanged) (u : Turn) → is_opening_turn u ≡ true → is_carried u ≡ false → is_opening_lead (led_behind lens recover retry gives made f u) ≡ true
  led_opening gives made f u e n = behind_opening gives made f f.fate u.lived u.share e n

  -- and where no slave is given up each stands as it did
  stands_kept : (made : ℕ) (f : Exchanged) (fate : Fate) (after : ℕ) (l : Lived Asked Reply) (share : Share) → fate ≡ Lost after → (life_behind lens recover retry false made f fate l share).life.stand ≡ l.life.stand
  stands_kept made f (Lost n) after l share e = lost_stays made l.spot (seen lens f.sent) l.life l.life.stand refl
  stands_kept made f Pass after l share e = absurd (cc)

  pub led_stands : (made : ℕ) (f : Exchanged) (after : ℕ) (u : Turn) → f.fate ≡ Lost after → (led_behind lens recover retry false made f u).lived.life.stand ≡ u.lived.life.stand
  led_stands made f after u e = stands_kept made f f.fate after u.lived u.share e

  -- BEHIND A FRAME those from the one that is brought up on are in their first bring-up
  module _ (gives : Bool) (made : ℕ) (f : Exchanged) where
    later : (opened : ℕ) (visit : List ℕ) (us : List Turn) → GoesUnder visit opened us → (k : ℕ) → opened < k → k < length us → holds_at is_opening_lead (map (led_behind lens recover retry gives made f) us) k ≡ true
    later opened visit us g k a b =
        kept_apart (led_behind lens recover retry gives made f) is_opening_turn is_carried is_opening_lead (λ u e n. led_opening gives made f u e n) us k (g.ahead k (omega (arith, a)) b) (g.apart k a b)

    pub ahead_behind : {S : Type 0} (opens : S → Bool) (opened : ℕ) (visit : List ℕ) (us : List Turn) (ts : List S) → GoesUnder visit opened us → length ts ≡ length us →
        ((k : ℕ) → holds_at opens ts k ≡ holds_at is_opening_lead (map (led_behind lens recover retry gives made f) us) k) →
        (k : ℕ) → opened_behind opens opened ts ≤ k → k < length (map (led_behind lens recover retry gives made f) us) → holds_at is_opening_lead (map (led_behind lens recover retry gives made f) us) k ≡ true
    ahead_behind {S} opens opened visit us ts g n h k a b = go (nat_lt opened (length ts)) refl (holds_at opens ts opened) refl
      where
        goal : Type 0
        goal = holds_at is_opening_lead (map (led_behind lens recover retry gives made f) us) k ≡ true

        few : k < length us
        few = let e = map_length (led_behind lens recover retry gives made f) us in omega (arith, b, e)

        from : (x y : Bool) → nat_lt opened (length ts) ≡ x → holds_at opens ts opened ≡ y → (if x && not y then opened + 1 else opened) ≤ k
        from x y p q = subst (λ z. (if z && not y then opened + 1 else opened) ≤ k) p (subst (λ z. (if nat_lt opened (length ts) && not z then opened + 1 else opened) ≤ k) q a)

        here : (z : Bool) → nat_lt opened k ≡ z → opened ≤ k → holds_at opens ts opened ≡ true → goal
        here true e l q = later opened visit us g k (ltb-true opened k e) few
        here false e l q =
            let m = ltb-false opened k e in
            let same : opened ≡ k = omega (arith, l, m) in
            subst (λ z. holds_at is_opening_lead (map (led_behind lens recover retry gives made f) us) z ≡ true) same (sym (h opened) ∙ q)

        go : (x : Bool) → nat_lt opened (length ts) ≡ x → (y : Bool) → holds_at opens ts opened ≡ y → goal
        go true p false q = let l = from true false p q in later opened visit us g k (omega (arith, l)) few
        go true p true q = here (nat_lt opened k) refl (from true true p q) q
        go false p y q = let l = from false y p q in let m = ltb-false opened (length ts) p in absurd (omega (arith, l, m, n, few))

  -- BEHIND A LOST FRAME by which no slave is given up
  module _ (made : ℕ) (f : Exchanged) (after : ℕ) (is : f.fate ≡ Lost after) where
    pub ahead_again : (opened : ℕ) (visit : List ℕ) (us : List Turn) → GoesUnder visit opened us → (k : ℕ) → opened ≤ k → k < length (map (led_behind lens recover retry false made f) us) → holds_at is_opening_lead (map (led_behind lens recover retry false made f) us) k ≡ true
    ahead_again opened visit us g k a b =
        let e = map_length (led_behind lens recover retry false made f) us in
        kept_at (led_behind lens recover retry false made f) is_opening_turn is_opening_lead (λ u t. ap is_opening (led_stands made f after u is) ∙ t) us k (g.ahead k a (omega (arith, b, e)))

    first_again : (us : List Turn) (visit : List ℕ) → HoldsFirst is_live_turn us visit → HoldsFirst is_live_lead (map (led_behind lens recover retry false made f) us) visit
    first_again us [] h = absurd h
    first_again us (p ∷ ps) h = kept_at (led_behind lens recover retry false made f) is_live_turn is_live_lead (λ u t. ap is_led (led_stands made f after u is) ∙ t) us p h

    pub comes_again : (opened : ℕ) (visit : List ℕ) (us : List Turn) → GoesUnder visit opened us → ComeAgain is_live_lead visit opened (map (led_behind lens recover retry false made f) us)
    comes_again opened visit us g = record {
      once = g.comes.once;
      first = first_again us visit g.comes.first;
      alone = λ l k e. g.comes.alone (let n = map_length (led_behind lens recover retry false made f) us in omega (arith, l, n)) k e;
    }

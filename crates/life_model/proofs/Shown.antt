-- A return to Init that a state service wanted is answered by the first status that shows the state which it opens.
use Rattle.std.proofs.Common.{◌≡◌, ℕ, zero, suc, ◌+◌, ◌-◌, ◌<◌, ◌==◌, ◌&&◌, ◌||◌, Bool, true, false, not, Option, Some, None, List, [], ◌∷◌, ◌++◌, map, take, drop, length, refl, ap, ap₂, ◌∙◌, subst, arith, if◌then◌else◌}
use Rattle.std.proofs.lemmas.List.{drop-append-le}
use Rattle.state_model.specs.of_link_model.Mails.{news}
use Rattle.state_model.specs.of_link_model.Frames.{Ask, Gram}
use Rattle.state_model.specs.of_segment_model.Slaves.{Datagram, Found, grams}
use Rattle.state_model.specs.of_segment_model.Record.{Frame, News, Kept, first_end, or_later, frame_news, news_each, kept_after, kept_all, nothing_kept, is_for, all_told, gram_news, found_news, back_news, last_heard}
use Rattle.state_model.specs.of_segment_model.Ends.{Outcome}
use Rattle.life_model.specs.Lives.{Spot, is_shown}
use Rattle.life_model.specs.Answers.{all_news, between, shown_ends}
use Rattle.life_model.specs.Chain.{any_shows, NoneShow, IsShownFirst}
use Rattle.life_model.proofs.Lists.{each-take, each-drop}

abbrev or_else : {X : Type 0} → Option X → Option X → Option X
or_else None o = o
or_else (Some r) o = Some r

abbrev shown_by : {R : Type 0} → Bool → Option (Outcome R)
shown_by b = if b then Some Outcome.Reached else None

module _ (M R : Type 0) (station state : ℕ) where
  abbrev shown : List (News M) → Option (Outcome R)
  shown ns = shown_ends state ns

  shown-append : (ns ms : List (News M)) → shown (ns ++ ms) ≡ or_else (shown ns) (shown ms)
  shown-append [] ms = refl
  shown-append (News.Status s None ∷ ns) ms = go (s == state) (shown-append ns ms)
    where
      go : (b : Bool) → shown (ns ++ ms) ≡ or_else (shown ns) (shown ms) → (if b then Some Outcome.Reached else shown (ns ++ ms)) ≡ or_else (if b then Some Outcome.Reached else shown ns) (shown ms)
      go true rest = refl
      go false rest = rest
  shown-append (News.Status s (Some code) ∷ ns) ms = shown-append ns ms
  shown-append (News.Told m ∷ ns) ms = shown-append ns ms
  shown-append (News.Written ∷ ns) ms = shown-append ns ms
  shown-append (News.Heard m ∷ ns) ms = shown-append ns ms
  shown-append (News.NothingRead ∷ ns) ms = shown-append ns ms
  shown-append (News.BoxFull full ∷ ns) ms = shown-append ns ms

  told_none : (ms : List M) → shown (map (λ m. News.Told m) ms) ≡ None
  told_none [] = refl
  told_none (m ∷ ms) = told_none ms

  heard_none : (ms : List M) → shown (map (λ m. News.Heard m) ms) ≡ None
  heard_none [] = refl
  heard_none (m ∷ ms) = heard_none ms

  -- an access of a mailbox shows no AL state
  gram_none : (last : ℕ) (ask : Ask M) (g : Gram M) → shown (gram_news last ask g) ≡ None
  gram_none last (Ask.WriteMail m) g = go (g.counter == 0)
    where
      go : (b : Bool) → shown (if b then [] else News.Written ∷ []) ≡ None
      go true = refl
      go false = refl
  gram_none last Ask.ReadMail g = go (g.counter == 0)
    where
      go : (b : Bool) → shown (if b then News.NothingRead ∷ [] else map (λ m. News.Heard m) (news last g.mail)) ≡ None
      go true = refl
      go false = heard_none (news last g.mail)
  gram_none last (Ask.WriteRequest bit) g = refl
  gram_none last Ask.ReadAcknowledge g = refl
  gram_none last Ask.Other g = refl

  mine_none : (b : Bool) (last : ℕ) (ask : Ask M) (g : Gram M) → shown (if b then gram_news last ask g else []) ≡ None
  mine_none true last ask g = gram_none last ask g
  mine_none false last ask g = refl

  found_shows : (found : Option Found) → shown (found_news found) ≡ shown_by (is_shown state found)
  found_shows None = refl
  found_shows (Some (Found.Full full)) = refl
  found_shows (Some (Found.State s None)) = refl
  found_shows (Some (Found.State s (Some code))) = refl

  access_shows : (b c : Bool) (found : Option Found) → shown (if b then (if c then [] else found_news found) else []) ≡ shown_by (b && not c && is_shown state found)
  access_shows false c found = refl
  access_shows true true found = refl
  access_shows true false found = found_shows found

  -- WHAT CAME BACK shows it where one of its datagrams does
  back_shows : (last : ℕ) (ds : List (Datagram M)) → shown (back_news station last ds) ≡ shown_by (any_shows station state ds)
  back_shows last [] = refl
  back_shows last (d ∷ ds) =
      let mine = if d.gram.station == station then gram_news last d.gram.ask d.gram else [] in
      let access = if is_for station d.address then (if d.counter == 0 then [] else found_news d.found) else [] in
      let next = if d.gram.station == station then last_heard last d.gram.ask d.gram else last in
      shown-append (mine ++ access) (back_news station next ds)
      ∙ ap₂ or_else (shown-append mine access ∙ ap (λ o. or_else o (shown access)) (mine_none (d.gram.station == station) last d.gram.ask d.gram) ∙ access_shows (is_for station d.address) (d.counter == 0) d.found) (back_shows next ds)
      ∙ both (is_for station d.address && not (d.counter == 0) && is_shown state d.found) (any_shows station state ds)
    where
      both : (b c : Bool) → or_else (shown_by {R = R} b) (shown_by c) ≡ shown_by (b || c)
      both true c = refl
      both false c = refl

  frame_shows : (kept : Kept) (f : Frame M) → shown (frame_news station kept f) ≡ shown_by (any_shows station state f.back)
  frame_shows kept f =
      let told = all_told station kept.told (grams f.sent) in
      shown-append (map (λ m. News.Told m) told) (back_news station kept.heard f.back) ∙ ap (λ o. or_else o (shown (back_news station kept.heard f.back))) (told_none told) ∙ back_shows kept.heard f.back

  -- frames that don't show it complete nothing
  pub none_shown : (frame : ℕ) (kept : Kept) (before : List (News M)) (gs : List (Frame M)) → shown before ≡ None → NoneShow station state gs → first_end shown frame before (news_each station kept gs) ≡ None
  none_shown frame kept before [] none quiet = refl
  none_shown frame kept before (g ∷ gs) none quiet =
      let still : shown (before ++ frame_news station kept g) ≡ None = shown-append before (frame_news station kept g) ∙ ap₂ or_else none (frame_shows kept g ∙ ap shown_by quiet.0) in
      ap (λ o. or_later o frame (first_end shown (suc frame) (before ++ frame_news station kept g) (news_each station (kept_after station kept g) gs))) still
      ∙ none_shown (suc frame) (kept_after station kept g) (before ++ frame_news station kept g) gs still quiet.1

  -- the first that does completes it
  first_shown : (frame : ℕ) (kept : Kept) (before : List (News M)) (gs : List (Frame M)) (f : Frame M) (rest : List (Frame M)) → shown before ≡ None → NoneShow station state gs → any_shows station state f.back ≡ true →
      first_end shown frame before (news_each station kept (gs ++ f ∷ rest)) ≡ Some (Outcome.Reached, frame + length gs)
  first_shown frame kept before [] f rest none quiet shows =
      ap (λ o. or_later o frame (first_end shown (suc frame) (before ++ frame_news station kept f) (news_each station (kept_after station kept f) rest)))
      (shown-append before (frame_news station kept f) ∙ ap₂ or_else none (frame_shows kept f ∙ ap shown_by shows))
      ∙ ap (λ n. Some (Outcome.Reached, n)) (let same : frame ≡ frame + 0 = omega arith in same)
  first_shown frame kept before (g ∷ gs) f rest none quiet shows =
      let still : shown (before ++ frame_news station kept g) ≡ None = shown-append before (frame_news station kept g) ∙ ap₂ or_else none (frame_shows kept g ∙ ap shown_by quiet.0) in
      ap (λ o. or_later o frame (first_end shown (suc frame) (before ++ frame_news station kept g) (news_each station (kept_after station kept g) (gs ++ f ∷ rest)))) still
      ∙ first_shown (suc frame) (kept_after station kept g) (before ++ frame_news station kept g) gs f rest still quiet.1 shows
      ∙ ap (λ n. Some (Outcome.Reached, n)) (let same : suc frame + length gs ≡ frame + suc (length gs) = omega arith in same)

  module _ (spot : Spot) (here : spot.station ≡ station) (fs : List (Frame M)) where
    -- a part of all news is the news of a part
    part_news : (a b : ℕ) → between a b (all_news spot fs) ≡ news_each spot.station (kept_all spot.station nothing_kept (take a fs)) (between a b fs)
    part_news a b = ap (take (b - a)) (each-drop spot.station a nothing_kept fs) ∙ each-take spot.station (b - a) (kept_all spot.station nothing_kept (take a fs)) (drop a fs)

    pub none_between : (a b : ℕ) → NoneShow station state (between a b fs) → first_end shown a [] (between a b (all_news spot fs)) ≡ None
    none_between a b quiet =
        ap (first_end shown a []) (part_news a b) ∙ ap (λ n. first_end shown a [] (news_each n (kept_all spot.station nothing_kept (take a fs)) (between a b fs))) here
        ∙ none_shown a (kept_all spot.station nothing_kept (take a fs)) [] (between a b fs) refl quiet

    pub shown_between : (cleared opened c : ℕ) → IsShownFirst station state cleared opened fs → opened < c → first_end shown (suc cleared) [] (between (suc cleared) c (all_news spot fs)) ≡ Some (Outcome.Reached, opened)
    shown_between cleared opened c s less =
        let a = suc cleared in
        let kept = kept_all spot.station nothing_kept (take a fs) in
        let later = s.later in
        let at = s.at in
        let front = drop a s.before in
        let size : length front ≡ opened - a = dropped a s.before ∙ ap (λ n. n - a) at in
        let dropped_is : drop a fs ≡ front ++ s.frame ∷ s.behind = ap (drop a) s.all ∙ drop-append-le a s.before (s.frame ∷ s.behind) (omega (arith, later, at)) in
        let first : between a opened fs ≡ front = ap (take (opened - a)) dropped_is ∙ first_part (opened - a) front (s.frame ∷ s.behind) size in
        let all : between a c fs ≡ front ++ s.frame ∷ take (c - suc opened) s.behind =
        ap (take (c - a)) dropped_is ∙ ap (λ n. take n (front ++ s.frame ∷ s.behind)) (let same : c - a ≡ opened - a + suc (c - suc opened) = omega (arith, less, later) in same)
        ∙ past (opened - a) (c - suc opened) front s.frame s.behind size in
        ap (first_end shown a []) (part_news a c) ∙ ap (λ n. first_end shown a [] (news_each n kept (between a c fs))) here ∙ ap (λ l. first_end shown a [] (news_each station kept l)) all
        ∙ first_shown a kept [] front s.frame (take (c - suc opened) s.behind) refl (subst (NoneShow station state) first s.none) s.shows
        ∙ ap (λ n. Some (Outcome.Reached, n)) (let same : a + length front ≡ opened = omega (arith, size, later) in same)
      where
        dropped : (n : ℕ) (xs : List (Frame M)) → length (drop n xs) ≡ length xs - n
        dropped zero xs = omega arith
        dropped (suc n) [] = omega arith
        dropped (suc n) (x ∷ xs) = dropped n xs ∙ (let same : length xs - n ≡ suc (length xs) - suc n = omega arith in same)

        first_part : (n : ℕ) (xs ys : List (Frame M)) → length xs ≡ n → take n (xs ++ ys) ≡ xs
        first_part zero [] ys e = refl
        first_part zero (x ∷ xs) ys e = absurd (omega (arith, e))
        first_part (suc n) [] ys e = absurd (omega (arith, e))
        first_part (suc n) (x ∷ xs) ys e = ap (λ l. x ∷ l) (first_part n xs ys (omega (arith, e)))

        past : (n m : ℕ) (xs : List (Frame M)) (y : Frame M) (ys : List (Frame M)) → length xs ≡ n → take (n + suc m) (xs ++ y ∷ ys) ≡ xs ++ y ∷ take m ys
        past zero m [] y ys e = ap (λ k. take k (y ∷ ys)) (let same : 0 + suc m ≡ suc m = omega arith in same)
        past zero m (x ∷ xs) y ys e = absurd (omega (arith, e))
        past (suc n) m [] y ys e = absurd (omega (arith, e))
        past (suc n) m (x ∷ xs) y ys e = ap (λ k. take k (x ∷ (xs ++ y ∷ ys))) (let same : suc n + suc m ≡ suc (n + suc m) = omega arith in same) ∙ ap (λ l. x ∷ l) (past n m xs y ys (omega (arith, e)))

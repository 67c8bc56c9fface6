-- What the counts of epochs are of, one thing after the other.
use Rattle.std.proofs.Common.{◌≡◌, ◌<◌, ◌≤◌, ℕ, zero, suc, Bool, true, false, List, [], ◌∷◌, ◌++◌, length, refl, sym, ap, ◌∙◌, subst, arith}
use Rattle.std.specs.Prelude.{◌&&◌, ◌||◌, not, nat_le, nat_lt, if◌then◌else◌, Option, Some, None, slice_get, slice_set}
use Rattle.std.proofs.lemmas.Bool.{le-leb, lt-leb, le-ltb, ltb-false}
use Rattle.run_book.specs.declared.book.Answer.{Answer}
use Rattle.run_book.specs.declared.book.Answer.TheVariants.{Replied, InDoubt, NotSent}
use Rattle.run_book.specs.declared.book.Begun.{Begun}
use Rattle.run_book.specs.declared.book.Epoch.{Epoch}
use Rattle.run_book.specs.declared.book.Reply.{Reply}
use Rattle.run_notes.specs.Counted.{AreCounted, CountsBy, Past, answered_by, begun_frames, gave_within, heard_frames, is_over, newest_over, up_to}
use Rattle.run_notes.specs.Notes.{count, first_row}
use Rattle.run_notes.specs.Rising.{IsBehind, RisesTo, behind_answer}
use Rattle.run_notes.specs.Times.{AllBelow}

-- ---- numbers

pub below_up : (low high : ℕ) (ns : List ℕ) → low ≤ high → AllBelow low ns → AllBelow high ns
below_up low high [] l h = tt
below_up low high (n ∷ ns) l h = (let a = h.0 in omega (arith, a, l), below_up low high ns l h.1)

pub below_push : (high : ℕ) (ns : List ℕ) (n : ℕ) → n < high → AllBelow high ns → AllBelow high (ns ++ n ∷ [])
below_push high [] n l h = (l, tt)
below_push high (m ∷ ns) n l h = (h.0, below_push high ns n l h.1)

pub up_to_push : (most : ℕ) (ns : List ℕ) (n : ℕ) → most < n → up_to most (ns ++ n ∷ []) ≡ up_to most ns
up_to_push most [] n l = ap (λ (b : Bool). if b then suc 0 else 0) (lt-leb n most l)
up_to_push most (m ∷ ns) n l = ap (λ (z : ℕ). if nat_le m most then suc z else z) (up_to_push most ns n l)

pub up_to_all : (most : ℕ) (ns : List ℕ) → AllBelow (suc most) ns → up_to most ns ≡ length ns
up_to_all most [] h = refl
up_to_all most (n ∷ ns) h = ap (λ (b : Bool). if b then suc (up_to most ns) else up_to most ns) (le-leb n most (let a = h.0 in omega (arith, a))) ∙ ap suc (up_to_all most ns h.1)

-- one more behind a count
pub count_more : (m : ℕ) → count (suc (count m)) ≡ count (suc m)
count_more m = by (nat_lt m 4294967295) refl
  where
    by : (b : Bool) → nat_lt m 4294967295 ≡ b → count (suc (if b then m else 4294967295)) ≡ count (suc m)
    by true e = refl
    by false e = sym (ap (λ (b : Bool). if b then suc m else 4294967295) (le-ltb (suc m) 4294967295 (let l = ltb-false m 4294967295 e in omega (arith, l))))

-- ---- give-ups

and_false : (b : Bool) → (b && false) ≡ false
and_false true = refl
and_false false = refl

or_true : (b : Bool) → (b || true) ≡ true
or_true true = refl
or_true false = refl

pub gave_above : (from frame : ℕ) (gs : List ℕ) (g : ℕ) → frame < g → gave_within from frame (gs ++ g ∷ []) ≡ gave_within from frame gs
gave_above from frame [] g l = ap (λ (b : Bool). (nat_le from g && b) || false) (lt-leb g frame l) ∙ ap (λ (b : Bool). b || false) (and_false (nat_le from g))
gave_above from frame (h ∷ gs) g l = ap (λ (b : Bool). (nat_le from h && nat_le h frame) || b) (gave_above from frame gs g l)

pub gave_none : (from frame : ℕ) (gs : List ℕ) → AllBelow from gs → gave_within from frame gs ≡ false
gave_none from frame [] h = refl
gave_none from frame (g ∷ gs) h = ap (λ (b : Bool). (b && nat_le g frame) || gave_within from frame gs) (lt-leb from g h.0) ∙ gave_none from frame gs h.1

gave_last : (from frame : ℕ) (gs : List ℕ) → from ≤ frame → gave_within from frame (gs ++ frame ∷ []) ≡ true
gave_last from frame [] l = λ i. (le-leb from frame l i && le-leb frame frame (omega arith) i) || false
gave_last from frame (g ∷ gs) l = ap (λ (b : Bool). (nat_le from g && nat_le g frame) || b) (gave_last from frame gs l) ∙ or_true (nat_le from g && nat_le g frame)

gave_next : (from frame : ℕ) (gs : List ℕ) → AllBelow (suc frame) gs → gave_within from (suc frame) gs ≡ gave_within from frame gs
gave_next from frame [] h = refl
gave_next from frame (g ∷ gs) h =
    let l : g < suc frame = h.0 in
    let same : nat_le g (suc frame) ≡ nat_le g frame = le-leb g (suc frame) (omega (arith, l)) ∙ sym (le-leb g frame (omega (arith, l))) in
    λ i. (nat_le from g && same i) || gave_next from frame gs h.1 i

-- ---- rows and their answers

behind_least : (frame : ℕ) (a : Answer) → IsBehind frame a → frame ≤ behind_answer frame a
behind_least frame (Replied reply back) h = omega (arith, h)
behind_least frame InDoubt h = omega arith
behind_least frame NotSent h = omega arith

rises_low : (low last end : ℕ) (bs : List Begun) (as' : List Answer) → RisesTo low last end bs as' → low ≤ end
rises_low low last end [] as' h = h
rises_low low last end (b ∷ bs) [] h = absurd h
rises_low low last end (b ∷ bs) (a ∷ as') h = let rest = rises_low (behind_answer b.frame a) last end bs as' h.3 in let first = h.0 in let least = behind_least b.frame a h.2 in omega (arith, rest, first, least)

pub rises_frames : (low last end : ℕ) (bs : List Begun) (as' : List Answer) → RisesTo low last end bs as' → AllBelow last (begun_frames bs)
rises_frames low last end [] as' h = tt
rises_frames low last end (b ∷ bs) [] h = absurd h
rises_frames low last end (b ∷ bs) (a ∷ as') h = (h.1, rises_frames (behind_answer b.frame a) last end bs as' h.3)

pub rises_up : (low last last' end end' : ℕ) (bs : List Begun) (as' : List Answer) → last ≤ last' → end ≤ end' → RisesTo low last end bs as' → RisesTo low last' end' bs as'
rises_up low last last' end end' [] as' l m h = omega (arith, m, h)
rises_up low last last' end end' (b ∷ bs) [] l m h = absurd h
rises_up low last last' end end' (b ∷ bs) (a ∷ as') l m h = (h.0, let k = h.1 in omega (arith, k, l), h.2, rises_up (behind_answer b.frame a) last last' end end' bs as' l m h.3)

-- one row more, each before it with an answer
pub rises_push : (low last end end' : ℕ) (bs : List Begun) (as' : List Answer) (b : Begun) → length bs ≡ length as' → end ≤ b.frame → b.frame < last → b.frame ≤ end' → RisesTo low last end bs as' → RisesTo low last end' (bs ++ b ∷ []) (as' ++ InDoubt ∷ [])
rises_push low last end end' [] [] b e l m k h = (omega (arith, h, l), m, tt, k)
rises_push low last end end' [] (a ∷ as') b e l m k h = absurd (omega (arith, e))
rises_push low last end end' (c ∷ bs) [] b e l m k h = absurd h
rises_push low last end end' (c ∷ bs) (a ∷ as') b e l m k h = (h.0, h.1, h.2, rises_push (behind_answer c.frame a) last end end' bs as' b (omega (arith, e)) l m k h.3)

-- the newest has its answer
pub rises_answer : (low frame : ℕ) (bs : List Begun) (as' : List Answer) (reply : Reply) → RisesTo low (suc frame) (suc frame) bs (as' ++ InDoubt ∷ []) → RisesTo low (suc frame) (suc frame) bs (as' ++ Replied reply frame ∷ [])
rises_answer low frame [] as' reply h = h
rises_answer low frame (b ∷ []) [] reply h = (h.0, h.1, let l = h.1 in omega (arith, l), omega arith)
rises_answer low frame (b ∷ c ∷ bs) [] reply h = absurd h.3
rises_answer low frame (b ∷ bs) (a ∷ as') reply h = (h.0, h.1, h.2, rises_answer (behind_answer b.frame a) frame bs as' reply h.3)

-- answers of what never came into hand
pub rises_more : (low last end : ℕ) (bs : List Begun) (as' more : List Answer) → RisesTo low last end bs as' → RisesTo low last end bs (as' ++ more)
rises_more low last end [] as' more h = h
rises_more low last end (b ∷ bs) [] more h = absurd h
rises_more low last end (b ∷ bs) (a ∷ as') more h = (h.0, h.1, h.2, rises_more (behind_answer b.frame a) last end bs as' more h.3)

-- ---- the newest row up to a frame

module _ (frame : ℕ) (gave : List ℕ) where
  -- behind this one
  abbrev pub next_over : Bool → Begun → Answer → Bool
  next_over before b a = if nat_le b.frame frame then is_over frame gave b.frame a else before

  pub newest_push : (before : Bool) (bs : List Begun) (as' : List Answer) (b : Begun) (a : Answer) → length bs ≡ length as' → newest_over frame gave before (bs ++ b ∷ []) (as' ++ a ∷ []) ≡ next_over (newest_over frame gave before bs as') b a
  newest_push before [] [] b a e = refl
  newest_push before [] (d ∷ as') b a e = absurd (omega (arith, e))
  newest_push before (c ∷ bs) [] b a e = absurd (omega (arith, e))
  newest_push before (c ∷ bs) (d ∷ as') b a e = newest_push (next_over before c d) bs as' b a (omega (arith, e))

  pub newest_more : (before : Bool) (bs : List Begun) (as' more : List Answer) → length bs ≡ length as' → newest_over frame gave before bs (as' ++ more) ≡ newest_over frame gave before bs as'
  newest_more before [] as' more e = refl
  newest_more before (b ∷ bs) [] more e = absurd (omega (arith, e))
  newest_more before (b ∷ bs) (a ∷ as') more e = newest_more (next_over before b a) bs as' more (omega (arith, e))

  -- an answer of a later frame is none by this one
  pub newest_later : (back : ℕ) (reply : Reply) → frame < back → (before : Bool) (bs : List Begun) (as' : List Answer) → newest_over frame gave before bs (as' ++ Replied reply back ∷ []) ≡ newest_over frame gave before bs (as' ++ InDoubt ∷ [])
  newest_later back reply l before [] as' = refl
  newest_later back reply l before (b ∷ bs) [] = ap (λ (z : Bool). newest_over frame gave (if nat_le b.frame frame then not z && not (gave_within b.frame frame gave) else before) bs []) (lt-leb back frame l)
  newest_later back reply l before (b ∷ bs) (a ∷ as') = newest_later back reply l (next_over before b a) bs as'

  -- one of this frame is
  pub newest_answered : (reply : Reply) (before : Bool) (bs : List Begun) (as' : List Answer) → length bs ≡ suc (length as') → AllBelow (suc frame) (begun_frames bs) → newest_over frame gave before bs (as' ++ Replied reply frame ∷ []) ≡ false
  newest_answered reply before [] as' e h = absurd (omega (arith, e))
  newest_answered reply before (b ∷ []) [] e h =
      let l : b.frame < suc frame = h.0 in λ i. if le-leb b.frame frame (omega (arith, l)) i then not (le-leb frame frame (omega arith) i) && not (gave_within b.frame frame gave) else before
  newest_answered reply before (b ∷ c ∷ bs) [] e h = absurd (omega (arith, e))
  newest_answered reply before (b ∷ bs) (a ∷ as') e h = newest_answered reply (next_over before b a) bs as' (omega (arith, e)) h.1

  -- a later give-up is none by this frame
  pub newest_gave : (g : ℕ) → frame < g → (before : Bool) (bs : List Begun) (as' : List Answer) → newest_over frame (gave ++ g ∷ []) before bs as' ≡ newest_over frame gave before bs as'
  newest_gave g l before [] as' = refl
  newest_gave g l before (b ∷ bs) [] = refl
  newest_gave g l before (b ∷ bs) (a ∷ as') =
      ap (λ (z : Bool). newest_over frame (gave ++ g ∷ []) (if nat_le b.frame frame then not (answered_by frame a) && not z else before) bs as') (gave_above b.frame frame gave g l) ∙ newest_gave g l (next_over before b a) bs as'

  -- one with this frame leaves none in hand
  pub newest_given : (bs : List Begun) (as' : List Answer) → AllBelow (suc frame) (begun_frames bs) → newest_over frame (gave ++ frame ∷ []) false bs as' ≡ false
  newest_given [] as' h = refl
  newest_given (b ∷ bs) [] h = refl
  newest_given (b ∷ bs) (a ∷ as') h =
      let l : b.frame < suc frame = h.0 in
      ap (λ (z : Bool). newest_over frame (gave ++ frame ∷ []) z bs as')
      ((λ i. if le-leb b.frame frame (omega (arith, l)) i then not (answered_by frame a) && not (gave_last b.frame frame gave (omega (arith, l)) i) else false) ∙ and_false (not (answered_by frame a)))
      ∙ newest_given bs as' h.1

  answered_next : (a : Answer) (from : ℕ) → behind_answer from a ≤ suc frame → answered_by (suc frame) a ≡ answered_by frame a
  answered_next (Replied reply back) from l = le-leb back (suc frame) (omega (arith, l)) ∙ sym (le-leb back frame (omega (arith, l)))
  answered_next InDoubt from l = refl
  answered_next NotSent from l = refl

  -- with the next frame it is as with this one, where nothing has a greater one
  pub newest_next : (low : ℕ) (before : Bool) (bs : List Begun) (as' : List Answer) → AllBelow (suc frame) gave → RisesTo low (suc frame) (suc frame) bs as' → newest_over (suc frame) gave before bs as' ≡ newest_over frame gave before bs as'
  newest_next low before [] as' g h = refl
  newest_next low before (b ∷ bs) [] g h = absurd h
  newest_next low before (b ∷ bs) (a ∷ as') g h =
      let l : b.frame < suc frame = h.1 in
      let there : nat_le b.frame (suc frame) ≡ nat_le b.frame frame = le-leb b.frame (suc frame) (omega (arith, l)) ∙ sym (le-leb b.frame frame (omega (arith, l))) in
      let answered = answered_next a b.frame (rises_low (behind_answer b.frame a) (suc frame) (suc frame) bs as' h.3) in
      ap (λ (z : Bool). newest_over (suc frame) gave z bs as') (λ i. if there i then not (answered i) && not (gave_next b.frame frame gave g i) else before) ∙ newest_next (behind_answer b.frame a) (next_over before b a) bs as' g h.3

-- ---- the counts of epochs

-- what happened up to each frame below this stays so
pub record SameUntil (below : ℕ) (p p' : Past) : Type 0 where
  pub newest : (c : ℕ) → c < below → newest_over c p'.gave false p'.begun p'.answers ≡ newest_over c p.gave false p.begun p.answers
  pub rows : (c : ℕ) → c < below → up_to c (begun_frames p'.begun) ≡ up_to c (begun_frames p.begun)
  pub heard : (c : ℕ) → c < below → up_to c (heard_frames p'.emergencies) ≡ up_to c (heard_frames p.emergencies)
  pub packets : (c : ℕ) → c < below → up_to (suc c) p'.packets ≡ up_to (suc c) p.packets

module _ (below : ℕ) (p : Past) where
  by_same : (p' : Past) → SameUntil below p p' → (o : Option ℕ) (e : Epoch) → CountsBy below p o e → CountsBy below p' o e
  by_same p' s None e h = h
  by_same p' s (Some c) e h =
      let l = h.0 in
      let k = h.1 in
      (l, record { row = k.row ∙ (λ i. count (first_row (sym (s.newest c l) i) (sym (s.rows c l) i))); emergencies = k.emergencies ∙ ap count (sym (s.heard c l)); packets = k.packets ∙ ap count (sym (s.packets c l)) })

  pub counted_same : (p' : Past) (es : List Epoch) → SameUntil below p p' → AreCounted below p es → AreCounted below p' es
  counted_same p' [] s h = tt
  counted_same p' (e ∷ es) s h = (by_same p' s e.cleared e h.0, counted_same p' es s h.1)

  by_up : (below' : ℕ) (o : Option ℕ) (e : Epoch) → below ≤ below' → CountsBy below p o e → CountsBy below' p o e
  by_up below' None e l h = h
  by_up below' (Some c) e l h = (let k = h.0 in omega (arith, k, l), h.1)

  pub counted_up : (below' : ℕ) (es : List Epoch) → below ≤ below' → AreCounted below p es → AreCounted below' p es
  counted_up below' [] l h = tt
  counted_up below' (e ∷ es) l h = (by_up below' e.cleared e l h.0, counted_up below' es l h.1)

  pub counted_push : (es : List Epoch) (e : Epoch) → CountsBy below p e.cleared e → AreCounted below p es → AreCounted below p (es ++ e ∷ [])
  counted_push [] e k h = (k, tt)
  counted_push (d ∷ es) e k h = (h.0, counted_push es e k h.1)

  by_opened : (o : Option ℕ) (e : Epoch) (opened : Option ℕ) → CountsBy below p o e → CountsBy below p o (record e { opened = opened })
  by_opened None e opened h = record { row = h.row; emergencies = h.emergencies; packets = h.packets }
  by_opened (Some c) e opened h = (h.0, record { row = h.1.row; emergencies = h.1.emergencies; packets = h.1.packets })

  pub counted_opened : (es : List Epoch) (k : ℕ) (d : Epoch) (opened : Option ℕ) → slice_get es k ≡ Some d → AreCounted below p es → AreCounted below p (slice_set es k (record d { opened = opened }))
  counted_opened [] zero d opened g h = tt
  counted_opened [] (suc k) d opened g h = tt
  counted_opened (e ∷ es) zero d opened g h =
      let same : e ≡ d = cc in (by_opened d.cleared d opened (subst (λ (z : Epoch). CountsBy below p z.cleared z) same h.0), h.1)
  counted_opened (e ∷ es) (suc k) d opened g h = (h.0, counted_opened es k d opened g h.1)

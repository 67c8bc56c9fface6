-- The schedule of lost frames, looked at where its next row stands.
use Rattle.std.proofs.Common.{◌≡◌, ◌≢◌, ℕ, zero, suc, ◌+◌, ◌<◌, ◌≤◌, Bool, List, [], ◌∷◌, length, take, drop, Some, None, refl, sym, ap, ◌∙◌, subst, arith, eq-eqb}
use Rattle.std.specs.Prelude.{if◌then◌else◌, slice_get}
use Rattle.std.proofs.lemmas.Bool.{ne_eqb}
use Rattle.std.proofs.lemmas.Option.{slice_get_within}
use Rattle.segment_ring.specs.declared.wire.Fate.{Fate}
use Rattle.segment_ring.specs.declared.wire.Fate.TheVariants.{Pass, Lost}
use Rattle.segment_ring.specs.Schedule.{fate_at, AllFrom, AllBefore, Rises, StandsAt}

abbrev by_row : ℕ × ℕ → List (ℕ × ℕ) → ℕ → Bool → Fate
by_row row lose number same = if same then Lost row.1 else fate_at lose number

-- rows of frames before this one say nothing of it
past : (lose : List (ℕ × ℕ)) (next number : ℕ) → AllBefore number (take next lose) → fate_at lose number ≡ fate_at (drop next lose) number
past lose zero number before = refl
past [] (suc next) number before = refl
past (row ∷ lose) (suc next) number before =
    ap (by_row row lose number) (ne_eqb row.0 number (λ (e : row.0 ≡ number). let low = before.0 in omega (arith, e, low))) ∙ past lose next number before.1

-- nor do rows of later frames
ahead : (lose : List (ℕ × ℕ)) (number : ℕ) → AllFrom (suc number) lose → fate_at lose number ≡ Pass
ahead [] number from = refl
ahead (row ∷ lose) number from =
    ap (by_row row lose number) (ne_eqb row.0 number (λ (e : row.0 ≡ number). let high = from.0 in omega (arith, e, high))) ∙ ahead lose number from.1

weaker : (lose : List (ℕ × ℕ)) (a b : ℕ) → a ≤ b → AllFrom b lose → AllFrom a lose
weaker [] a b le from = tt
weaker (row ∷ lose) a b le from = (let high = from.0 in omega (arith, le, high), weaker lose a b le from.1)

later : (lose : List (ℕ × ℕ)) (a b : ℕ) → a ≤ b → AllBefore a lose → AllBefore b lose
later [] a b le before = tt
later (row ∷ lose) a b le before = (let low = before.0 in omega (arith, le, low), later lose a b le before.1)

rises_drop : (lose : List (ℕ × ℕ)) (next : ℕ) → Rises lose → Rises (drop next lose)
rises_drop lose zero rises = rises
rises_drop [] (suc next) rises = tt
rises_drop (row ∷ lose) (suc next) rises = rises_drop lose next rises.1

row_at : (lose : List (ℕ × ℕ)) (next : ℕ) (row : ℕ × ℕ) → slice_get lose next ≡ Some row → drop next lose ≡ row ∷ drop (suc next) lose
row_at [] next row is = absurd (let few = slice_get_within [] next row is in omega (arith, few))
row_at (first ∷ lose) zero row is = let same : first ≡ row = cc in ap (λ (r : ℕ × ℕ). r ∷ lose) same
row_at (first ∷ lose) (suc next) row is = row_at lose next row is

none_at : (lose : List (ℕ × ℕ)) (next : ℕ) → next ≤ length lose → slice_get lose next ≡ None → drop next lose ≡ []
none_at [] zero le is = refl
none_at [] (suc next) le is = refl
none_at (row ∷ lose) zero le is = absurd (cc)
none_at (row ∷ lose) (suc next) le is = none_at lose next (omega (arith, le)) is

taken : (lose : List (ℕ × ℕ)) (next number : ℕ) (row : ℕ × ℕ) → slice_get lose next ≡ Some row → row.0 < number → AllBefore number (take next lose) → AllBefore number (take (suc next) lose)
taken [] next number row is low before = tt
taken (first ∷ lose) zero number row is low before = let same : first ≡ row = cc in (subst (λ (r : ℕ × ℕ). r.0 < number) (sym same) low, tt)
taken (first ∷ lose) (suc next) number row is low before = (before.0, taken lose next number row is low before.1)

-- a schedule is begun at its first row
pub starts : (lose : List (ℕ × ℕ)) → StandsAt lose 0 0
starts lose = record { inside = omega arith; before = tt; from = all lose }
  where
    all : (lose : List (ℕ × ℕ)) → AllFrom 0 lose
    all [] = tt
    all (row ∷ lose) = (omega arith, all lose)

-- behind a frame
pub record Goes (lose : List (ℕ × ℕ)) (number after_next : ℕ) (fate : Fate) : Type 0 where
  pub fate_is : fate ≡ fate_at lose number
  pub stands : StandsAt lose after_next (number + 1)

one_more : (lose : List (ℕ × ℕ)) (next number : ℕ) → StandsAt lose next (suc number) → StandsAt lose next (number + 1)
one_more lose next number s = let e : suc number ≡ number + 1 = omega arith in subst (λ n. StandsAt lose next n) e s

module _ (lose : List (ℕ × ℕ)) (next number : ℕ) (rises : Rises lose) (s : StandsAt lose next number) where
  -- no row is left
  pub over : slice_get lose next ≡ None → Goes lose number next Pass
  over is =
      let none = none_at lose next s.inside is in
      record {
        fate_is = sym (past lose next number s.before ∙ ap (λ l. fate_at l number) none);
        stands = one_more lose next number (record { inside = s.inside; before = later (take next lose) number (suc number) (omega arith) s.before; from = subst (AllFrom (suc number)) (sym none) tt });
      }

  module _ (row : ℕ × ℕ) (is : slice_get lose next ≡ Some row) where
    behind : AllFrom (suc row.0) (drop (suc next) lose)
    behind = (subst Rises (row_at lose next row is) (rises_drop lose next rises)).0

    high : number ≤ row.0
    high = (subst (AllFrom number) (row_at lose next row is) s.from).0

    -- the next row is of a later frame
    pub not_yet : row.0 ≢ number → Goes lose number next Pass
    not_yet other =
        let more : suc number ≤ row.0 = omega (arith, high, other) in
        let from : AllFrom (suc number) (drop next lose) = subst (AllFrom (suc number)) (sym (row_at lose next row is)) (more, weaker (drop (suc next) lose) (suc number) (suc row.0) (omega (arith, more)) behind) in
        record {
          fate_is = sym (past lose next number s.before ∙ ahead (drop next lose) number from);
          stands = one_more lose next number (record { inside = s.inside; before = later (take next lose) number (suc number) (omega arith) s.before; from = from });
        }

    -- it is of this one
    pub now : row.0 ≡ number → Goes lose number (suc next) (Lost row.1)
    now same =
        record {
          fate_is = sym (past lose next number s.before ∙ ap (λ l. fate_at l number) (row_at lose next row is) ∙ ap (by_row row (drop (suc next) lose) number) (eq-eqb row.0 number same));
          stands = one_more lose (suc next) number (record {
            inside = slice_get_within lose next row is;
            before = taken lose next (suc number) row is (omega (arith, same)) (later (take next lose) number (suc number) (omega arith) s.before);
            from = subst (λ n. AllFrom (suc n) (drop (suc next) lose)) same behind;
          });
        }

-- The longest row of lost frames that was counted is as long as any.
use Rattle.std.proofs.Common.{◌≡◌, ℕ, ◌+◌, ◌-◌, ◌<◌, ◌≤◌, ◌⊎◌, ◌==◌, ◌&&◌, nat_le, nat_lt, suc, true, false, List, [], ◌∷◌, refl, inl, inr, arith}
use Rattle.std.proofs.lemmas.Bool.{eqb-true, leb-true, or_cases, and_parts, or_from, ne_eqb, cases_lt, cases_eq, both_ways, ltb-true, ltb-false, cond_both, cond-true, cond-false, eq-eqb}
use Rattle.check_summary.specs.of_segment_plan.Sound.{are_lost_from, are_lost}
use Rattle.check_summary.specs.declared.losses.Row.{Row}
use Rattle.check_summary.specs.declared.losses.Rows.{Rows}
use Rattle.check_summary.specs.Few.{is_lost, AreFew}
use Rattle.check_summary.specs.Losses.{count_of, extended, longer, counted_in, rows_from, longest_row, no_row}

-- what a row of a rising schedule says: it isn't before the least number, and those behind it rise from the next on
record Rises (slaves least : ℕ) (row : ℕ × ℕ) (rows : List (ℕ × ℕ)) : Type 0 where
  from : least ≤ row.0
  behind : are_lost_from slaves (row.0 + 1) rows ≡ true

rises : (slaves least : ℕ) (row : ℕ × ℕ) (rows : List (ℕ × ℕ)) → are_lost_from slaves least (row ∷ rows) ≡ true → Rises slaves least row rows
rises slaves least row rows h =
    let parts = and_parts (nat_le least row.0 && nat_le row.1 slaves) (are_lost_from slaves (row.0 + 1) rows) h in
    let first = and_parts (nat_le least row.0) (nat_le row.1 slaves) parts.0 in
    record { from = leb-true least row.0 first.0; behind = parts.1 }

-- no frame before the least is lost
not_before : (slaves least : ℕ) (rows : List (ℕ × ℕ)) (x : ℕ) → are_lost_from slaves least rows ≡ true → x < least → is_lost rows x ≡ false
not_before slaves least [] x h lt = refl
not_before slaves least (row ∷ rows) x h lt =
    let r : Rises slaves least row rows = rises slaves least row rows h in
    let from : least ≤ row.0 = r.from in
    or_from (row.0 == x) (is_lost rows x) (ne_eqb row.0 x (λ is. omega arith)) (not_before slaves (row.0 + 1) rows x r.behind (omega arith))

-- a frame of a row
record InRow (row : Row) (x : ℕ) : Type 0 where
  from : row.first ≤ x
  before : x < row.behind

-- a frame that was counted in the last row, or is still lost
abbrev Covered : Row → List (ℕ × ℕ) → ℕ → Type 0
Covered row rows x = InRow row x ⊎ (is_lost rows x ≡ true)

longer_first : (row other : Row) → count_of row ≤ count_of (longer row other)
longer_first row other = let P : Row → Type 0 = λ r. count_of row ≤ count_of r in cond_both (nat_lt (count_of row) (count_of other)) other row P (λ e. let lt : count_of row < count_of other = ltb-true (count_of row) (count_of other) e in omega arith) (λ e. omega arith)

longer_second : (row other : Row) → count_of other ≤ count_of (longer row other)
longer_second row other = let P : Row → Type 0 = λ r. count_of other ≤ count_of r in cond_both (nat_lt (count_of row) (count_of other)) other row P (λ e. omega arith) (λ e. let le : count_of other ≤ count_of row = ltb-false (count_of row) (count_of other) e in le)

-- the longest row never gets shorter
grows : (s : Rows) (rows : List (ℕ × ℕ)) → count_of s.longest ≤ count_of (rows_from s rows).longest
grows s [] = omega arith
grows s (row ∷ rows) =
    let first : count_of s.longest ≤ count_of (counted_in s row.0).longest = longer_first s.longest (extended s.last row.0) in
    let more : count_of (counted_in s row.0).longest ≤ count_of (rows_from (counted_in s row.0) rows).longest = grows (counted_in s row.0) rows in
    omega arith

in_row : (row : Row) (x : ℕ) → Covered row [] x → InRow row x
in_row row x (inl h) = h
in_row row x (inr h) = absurd (both_ways false refl h)

-- a row that has two frames is as long as they are apart
as_long : (row : Row) (first n : ℕ) → InRow row (first + 0) → InRow row (first + n) → suc n ≤ count_of row
as_long row first n low high =
    let a : row.first ≤ first + 0 = low.from in
    let b : first + n < row.behind = high.before in
    omega arith

first_same : (last : Row) (frame : ℕ) → frame ≡ last.behind → (extended last frame).first ≡ last.first
first_same last frame is = cond-true (frame == last.behind) last.first frame (eq-eqb frame last.behind is)

first_other : (last : Row) (frame : ℕ) → (frame ≡ last.behind → ⊥) → (extended last frame).first ≡ frame
first_other last frame isnt = cond-false (frame == last.behind) last.first frame (ne_eqb frame last.behind isnt)

first_fits : (last : Row) (frame : ℕ) → last.first ≤ last.behind → last.behind ≤ frame → (extended last frame).first ≤ frame + 1
first_fits last frame fits le =
    let P : ℕ → Type 0 = λ n. n ≤ frame + 1 in
    cond_both (frame == last.behind) last.first frame P (λ e. omega arith) (λ e. omega arith)

-- a frame that is lost is the first of the schedule, or one behind it
lost_in : (last : Row) (row : ℕ × ℕ) (rows : List (ℕ × ℕ)) (x : ℕ) → (extended last row.0).first ≤ row.0 → (row.0 == x ≡ true) ⊎ (is_lost rows x ≡ true) → Covered (extended last row.0) rows x
lost_in last row rows x le (inl e) =
    let is : row.0 ≡ x = eqb-true row.0 x e in
    inl (record { from = omega arith; before = omega arith })
lost_in last row rows x le (inr lost) = inr lost

-- where the frame follows the last row, that goes on
follows : (last : Row) (row : ℕ × ℕ) (rows : List (ℕ × ℕ)) (x : ℕ) → last.first ≤ last.behind → row.0 ≡ last.behind → Covered last (row ∷ rows) x → Covered (extended last row.0) rows x
follows last row rows x fits is (inl h) =
    let same : (extended last row.0).first ≡ last.first = first_same last row.0 is in
    let a : last.first ≤ x = h.from in
    let b : x < last.behind = h.before in
    inl (record { from = omega arith; before = omega arith })
follows last row rows x fits is (inr lost) =
    let same : (extended last row.0).first ≡ last.first = first_same last row.0 is in
    lost_in last row rows x (omega arith) (or_cases (row.0 == x) (is_lost rows x) lost)

-- where it doesn't, another one begins
begins : (last : Row) (row : ℕ × ℕ) (rows : List (ℕ × ℕ)) (x : ℕ) → last.behind < x → (row.0 ≡ last.behind → ⊥) → Covered last (row ∷ rows) x → Covered (extended last row.0) rows x
begins last row rows x lt isnt (inl h) = let b : x < last.behind = h.before in absurd (omega arith)
begins last row rows x lt isnt (inr lost) =
    let other : (extended last row.0).first ≡ row.0 = first_other last row.0 isnt in
    lost_in last row rows x (omega arith) (or_cases (row.0 == x) (is_lost rows x) lost)

-- no frame before the first of the schedule is lost
not_lost : (slaves least : ℕ) (row : ℕ × ℕ) (rows : List (ℕ × ℕ)) (x : ℕ) → Rises slaves least row rows → x < row.0 → is_lost (row ∷ rows) x ≡ false
not_lost slaves least row rows x r lt = or_from (row.0 == x) (is_lost rows x) (ne_eqb row.0 x (λ is. omega arith)) (not_before slaves (row.0 + 1) rows x r.behind (omega arith))

-- so one that is covered was counted
counted : (slaves least : ℕ) (last : Row) (row : ℕ × ℕ) (rows : List (ℕ × ℕ)) (x : ℕ) → Rises slaves least row rows → x < row.0 → Covered last (row ∷ rows) x → InRow last x
counted slaves least last row rows x r lt (inl h) = h
counted slaves least last row rows x r lt (inr lost) = absurd (both_ways (is_lost (row ∷ rows) x) (not_lost slaves least row rows x r lt) lost)

-- the frame behind the last row isn't
gap : (slaves least : ℕ) (last : Row) (row : ℕ × ℕ) (rows : List (ℕ × ℕ)) (x : ℕ) → Rises slaves least row rows → last.behind < row.0 → x ≡ last.behind → Covered last (row ∷ rows) x → ⊥
gap slaves least last row rows x r lt is h =
    let b : x < last.behind = (counted slaves least last row rows x r (omega arith) h).before in
    omega arith

-- what is known of a schedule from a frame on, where the last row was counted
record Goes (slaves : ℕ) (s : Rows) (row : ℕ × ℕ) (rows : List (ℕ × ℕ)) (first n : ℕ) : Type 0 where
  r : Rises slaves s.last.behind row rows
  fits : s.last.first ≤ s.last.behind
  most : count_of s.last ≤ count_of s.longest
  each : (k : ℕ) → k ≤ n → Covered s.last (row ∷ rows) (first + k)
  then_most : ((k : ℕ) → k ≤ n → Covered (extended s.last row.0) rows (first + k)) → suc n ≤ count_of (rows_from (counted_in s row.0) rows).longest

-- the frames are all in the last row
all_counted : (slaves : ℕ) (s : Rows) (row : ℕ × ℕ) (rows : List (ℕ × ℕ)) (first n : ℕ) → Goes slaves s row rows first n → first + n < row.0 → suc n ≤ count_of (rows_from (counted_in s row.0) rows).longest
all_counted slaves s row rows first n g lt =
    let low : InRow s.last (first + 0) = counted slaves s.last.behind s.last row rows (first + 0) g.r (omega arith) (g.each 0 (omega arith)) in
    let high : InRow s.last (first + n) = counted slaves s.last.behind s.last row rows (first + n) g.r lt (g.each n (omega arith)) in
    let long : suc n ≤ count_of s.last = as_long s.last first n low high in
    let most : count_of s.last ≤ count_of s.longest = g.most in
    let more : count_of s.longest ≤ count_of (rows_from s (row ∷ rows)).longest = grows s (row ∷ rows) in
    omega arith

-- they are behind it, or one of them is the one behind it, which isn't lost
by_first : (slaves : ℕ) (s : Rows) (row : ℕ × ℕ) (rows : List (ℕ × ℕ)) (first n : ℕ) → Goes slaves s row rows first n → (row.0 ≡ s.last.behind → ⊥) → s.last.behind < row.0 → s.last.behind ≤ first + n → (s.last.behind < first) ⊎ (first ≤ s.last.behind) → suc n ≤ count_of (rows_from (counted_in s row.0) rows).longest
by_first slaves s row rows first n g isnt apart ge (inl lt) = g.then_most (λ k le. begins s.last row rows (first + k) (omega arith) isnt (g.each k le))
by_first slaves s row rows first n g isnt apart ge (inr le) =
    absurd (gap slaves s.last.behind s.last row rows (first + (s.last.behind - first)) g.r apart (omega arith) (g.each (s.last.behind - first) (omega arith)))

by_last : (slaves : ℕ) (s : Rows) (row : ℕ × ℕ) (rows : List (ℕ × ℕ)) (first n : ℕ) → Goes slaves s row rows first n → (row.0 ≡ s.last.behind → ⊥) → (first + n < s.last.behind) ⊎ (s.last.behind ≤ first + n) → suc n ≤ count_of (rows_from (counted_in s row.0) rows).longest
by_last slaves s row rows first n g isnt (inl lt) = let from : s.last.behind ≤ row.0 = g.r.from in all_counted slaves s row rows first n g (omega arith)
by_last slaves s row rows first n g isnt (inr ge) =
    let from : s.last.behind ≤ row.0 = g.r.from in
    let apart : s.last.behind < row.0 = omega arith in
    by_first slaves s row rows first n g isnt apart ge (cases_lt s.last.behind first)

by_frame : (slaves : ℕ) (s : Rows) (row : ℕ × ℕ) (rows : List (ℕ × ℕ)) (first n : ℕ) → Goes slaves s row rows first n → (row.0 ≡ s.last.behind) ⊎ (row.0 ≡ s.last.behind → ⊥) → suc n ≤ count_of (rows_from (counted_in s row.0) rows).longest
by_frame slaves s row rows first n g (inl is) = g.then_most (λ k le. follows s.last row rows (first + k) g.fits is (g.each k le))
by_frame slaves s row rows first n g (inr isnt) = by_last slaves s row rows first n g isnt (cases_lt (first + n) s.last.behind)

-- frames in a row that were counted or are still lost are no more than the longest row has
no_longer : (slaves : ℕ) (s : Rows) (rows : List (ℕ × ℕ)) (first n : ℕ) → are_lost_from slaves s.last.behind rows ≡ true → s.last.first ≤ s.last.behind → count_of s.last ≤ count_of s.longest → ((k : ℕ) → k ≤ n → Covered s.last rows (first + k)) → suc n ≤ count_of (rows_from s rows).longest
no_longer slaves s [] first n rising fits most each =
    let long : suc n ≤ count_of s.last = as_long s.last first n (in_row s.last (first + 0) (each 0 (omega arith))) (in_row s.last (first + n) (each n (omega arith))) in
    omega arith
no_longer slaves s (row ∷ rows) first n rising fits most each =
    let r : Rises slaves s.last.behind row rows = rises slaves s.last.behind row rows rising in
    by_frame slaves s row rows first n
    (record {
      r = r;
      fits = fits;
      most = most;
      each = each;
      then_most = λ each'. no_longer slaves (counted_in s row.0) rows first n r.behind (first_fits s.last row.0 fits r.from) (longer_second s.longest (extended s.last row.0)) each';
    })
    (cases_eq row.0 s.last.behind)

-- where the longest row has no more frames than a slave outlives, no row does
pub are_few : (slaves : ℕ) (lose : List (ℕ × ℕ)) (retry : ℕ) → are_lost slaves lose ≡ true → count_of (longest_row lose) ≤ retry → AreFew lose retry
are_few slaves lose retry rising le = record {
  few = λ first all.
      let long : suc retry ≤ count_of (longest_row lose) = no_longer slaves (record { longest = no_row; last = no_row }) lose first retry rising (omega arith) (omega arith) (λ k k_le. inr (all k k_le)) in
      omega arith;
}

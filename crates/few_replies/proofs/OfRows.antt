-- The mails of rows.
use Rattle.std.proofs.Common.{◌≡◌, ℕ, ◌+◌, ◌≤◌, true, List, [], ◌∷◌, ◌++◌, length, refl, sym, ap, subst, ◌∙◌, arith, length-append}
use Rattle.std.proofs.lemmas.List.Sums.{sum_by-cons, sum_by-append}
use Rattle.slave_parts.specs.of_exchange_model.Prefix.{IsPrefixOf}
use Rattle.slave_parts.specs.of_exchange_model.Exchange.{Exchange, IsLawful, after, given}
use Rattle.slave_parts.specs.of_exchange_model.Laws.{Moment}
use Rattle.slave_parts.specs.of_exchange_model.Rows.{Row, IsWhole, Settled, told_all, heard_all}
use Rattle.slave_parts.proofs.of_exchange_model.Words.{after-append, given-append, given_part}
use Rattle.slave_parts.proofs.of_exchange_model.Settles.{told_all_last, heard_all_last, whole_ready}
use Rattle.few_replies.specs.Counts.{mails_between}
use Rattle.few_replies.specs.RowCounts.{AreCounted, rows_mails, rows_count}

part_length : {X : Type 0} (xs ys : List X) → IsPrefixOf xs ys → length xs ≤ length ys
part_length xs ys h = omega (arith, ap length h.1, length-append xs h.0)

module _ {V A M Q R K : Type 0} (x : Exchange V A M Q R) (law : IsLawful x) (shape : V → K) (count : K → Q → ℕ) (counted : AreCounted x shape count) where
  -- the server behind rows that are over, and what it gave for them
  record Counted (v : V) (rs : List (Row M Q R)) : Type 0 where
    ready : x.ready (after x.serve v (told_all rs)) ≡ true
    shape_is : shape (after x.serve v (told_all rs)) ≡ shape v
    within : length (told_all rs) + length (given x.serve v (told_all rs)) ≤ rows_count (count (shape v)) rs

  whole_within : (v : V) (r : Row M Q R) → x.ready v ≡ true → IsWhole x v r → length r.told + length (given x.serve v r.told) ≤ count (shape v) r.service
  whole_within v r ready whole = subst (λ ms. length ms + length (given x.serve v ms) ≤ count (shape v) r.service) (sym whole.told) (counted.within v r.service ready whole.valid)

  whole_shape : (v : V) (r : Row M Q R) → x.ready v ≡ true → IsWhole x v r → shape (after x.serve v r.told) ≡ shape v
  whole_shape v r ready whole = ap (λ ms. shape (after x.serve v ms)) whole.told ∙ counted.stays v r.service ready whole.valid

  settled_within : (v : V) (rs : List (Row M Q R)) → x.ready v ≡ true → Settled x v rs → Counted v rs
  settled_within v [] ready settled = record { ready = ready; shape_is = refl; within = omega arith }
  settled_within v (r ∷ rs) ready settled =
      let w = after x.serve v r.told in
      let same = whole_shape v r ready settled.0 in
      let later = settled_within w rs (whole_ready x law v r ready settled.0) settled.1 in
      let behind = after-append x.serve v r.told (told_all rs) in
      let here = whole_within v r ready settled.0 in
      let gives = ap length (given-append x.serve v r.told (told_all rs)) in
      let counts : rows_count (count (shape w)) rs ≡ rows_count (count (shape v)) rs = ap (λ k. rows_count (count k) rs) same in
      let first = sum_by-cons (λ (r : Row M Q R). count (shape v) r.service) r rs in
      record {
        ready = ap x.ready behind ∙ later.ready;
        shape_is = ap shape behind ∙ later.shape_is ∙ same;
        within = omega (arith, here, later.within, counts, first, gives, length-append r.told (told_all rs), length-append (given x.serve v r.told) (given x.serve w (told_all rs)));
      }

  pub rows_within : (v : V) (front last : List (Row M Q R)) (now : Row M Q R) (held taken accepted : List M) → x.ready v ≡ true → Moment x v front last now held taken accepted →
      rows_mails (front ++ last ++ now ∷ []) ≤ rows_count (count (shape v)) (front ++ last ++ now ∷ [])
  rows_within v front last now held taken accepted ready at =
      let past = front ++ last in
      let w = after x.serve v (told_all past) in
      let all = settled_within v past ready at.fits.settled in
      let mine = at.fits.mine in
      let told = part_length now.told (x.full w now.service) mine in
      let gave = part_length (given x.serve w now.told) (given x.serve w (x.full w now.service)) (given_part x.serve w now.told (x.full w now.service) mine) in
      let newest : mails_between x w now.service ≤ count (shape v) now.service = subst (λ k. mails_between x w now.service ≤ count k now.service) all.shape_is (counted.within w now.service all.ready at.fits.valid) in
      let heard = part_length accepted (given x.serve v taken) at.hears in
      let took = part_length (given x.serve v taken) (given x.serve v held) (given_part x.serve v taken held at.order) in
      let gives : given x.serve v held ≡ given x.serve v (told_all past) ++ given x.serve w now.told = ap (given x.serve v) at.fits.all_held ∙ given-append x.serve v (told_all past) now.told in
      let said = ap length (told_all_last past now) in
      let came = ap length (heard_all_last past now) in
      let whole = ap length at.fits.all_accepted in
      let sum = sum_by-append (λ (r : Row M Q R). count (shape v) r.service) past (now ∷ []) in
      let one = sum_by-cons (λ (r : Row M Q R). count (shape v) r.service) now [] in
      omega (arith, told, gave, newest, heard, took, ap length gives, said, came, whole, sum, one, all.within, length-append (told_all past) now.told, length-append (heard_all past) now.heard, length-append (given x.serve v (told_all past)) (given x.serve w now.told))

-- BY A CHOICE of its master a side keeps its inward half, and all mails that were heard in its rows.
use Rattle.std.proofs.Common.{◌≡◌, ℕ, ◌&&◌, Bool, true, false, Option, Some, None, option_map, List, [], ◌∷◌, ◌++◌, refl, sym, ap, ◌∙◌, append-nil, if◌then◌else◌}
use Rattle.served_places.proofs.of_exchange_model.Settles.{heard_all_last}
use Rattle.served_places.specs.of_exchange_model.Exchange.{Speech}
use Rattle.served_places.specs.of_exchange_model.Rows.{Row, begun, heard_all, row_told}
use Rattle.served_places.specs.of_segment_model.Seats.{Choice, Side, is_over, newest, next_mail, rows_of, side_begins, side_holds, side_next}

module _ {M Q R : Type 0} (x : Speech M Q R) (made : ℕ) where
  -- ---- the inward half stays
  begins_inn : (d : Side M Q R) (now : Option (Row M Q R)) (begin : Option Q) → (side_begins x made d now begin).halves.inn ≡ d.halves.inn
  begins_inn d now None = refl
  begins_inn d None (Some q) = go (x.valid q)
    where
      go : (b : Bool) → (if b then record d { now = Some (begun q made) } else d).halves.inn ≡ d.halves.inn
      go true = refl
      go false = refl
  begins_inn d (Some r) (Some q) = go (x.valid q && is_over x d.halves.out.holding d.fresh r)
    where
      go : (b : Bool) → (if b then record d { past = d.past ++ r ∷ []; now = Some (begun q made) } else d).halves.inn ≡ d.halves.inn
      go true = refl
      go false = refl

  holds_inn : (d : Side M Q R) (ms : List M) → (side_holds d ms).halves.inn ≡ d.halves.inn
  holds_inn d [] = refl
  holds_inn d (m ∷ ms) = refl

  pub next_inn : (d : Side M Q R) (c : Choice Q) → (side_next x made d c).halves.inn ≡ d.halves.inn
  next_inn d c =
      let e = side_begins x made d d.now c.begin in
      holds_inn e (next_mail x e.now e.halves.out.holding c.hold) ∙ begins_inn d d.now c.begin

  -- ---- and so do the mails heard in the rows: what comes into hand heard nothing yet, and a mail that is taken up lets nothing be heard
  abbrev pub heard_of : Side M Q R → List M
  heard_of d = heard_all (rows_of d)

  begins_heard : (d : Side M Q R) (now : Option (Row M Q R)) → d.now ≡ now → (begin : Option Q) → heard_of (side_begins x made d now begin) ≡ heard_of d
  begins_heard d None is None = refl
  begins_heard d (Some r) is None = refl
  begins_heard d None is (Some q) = go (x.valid q)
    where
      go : (b : Bool) → heard_of (if b then record d { now = Some (begun q made) } else d) ≡ heard_of d
      go true = heard_all_last d.past (begun q made) ∙ append-nil (heard_all d.past) ∙ sym (ap heard_all (ap (λ n. d.past ++ newest n) is ∙ append-nil d.past))
      go false = refl
  begins_heard d (Some r) is (Some q) = go (x.valid q && is_over x d.halves.out.holding d.fresh r)
    where
      go : (b : Bool) → heard_of (if b then record d { past = d.past ++ r ∷ []; now = Some (begun q made) } else d) ≡ heard_of d
      go true = heard_all_last (d.past ++ r ∷ []) (begun q made) ∙ append-nil (heard_all (d.past ++ r ∷ [])) ∙ sym (ap (λ n. heard_all (d.past ++ newest n)) is)
      go false = refl

  holds_heard : (d : Side M Q R) (ms : List M) → heard_of (side_holds d ms) ≡ heard_of d
  holds_heard d [] = refl
  holds_heard d (m ∷ ms) = go d.now
    where
      go : (now : Option (Row M Q R)) → heard_all (d.past ++ newest (option_map (λ r. row_told m r) now)) ≡ heard_all (d.past ++ newest now)
      go None = refl
      go (Some r) = heard_all_last d.past (row_told m r) ∙ sym (heard_all_last d.past r)

  pub next_heard : (d : Side M Q R) (c : Choice Q) → heard_of (side_next x made d c) ≡ heard_of d
  next_heard d c =
      let e = side_begins x made d d.now c.begin in
      holds_heard e (next_mail x e.now e.halves.out.holding c.hold) ∙ begins_heard d d.now refl c.begin

-- What comes into hand takes no service away.
use Rattle.std.proofs.Common.{◌≡◌, ℕ, ◌&&◌, Bool, true, false, Option, Some, None, option_map, List, [], ◌∷◌, ◌++◌, refl, ap, ◌∙◌, if◌then◌else◌}
use Rattle.plan_ring.specs.of_exchange_model.Exchange.{Speech}
use Rattle.plan_ring.specs.of_exchange_model.Rows.{Row, begun, row_told}
use Rattle.plan_ring.specs.of_life_model.Lives.{Life, Stand, granted, life_next}
use Rattle.plan_ring.specs.of_link_model.Slave.{Node}
use Rattle.plan_ring.specs.of_segment_model.Seats.{Side, Choice, is_over, side_begins, side_holds, side_next, next_mail}
use Rattle.plan_ring.specs.of_state_model.Accounts.{Pick, mails_choice}
use Rattle.idle_slaves.specs.Visited.{HasRow}

-- some service has come into hand
abbrev Has : {M Q R : Type 0} → Option (Row M Q R) → Type 0
Has {M} {Q} {R} now = (r : Row M Q R) × (now ≡ Some r)

module _ {M Q R : Type 0} (x : Speech M Q R) (frame : ℕ) where
  begins : (d : Side M Q R) (now : Option (Row M Q R)) (begin : Option Q) → d.now ≡ now → Has now → Has (side_begins x frame d now begin).now
  begins d now None e k = (k.0, e ∙ k.1)
  begins d None (Some q) e k = absurd (let no : None ≡ Some k.0 = k.1 in cc)
  begins d (Some r) (Some q) e k = go (x.valid q && is_over x d.halves.out.holding d.fresh r)
    where
      go : (b : Bool) → Has (if b then record d { past = d.past ++ r ∷ []; now = Some (begun q frame) } else d).now
      go true = (begun q frame, refl)
      go false = (r, e)

  holds : (d : Side M Q R) (ms : List M) → Has d.now → Has (side_holds d ms).now
  holds d [] k = k
  holds d (m ∷ ms) k = (row_told m k.0, ap (option_map (λ r. row_told m r)) k.1)

  next : (d : Side M Q R) (c : Choice Q) → Has d.now → Has (side_next x frame d c).now
  next d c k =
      let e = side_begins x frame d d.now c.begin in
      holds e (next_mail x e.now e.halves.out.holding c.hold) (begins d d.now c.begin refl k)

module _ {M Q R S : Type 0} (x : Speech M Q R) (acknowledged : Q → Bool) (more : M → Bool) (passed : Q → Bool) (frame : ℕ) (l : Life M Q R) (pick : Pick Q) (n : Node M S) where
  by_stand : (stand : Stand) → HasRow l n → HasRow (life_next x acknowledged more passed frame l stand pick) n
  by_stand (Stand.Opens o) row = row
  by_stand Stand.Open row = λ b e. next x frame l.era.side (mails_choice l.era.account (granted l.era.passing pick)) (row b e)
  by_stand Stand.Gone row = row

  pub row_stays : HasRow l n → HasRow (life_next x acknowledged more passed frame l l.stand pick) n
  row_stays row = by_stand l.stand row

-- What it means that a row is over.
use Rattle.std.proofs.Common.{◌≡◌, ◌⊎◌, inl, inr, ℕ, ◌&&◌, Bool, true, false, not, is_none, is_some, Option, Some, None, List, [], ◌∷◌, refl, if◌then◌else◌}
use Rattle.exchange_model.specs.Exchange.{Exchange}
use Rattle.exchange_model.specs.Rows.{Row, left}
use Rattle.link_model.specs.Mails.{LinkMail}
use Rattle.segment_model.specs.Seats.{is_over, is_none_left}

empty : {M : Type 0} (ms : List M) (b : Bool) → is_none_left ms && b ≡ true → (ms ≡ []) × (b ≡ true)
empty [] b e = (refl, e)
empty (m ∷ ms) b e = absurd (cc)

pub idle : {X : Type 0} (holding : Option X) → is_none holding ≡ true → holding ≡ None
idle None e = refl
idle (Some m) e = absurd (cc)

both : {X : Type 0} (answer : Option X) (fresh : Bool) → is_some answer && not fresh ≡ true → ((a : X) × (answer ≡ Some a)) × (fresh ≡ false)
both None fresh e = absurd (cc)
both (Some a) true e = absurd (cc)
both (Some a) false e = ((a, refl), refl)

-- nothing is left of a row that is over, and it ends with its last write, which is done, or it has its answer
pub over_parts : {V A M Q R : Type 0} (x : Exchange V A M Q R) (holding : Option (LinkMail M)) (fresh : Bool) (r : Row M Q R) → is_over x.speech holding fresh r ≡ true →
    (left x.speech r ≡ []) × (((x.speech.handed r.service ≡ true) × (holding ≡ None)) ⊎ (((a : R × ℕ) × (r.answer ≡ Some a)) × (fresh ≡ false)))
over_parts {R = R} x holding fresh r e = (parts.0, go (x.speech.handed r.service) (is_none r.answer) refl parts.1)
  where
    parts : (left x.speech r ≡ []) × ((if x.speech.handed r.service && is_none r.answer then is_none holding else is_some r.answer && not fresh) ≡ true)
    parts = empty (left x.speech r) (if x.speech.handed r.service && is_none r.answer then is_none holding else is_some r.answer && not fresh) e

    go : (handed unanswered : Bool) → x.speech.handed r.service ≡ handed → (if handed && unanswered then is_none holding else is_some r.answer && not fresh) ≡ true →
        ((x.speech.handed r.service ≡ true) × (holding ≡ None)) ⊎ (((a : R × ℕ) × (r.answer ≡ Some a)) × (fresh ≡ false))
    go true true h f = inl (h, idle holding f)
    go true false h f = inr (both r.answer fresh f)
    go false unanswered h f = inr (both r.answer fresh f)

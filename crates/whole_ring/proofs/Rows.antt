-- THE ROW IN HAND has the answer of what was heard for it: so it stays by a master's choices and frames.
use Rattle.std.proofs.Common.{◌≡◌, ℕ, Bool, true, false, List, [], ◌∷◌, ◌++◌, refl, ap}
use Rattle.std.specs.Prelude.{Option, Some, None, if◌then◌else◌, option_map, ◌&&◌}
use Rattle.slave_lives.specs.of_exchange_model.Exchange.{Speech, plain}
use Rattle.slave_lives.specs.of_exchange_model.Rows.{Row, begun, answer_after, row_heard, row_told}
use Rattle.slave_lives.specs.of_link_model.Frames.{all_accepted}
use Rattle.slave_lives.specs.of_link_model.Segment.{RingFate}
use Rattle.slave_lives.specs.of_segment_model.Record.{News}
use Rattle.slave_lives.specs.of_segment_model.Slaves.{Datagram, grams}
use Rattle.slave_lives.specs.of_segment_model.Seats.{Side, side_begins, side_holds, is_over, next_mail}
use Rattle.slave_lives.specs.of_state_model.Accounts.{Pick, mails_choice}
use Rattle.slave_lives.specs.of_life_model.Lives.{Era, era_next, era_after, granted}
use Rattle.slave_lives.specs.of_life_model.Own.{own}
use Rattle.slave_lives.specs.Ends.{IsAnswered}

module _ {M Q R : Type 0} (x : Speech M Q R) (none : (q : Q) → x.ends q [] ≡ None) where
  again : (frame next : ℕ) (a : Option (R × ℕ)) (found : Option R) → answer_after next (answer_after frame a found) found ≡ answer_after frame a found
  again frame next (Some a) found = refl
  again frame next None None = refl
  again frame next None (Some r) = refl

  heard : (frame : ℕ) (ms : List M) (now : Option (Row M Q R)) → IsAnswered x now → IsAnswered x (option_map (λ r. row_heard x frame ms r) now)
  heard frame ms None is = tt
  heard frame ms (Some r) is = λ next. again frame next r.answer (x.ends r.service (plain x.emission (r.heard ++ ms)))

  told : (m : M) (now : Option (Row M Q R)) → IsAnswered x now → IsAnswered x (option_map (λ r. row_told m r) now)
  told m None is = tt
  told m (Some r) is = is

  anew : (q : Q) (frame : ℕ) → IsAnswered x (Some (begun {M = M} {Q = Q} {R = R} q frame))
  anew q frame = λ next. ap (λ (found : Option R). answer_after next (let a : Option (R × ℕ) = None in a) found) (none q)

  begins : (frame : ℕ) (d : Side M Q R) (now : Option (Row M Q R)) (b : Option Q) → IsAnswered x d.now → IsAnswered x (side_begins x frame d now b).now
  begins frame d None None is = is
  begins frame d (Some r) None is = is
  begins frame d None (Some q) is = go (x.valid q)
    where
      go : (b : Bool) → IsAnswered x (if b then record d { now = Some (begun q frame) } else d).now
      go true = anew q frame
      go false = is
  begins frame d (Some r) (Some q) is = go (x.valid q && is_over x d.halves.out.holding d.fresh r)
    where
      go : (b : Bool) → IsAnswered x (if b then record d { past = d.past ++ r ∷ []; now = Some (begun q frame) } else d).now
      go true = anew q frame
      go false = is

  holds : (d : Side M Q R) (ms : List M) → IsAnswered x d.now → IsAnswered x (side_holds d ms).now
  holds d [] is = is
  holds d (m ∷ ms) is = told m d.now is

  module _ (acknowledged : Q → Bool) (more : M → Bool) (passed : Q → Bool) where
    pub next_answered : (frame : ℕ) (e : Era M Q R) (pick : Pick Q) → IsAnswered x e.side.now → IsAnswered x (era_next x acknowledged more passed frame e pick).side.now
    next_answered frame e pick is =
        let choice = mails_choice e.account (granted e.passing pick) in
        let side = side_begins x frame e.side e.side.now choice.begin in
        holds side (next_mail x side.now side.halves.out.holding choice.hold) (begins frame e.side e.side.now choice.begin is)

    pub after_answered : (station frame : ℕ) (news : List (News M)) (sent : List (Datagram M)) (fate : RingFate) (back : List (Datagram M)) (e : Era M Q R) → IsAnswered x e.side.now →
        IsAnswered x (era_after x acknowledged more passed station frame news sent fate back e).side.now
    after_answered station frame news sent RingFate.Back back e is = heard frame (all_accepted station e.side.halves (grams (own station back))) e.side.now is
    after_answered station frame news sent (RingFate.Lost after) back e is = is

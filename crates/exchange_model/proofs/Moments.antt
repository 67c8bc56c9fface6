-- The laws of rows at every type of states, mails, services and replies.
use Rattle.std.proofs.Common.{◌≡◌, ℕ, ◌+◌, ◌≤◌, true, List, [], ◌∷◌, ◌++◌, length, Some, refl, ap, arith, length-append}
use Rattle.exchange_model.specs.Prefix.{IsPrefixOf}
use Rattle.exchange_model.specs.Exchange.{Exchange, IsLawful, after, given}
use Rattle.exchange_model.specs.Rows.{Row, Fits, Rest, begun, row_heard, row_told, left}
use Rattle.exchange_model.specs.Laws.{Moment}
use Rattle.exchange_model.proofs.Lists.{prefix_more, prefix_trans}
use Rattle.exchange_model.proofs.Words.{given_part}
use Rattle.exchange_model.proofs.Steps.{first_fits, held_fits, taken_fits, heard_fits, answered_next, handed_next, answered_whole, handed_whole}
use Rattle.exchange_model.proofs.Promises.{rows_fit, rows_rest}

module _ {V A M Q R : Type 0} (x : Exchange V A M Q R) (law : IsLawful x) (v : V) (ready : x.ready v ≡ true) where
  pub first : (q : Q) (frame : ℕ) → x.speech.valid q ≡ true → Moment x v [] [] (begun q frame) [] [] []
  first q frame valid = record { fits = first_fits x law v ready q frame valid; order = ([], refl); hears = ([], refl) }

  module _ (front last : List (Row M Q R)) (now : Row M Q R) (held taken accepted : List M) (at : Moment x v front last now held taken accepted) where
    pub holds : (m : M) (more : List M) → left x.speech now ≡ m ∷ more → Moment x v front last (row_told m now) (held ++ m ∷ []) taken accepted
    holds m more next = record {
      fits = held_fits x law v ready front last now held taken accepted at.fits at.order at.hears m more next;
      order = prefix_more taken held (m ∷ []) at.order;
      hears = at.hears;
    }

    pub takes : (ms : List M) → IsPrefixOf (taken ++ ms) held → Moment x v front last now held (taken ++ ms) accepted
    takes ms order = record {
      fits = taken_fits x law v ready front last now held taken accepted at.fits ms;
      order = order;
      hears = prefix_trans accepted (given x.serve v taken) (given x.serve v (taken ++ ms)) at.hears (given_part x.serve v taken (taken ++ ms) (ms, refl));
    }

    pub hears : (ms : List M) (frame : ℕ) → IsPrefixOf (accepted ++ ms) (given x.serve v taken) → Moment x v front last (row_heard x.speech frame ms now) held taken (accepted ++ ms)
    hears ms frame more = record {
      fits = heard_fits x law v ready front last now held taken accepted at.fits at.order ms more frame;
      order = at.order;
      hears = more;
    }

    pub answered : (answer : R × ℕ) → now.answer ≡ Some answer → left x.speech now ≡ [] → (q : Q) (frame : ℕ) → x.speech.valid q ≡ true →
        Moment x v (front ++ last) (now ∷ []) (begun q frame) held taken accepted
    answered answer is over q frame valid = record {
      fits = answered_next x law v ready front last now held taken accepted at.fits at.order at.hears answer is over q frame valid;
      order = at.order;
      hears = at.hears;
    }

    pub handed : x.speech.handed now.service ≡ true → left x.speech now ≡ [] → length held ≤ length taken + 1 → (q : Q) (frame : ℕ) → x.speech.valid q ≡ true →
        Moment x v (front ++ last) (now ∷ []) (begun q frame) held taken accepted
    handed posts over few q frame valid =
        let one : length at.order.0 ≤ 1 = omega (arith, ap length at.order.1, length-append taken at.order.0) in
        record {
          fits = handed_next x law v ready front last now held taken accepted at.fits at.order at.hears posts over one q frame valid;
          order = at.order;
          hears = at.hears;
        }

    pub fits : Fits x v (front ++ last ++ now ∷ []) (after x.serve v taken) accepted
    fits = rows_fit x law v ready front last now held taken accepted at.fits at.order at.hears

    pub rest_answered : (answer : R × ℕ) → now.answer ≡ Some answer → left x.speech now ≡ [] → taken ≡ held → accepted ≡ given x.serve v taken →
        Rest x v (front ++ last ++ now ∷ []) (after x.serve v taken) accepted
    rest_answered answer is over = rows_rest x law v ready front last now held taken accepted at.fits at.order at.hears
        (answered_whole x law v ready front last now held taken accepted at.fits at.order at.hears answer is over).0

    pub rest_handed : x.speech.handed now.service ≡ true → left x.speech now ≡ [] → taken ≡ held → accepted ≡ given x.serve v taken →
        Rest x v (front ++ last ++ now ∷ []) (after x.serve v taken) accepted
    rest_handed posts over = rows_rest x law v ready front last now held taken accepted at.fits at.order at.hears
        (handed_whole x law v ready front last now held taken accepted at.fits at.order at.hears posts over)

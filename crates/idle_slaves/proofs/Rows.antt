-- A service in hand is over where nothing is left to tell, to take and to hear.
use Rattle.std.proofs.Common.{◌≡◌, ℕ, Bool, true, false, is_none, is_some, Option, Some, None, List, [], ◌++◌, length, refl, sym, ap, ◌∙◌, append-nil, if◌then◌else◌}
use Rattle.std.specs.Prelude.{◌&&◌, not, drop}
use Rattle.plan_ring.specs.of_exchange_model.Exchange.{Exchange, IsLawful, after, given, plain}
use Rattle.plan_ring.specs.of_exchange_model.Laws.{Moment}
use Rattle.plan_ring.specs.of_exchange_model.Rows.{Row, answer_after, left, told_all, heard_all}
use Rattle.plan_ring.proofs.of_exchange_model.Lists.{append_cancel}
use Rattle.plan_ring.proofs.of_exchange_model.Settles.{settled_heard, settled_ready}
use Rattle.plan_ring.proofs.of_exchange_model.Words.{plain-append, plain_given-append}
use Rattle.plan_ring.specs.of_link_model.Mails.{LinkMail}
use Rattle.plan_ring.specs.of_segment_model.Seats.{is_over, is_none_left}
use Rattle.idle_slaves.specs.Rows.{NeverWaits}

module _ {V A M Q R : Type 0} (x : Exchange V A M Q R) (law : IsLawful x) (never : NeverWaits x) (v : V) (ready : x.ready v ≡ true) (front last : List (Row M Q R)) (now : Row M Q R) (held taken accepted : List M)
    (at : Moment x v front last now held taken accepted) (all : taken ≡ held) (heard : accepted ≡ given x.serve v taken) (none : left x.speech now ≡ []) where
  abbrev past : List (Row M Q R)
  past = front ++ last

  abbrev before : V
  before = after x.serve v (told_all past)

  abbrev plainly : List M → List M
  plainly = plain x.speech.emission

  abbrev no_mail : Option (LinkMail M)
  no_mail = None

  -- all that replies to what was told was heard
  replies : plainly now.heard ≡ plainly (given x.serve before now.told)
  replies = append_cancel (plainly (given x.serve v (told_all past))) (plainly now.heard) (plainly (given x.serve before now.told))
      (sym (ap plainly at.fits.all_accepted ∙ plain-append x.speech.emission (heard_all past) now.heard ∙ ap (λ l. l ++ plainly now.heard) (settled_heard x law v past at.fits.settled))
      ∙ ap plainly heard ∙ ap (λ l. plainly (given x.serve v l)) (all ∙ at.fits.all_held) ∙ plain_given-append x.serve x.speech.emission v (told_all past) now.told)

  -- and all was told
  whole : x.full before now.service ≡ now.told
  whole =
      let rest : at.fits.mine.0 ≡ [] = never before now.service (settled_ready x law v past ready at.fits.settled) at.fits.valid now.told at.fits.mine.0 (sym at.fits.mine.1)
      (ap (λ l. drop (length now.told) (x.speech.planned now.service l)) (sym replies) ∙ none) in
      sym at.fits.mine.1 ∙ ap (λ l. now.told ++ l) rest ∙ append-nil now.told

  pub ends : x.speech.handed now.service ≡ false → x.speech.ends now.service (plainly now.heard) ≡ Some (x.reply (x.app before) now.service)
  ends waits =
      ap (x.speech.ends now.service) (replies ∙ ap (λ l. plainly (given x.serve before l)) (sym whole)) ∙ law.replied before now.service (settled_ready x law v past ready at.fits.settled) at.fits.valid waits

  -- so it has its answer
  some_answer : (answer : Option (R × ℕ)) (found : Option R) (reply : R) → found ≡ Some reply → answer_after 0 answer found ≡ answer → is_some answer ≡ true
  some_answer (Some a) found reply e f = refl
  some_answer None (Some r) reply e f = absurd (let no : Some (r, 0) ≡ None = f in cc)
  some_answer None None reply e f = absurd (cc)

  over_by : (b : Bool) → x.speech.handed now.service ≡ b → ((frame : ℕ) → answer_after frame now.answer (x.speech.ends now.service (plainly now.heard)) ≡ now.answer) → (if b && is_none now.answer then is_none no_mail else is_some now.answer && not false) ≡ true
  over_by true e f = answered_or now.answer
    where
      answered_or : (o : Option (R × ℕ)) → (if is_none o then is_none no_mail else is_some o && not false) ≡ true
      answered_or None = refl
      answered_or (Some a) = refl
  over_by false e f = ap (λ z. z && true) (some_answer now.answer (x.speech.ends now.service (plainly now.heard)) (x.reply (x.app before) now.service) (ends e) (f 0))

  pub over : ((frame : ℕ) → answer_after frame now.answer (x.speech.ends now.service (plainly now.heard)) ≡ now.answer) → is_over x.speech None false now ≡ true
  over f = ap (λ l. is_none_left l && (if x.speech.handed now.service && is_none now.answer then is_none no_mail else is_some now.answer && not false)) none ∙ over_by (x.speech.handed now.service) refl f

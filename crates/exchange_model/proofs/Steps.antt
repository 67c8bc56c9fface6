-- What a session does with its newest row keeps that rows fit: it begins one, takes up a mail, hears mails, and its server takes some.
use Rattle.std.proofs.Common.{◌≡◌, inl, inr, ℕ, suc, ◌+◌, ◌≤◌, Bool, true, false, List, [], ◌∷◌, ◌++◌, length, drop, Option, None, Some, refl, sym, ap, ◌∙◌, subst, append_assoc, append-nil, arith, le_trans, length-append}
use Rattle.exchange_model.specs.Prefix.{IsPrefixOf}
use Rattle.exchange_model.specs.Exchange.{Exchange, IsLawful, after, given, plain}
use Rattle.exchange_model.specs.Rows.{Row, IsWhole, Fitting, begun, row_heard, row_told, left, answer_after, told_all, heard_all}
use Rattle.exchange_model.proofs.Lists.{cut, next_of_prefix, none_left, prefix_nil, prefix_trans, both_ways}
use Rattle.exchange_model.proofs.Words.{after-append, plain-append, grows_all}
use Rattle.exchange_model.proofs.Settles.{settled_ready, settled_handled, settled_more, told_all_last, heard_all_last}
use Rattle.exchange_model.proofs.Nows.{Complete, heard_begins, complete}

module _ {V A M Q R : Type 0} (x : Exchange V A M Q R) (law : IsLawful x) (v : V) (ready : x.ready v ≡ true) where
  -- the first row, at a new link
  pub first_fits : (q : Q) (frame : ℕ) → x.speech.valid q ≡ true → Fitting x v [] [] (begun q frame) [] [] []
  first_fits q frame valid = record {
    valid = valid;
    settled = tt;
    mine = (x.full v q, refl);
    all_held = refl;
    all_accepted = refl;
    all_taken = ([], refl);
    one = omega arith;
    counted = λ r e. absurd (cc);
    answered = λ answer e. absurd (cc);
  }

  module _ (front last : List (Row M Q R)) (now : Row M Q R) (held taken accepted : List M) (fits : Fitting x v front last now held taken accepted) where
    -- the client's side takes up the next mail of the newest row
    pub held_fits : IsPrefixOf taken held → IsPrefixOf accepted (given x.serve v taken) → (m : M) (more : List M) → left x.speech now ≡ m ∷ more →
        Fitting x v front last (row_told m now) (held ++ m ∷ []) taken accepted
    held_fits order hears m more next =
        let w = after x.serve v (told_all (front ++ last)) in
        let begins = heard_begins x law v (front ++ last) now held taken accepted fits.settled fits.all_held fits.all_accepted order hears fits.mine in
        let plan : IsPrefixOf (x.speech.planned now.service (plain x.speech.emission now.heard)) (x.full w now.service) =
        law.follows w now.service (settled_ready x law v (front ++ last) ready fits.settled) fits.valid (plain x.speech.emission now.heard) begins.0 (sym begins.1) in
        record {
          valid = fits.valid;
          settled = fits.settled;
          mine = next_of_prefix now.told (x.speech.planned now.service (plain x.speech.emission now.heard)) (x.full w now.service) m more fits.mine plan next;
          all_held = ap (λ l. l ++ m ∷ []) fits.all_held ∙ append_assoc (told_all (front ++ last)) now.told (m ∷ []);
          all_accepted = fits.all_accepted;
          all_taken = fits.all_taken;
          one = fits.one;
          counted = fits.counted;
          answered = fits.answered;
        }

    -- the server takes mails
    pub taken_fits : (ms : List M) → Fitting x v front last now held (taken ++ ms) accepted
    taken_fits ms = record {
      valid = fits.valid;
      settled = fits.settled;
      mine = fits.mine;
      all_held = fits.all_held;
      all_accepted = fits.all_accepted;
      all_taken = prefix_trans (told_all front) taken (taken ++ ms) fits.all_taken (ms, refl);
      one = fits.one;
      counted = λ r is replies. le_trans (fits.counted r is replies)
          (subst (λ w. x.handled (after x.serve v taken) ≤ x.handled w) (sym (after-append x.serve v taken ms)) (grows_all x law (after x.serve v taken) ms));
      answered = fits.answered;
    }

    -- what an answer says, when more is heard
    heard_answer : IsPrefixOf taken held → (ms : List M) → IsPrefixOf (accepted ++ ms) (given x.serve v taken) → (frame : ℕ) (old : Option (R × ℕ)) (found : Option R) →
        now.answer ≡ old → x.speech.ends now.service (plain x.speech.emission (now.heard ++ ms)) ≡ found → (answer : R × ℕ) → answer_after frame old found ≡ Some answer →
        (x.speech.handed now.service ≡ false) × (x.speech.ends now.service (plain x.speech.emission (now.heard ++ ms)) ≡ Some answer.0)
    heard_answer order ms hears frame (Some a) found was ends answer e =
        let known = fits.answered a was in
        let w = after x.serve v (told_all (front ++ last)) in
        let less : IsPrefixOf accepted (given x.serve v taken) = prefix_trans accepted (accepted ++ ms) (given x.serve v taken) (ms, refl) hears in
        let done = complete x law v (front ++ last) now held taken accepted fits.settled fits.all_held fits.all_accepted order less ready fits.valid fits.mine known.0 a.0 known.1 in
        let begins = heard_begins x law v (front ++ last) (row_heard x.speech frame ms now) held taken (accepted ++ ms) fits.settled fits.all_held
        (ap (λ l. l ++ ms) fits.all_accepted ∙ append_assoc (heard_all (front ++ last)) now.heard ms) order hears fits.mine in
        let equal : plain x.speech.emission (now.heard ++ ms) ≡ plain x.speech.emission now.heard = both_ways (plain x.speech.emission (now.heard ++ ms)) (plain x.speech.emission now.heard)
        (subst (IsPrefixOf (plain x.speech.emission (now.heard ++ ms))) (sym done.all_heard) begins)
        (plain x.speech.emission ms, sym (plain-append x.speech.emission now.heard ms)) in
        let same : a ≡ answer = cc in
        (known.0, ap (x.speech.ends now.service) equal ∙ known.1 ∙ ap (λ (one : R × ℕ). Some one.0) same)
    heard_answer order ms hears frame None None was ends answer e = absurd (cc)
    heard_answer order ms hears frame None (Some r) was ends answer e =
        let same : (r, frame) ≡ answer = cc in
        (replies (x.speech.handed now.service) refl, ends ∙ ap (λ (one : R × ℕ). Some one.0) same)
      where
        replies : (b : Bool) → x.speech.handed now.service ≡ b → x.speech.handed now.service ≡ false
        replies false is = is
        replies true is = absurd (let none = law.unanswered now.service (plain x.speech.emission (now.heard ++ ms)) is in cc)

    -- the client's side hears mails
    pub heard_fits : IsPrefixOf taken held → (ms : List M) → IsPrefixOf (accepted ++ ms) (given x.serve v taken) → (frame : ℕ) →
        Fitting x v front last (row_heard x.speech frame ms now) held taken (accepted ++ ms)
    heard_fits order ms hears frame = record {
      valid = fits.valid;
      settled = fits.settled;
      mine = fits.mine;
      all_held = fits.all_held;
      all_accepted = ap (λ l. l ++ ms) fits.all_accepted ∙ append_assoc (heard_all (front ++ last)) now.heard ms;
      all_taken = fits.all_taken;
      one = fits.one;
      counted = fits.counted;
      answered = heard_answer order ms hears frame now.answer (x.speech.ends now.service (plain x.speech.emission (now.heard ++ ms))) refl refl;
    }

    -- a row that has heard all and told all that it has to tell is whole
    row_whole : plain x.speech.emission now.heard ≡ plain x.speech.emission (given x.serve (after x.serve v (told_all (front ++ last))) (x.full (after x.serve v (told_all (front ++ last))) now.service)) →
        left x.speech now ≡ [] →
        ((answer : R × ℕ) → now.answer ≡ Some answer → answer.0 ≡ x.reply (x.app (after x.serve v (told_all (front ++ last)))) now.service) →
        IsWhole x (after x.serve v (told_all (front ++ last))) now
    row_whole all over reply =
        let w = after x.serve v (told_all (front ++ last)) in
        let planned : x.speech.planned now.service (plain x.speech.emission now.heard) ≡ x.full w now.service =
        ap (x.speech.planned now.service) all ∙ law.all_planned w now.service (settled_ready x law v (front ++ last) ready fits.settled) fits.valid in
        let told : now.told ≡ x.full w now.service = none_left now.told (x.full w now.service) fits.mine (ap (drop (length now.told)) (sym planned) ∙ over) in
        record {
          valid = fits.valid;
          told = told;
          heard = all ∙ ap (λ ms. plain x.speech.emission (given x.serve w ms)) (sym told);
          reply = reply;
          by_reply = λ answer e. (fits.answered answer e).0;
        }

    -- the newest row is over and the next begins
    next_fits : IsWhole x (after x.serve v (told_all (front ++ last))) now → IsPrefixOf (told_all (front ++ last)) taken →
        (x.speech.handed now.service ≡ false → x.handled v + length (front ++ last ++ now ∷ []) ≤ x.handled (after x.serve v taken)) →
        (q : Q) (frame : ℕ) → x.speech.valid q ≡ true → Fitting x v (front ++ last) (now ∷ []) (begun q frame) held taken accepted
    next_fits whole all_taken carried q frame valid = record {
      valid = valid;
      settled = settled_more x law v (front ++ last) now fits.settled whole;
      mine = (x.full (after x.serve v (told_all (front ++ last ++ now ∷ []))) q, refl);
      all_held = fits.all_held ∙ sym (told_all_last (front ++ last) now) ∙ sym (append-nil (told_all (front ++ last ++ now ∷ [])));
      all_accepted = fits.all_accepted ∙ sym (heard_all_last (front ++ last) now) ∙ sym (append-nil (heard_all (front ++ last ++ now ∷ [])));
      all_taken = all_taken;
      one = omega arith;
      counted = λ r is replies. carried (let same : now ≡ r = cc in subst (λ (one : Row M Q R). x.speech.handed one.service ≡ false) (sym same) replies);
      answered = λ answer e. absurd (cc);
    }

    -- the newest row has its reply and nothing left to tell
    pub answered_whole : IsPrefixOf taken held → IsPrefixOf accepted (given x.serve v taken) → (answer : R × ℕ) → now.answer ≡ Some answer → left x.speech now ≡ [] →
        IsWhole x (after x.serve v (told_all (front ++ last))) now × Complete x v (front ++ last) now taken answer.0
    answered_whole order hears answer is over =
        let finish = λ (a : R × ℕ). λ (e : now.answer ≡ Some a).
        complete x law v (front ++ last) now held taken accepted fits.settled fits.all_held fits.all_accepted order hears ready fits.valid fits.mine (fits.answered a e).0 a.0 (fits.answered a e).1 in
        (row_whole (finish answer is).all_heard over (λ a e. (finish a e).is), finish answer is)

    -- the newest row ends with its last write and has nothing left to tell
    pub handed_whole : IsPrefixOf taken held → IsPrefixOf accepted (given x.serve v taken) → x.speech.handed now.service ≡ true → left x.speech now ≡ [] →
        IsWhole x (after x.serve v (told_all (front ++ last))) now
    handed_whole order hears handed over =
        let w = after x.serve v (told_all (front ++ last)) in
        let silent = law.silent w now.service (settled_ready x law v (front ++ last) ready fits.settled) fits.valid handed in
        let begins = heard_begins x law v (front ++ last) now held taken accepted fits.settled fits.all_held fits.all_accepted order hears fits.mine in
        let all : plain x.speech.emission now.heard ≡ plain x.speech.emission (given x.serve w (x.full w now.service)) =
        prefix_nil _ (subst (IsPrefixOf (plain x.speech.emission now.heard)) silent begins) ∙ sym silent in
        row_whole all over (λ a e. absurd (let no = (fits.answered a e).0 in cc))

    -- then the next may begin, though the last mail of an answered row may still be held
    pub answered_next : IsPrefixOf taken held → IsPrefixOf accepted (given x.serve v taken) → (answer : R × ℕ) → now.answer ≡ Some answer → left x.speech now ≡ [] →
        (q : Q) (frame : ℕ) → x.speech.valid q ≡ true → Fitting x v (front ++ last) (now ∷ []) (begun q frame) held taken accepted
    answered_next order hears answer is over q frame valid =
        let both = answered_whole order hears answer is over in
        let done = both.1 in
        let counts : x.handled (after x.serve v taken) ≡ suc (x.handled v + length (front ++ last)) =
        ap (λ ms. x.handled (after x.serve v ms)) done.taken_is ∙ ap x.handled (after-append x.serve v (told_all (front ++ last)) done.own) ∙ done.behind.handled
        ∙ ap suc (settled_handled x law v (front ++ last) ready fits.settled) in
        let carried : x.handled v + length (front ++ last ++ now ∷ []) ≤ x.handled (after x.serve v taken) = omega (arith, counts, length-append (front ++ last) (now ∷ [])) in
        next_fits both.0 (done.own, sym done.taken_is) (λ _. carried) q frame valid

    -- or, behind a last write, where at most one mail is on its way
    pub handed_next : (order : IsPrefixOf taken held) → IsPrefixOf accepted (given x.serve v taken) → x.speech.handed now.service ≡ true → left x.speech now ≡ [] → length order.0 ≤ 1 →
        (q : Q) (frame : ℕ) → x.speech.valid q ≡ true → Fitting x v (front ++ last) (now ∷ []) (begun q frame) held taken accepted
    handed_next order hears handed over few q frame valid =
        let w = after x.serve v (told_all (front ++ last)) in
        let whole = handed_whole order hears handed over in
        let some = law.some w now.service (settled_ready x law v (front ++ last) ready fits.settled) fits.valid handed in
        let taken_all : IsPrefixOf (told_all (front ++ last)) taken =
        elim (cut (told_all (front ++ last)) now.told taken order.0 (sym fits.all_held ∙ sym order.1)) [
          | inl c ↦ (c.0, sym c.1)
          | inr c ↦ on_the_way c.0 now.told (told_all (front ++ last)) taken order.0 c.1 c.2 few (λ none. some (sym whole.told ∙ none))
        ] in
        next_fits whole taken_all (λ no. absurd (cc)) q frame valid
      where
        on_the_way : {X : Type 0} (ahead mails past took rest : List X) → past ≡ took ++ ahead → rest ≡ ahead ++ mails → length rest ≤ 1 → (mails ≡ [] → ⊥) → IsPrefixOf past took
        on_the_way [] mails past took rest e f few some = ([], append-nil past ∙ e ∙ append-nil took)
        on_the_way (m ∷ ahead) [] past took rest e f few some = absurd (some refl)
        on_the_way (m ∷ ahead) (n ∷ mails) past took rest e f few some = absurd (omega (arith, ap length f, length-append ahead (n ∷ mails)))

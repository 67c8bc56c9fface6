-- What rows that fit promise of the server.
use Rattle.std.proofs.Common.{◌≡◌, ℕ, suc, ◌+◌, ◌<◌, ◌≤◌, true, false, List, [], ◌∷◌, ◌++◌, length, Some, refl, sym, ap, ◌∙◌, subst, arith, length-append}
use Rattle.exchange_model.specs.Prefix.{IsPrefixOf}
use Rattle.exchange_model.specs.Exchange.{Exchange, IsLawful, after, given, emitted}
use Rattle.exchange_model.specs.Rows.{Row, IsWhole, Settled, Fitting, Fits, Rest, InDone, Replied, told_all, services, exec_all}
use Rattle.exchange_model.proofs.Lists.{filter_both, prefix_trans}
use Rattle.exchange_model.proofs.Words.{after-append, grows_all}
use Rattle.exchange_model.proofs.Parts.{Done, part_done}
use Rattle.exchange_model.proofs.Settles.{settled_handled, settled_app, settled_front, settled_more, settled_emits, told_all_last, whole_behind, whole_ready}
use Rattle.exchange_model.proofs.Nows.{Complete, complete}

-- rows below a count
in_done_below : {M Q R : Type 0} (count number : ℕ) (rs : List (Row M Q R)) → number + length rs ≤ count → InDone count number rs
in_done_below count number [] below = tt
in_done_below count number (r ∷ rs) below = ((λ answer e. omega arith), in_done_below count (suc number) rs (omega arith))

in_done-append : {M Q R : Type 0} (count number : ℕ) (rs ss : List (Row M Q R)) → InDone count number rs → InDone count (number + length rs) ss → InDone count number (rs ++ ss)
in_done-append count number [] ss none more = let same : number + 0 ≡ number = omega arith in subst (λ n. InDone count n ss) same more
in_done-append count number (r ∷ rs) ss all more =
    let same : number + suc (length rs) ≡ suc number + length rs = omega arith in
    (all.0, in_done-append count (suc number) rs ss all.1 (subst (λ n. InDone count n ss) same more))

module _ {V A M Q R : Type 0} (x : Exchange V A M Q R) (law : IsLawful x) where
  replied_last : (a : A) (rs : List (Row M Q R)) (r : Row M Q R) → Replied x a rs →
      ((answer : R × ℕ) → r.answer ≡ Some answer → answer.0 ≡ x.reply (exec_all x a (services rs)) r.service) → Replied x a (rs ++ r ∷ [])
  replied_last a [] r all reply = (reply, tt)
  replied_last a (first ∷ rs) r all reply = (all.0, replied_last (x.exec a first.service) rs r all.1 reply)

  settled_replied : (v : V) (rs : List (Row M Q R)) → x.ready v ≡ true → Settled x v rs → Replied x (x.app v) rs
  settled_replied v [] ready settled = tt
  settled_replied v (r ∷ rs) ready settled =
      (settled.0.reply, subst (λ a. Replied x a rs) (whole_behind x law v r ready settled.0).app (settled_replied (after x.serve v r.told) rs (whole_ready x law v r ready settled.0) settled.1))

  module _ (v : V) (ready : x.ready v ≡ true) (front last : List (Row M Q R)) (now : Row M Q R) (held taken accepted : List M)
      (fits : Fitting x v front last now held taken accepted) (order : IsPrefixOf taken held) (hears : IsPrefixOf accepted (given x.serve v taken)) where
    done : Done x v (front ++ last ++ now ∷ []) taken
    done = part_done x law v (front ++ last) now taken order.0 ready fits.settled fits.valid fits.mine (sym fits.all_held ∙ sym order.1)

    finish : (answer : R × ℕ) → now.answer ≡ Some answer → Complete x v (front ++ last) now taken answer.0
    finish answer e = complete x law v (front ++ last) now held taken accepted fits.settled fits.all_held fits.all_accepted order hears ready fits.valid fits.mine
        (fits.answered answer e).0 answer.0 (fits.answered answer e).1

    front_below : length front ≤ done.count
    front_below =
        let settled = settled_front x law v front last fits.settled in
        let more : x.handled (after x.serve v (told_all front)) ≤ x.handled (after x.serve v taken) =
        subst (λ ms. x.handled (after x.serve v (told_all front)) ≤ x.handled (after x.serve v ms)) fits.all_taken.1
        (subst (λ w. x.handled (after x.serve v (told_all front)) ≤ x.handled w) (sym (after-append x.serve v (told_all front) fits.all_taken.0))
        (grows_all x law (after x.serve v (told_all front)) fits.all_taken.0)) in
        omega (arith, more, done.handled, settled_handled x law v front ready settled)

    last_done : (rows : List (Row M Q R)) → last ≡ rows → length rows ≤ 1 → InDone done.count (length front) rows
    last_done [] is few = tt
    last_done (r ∷ []) is few = (
      (λ answer e.
          let settled : Settled x v (front ++ r ∷ []) = subst (λ rs. Settled x v (front ++ rs)) is fits.settled in
          let carried = fits.counted r is (last_by_reply v front r settled answer e) in
          let long : length (front ++ last) ≡ suc (length front) = ap (λ rs. length (front ++ rs)) is ∙ length-append front (r ∷ []) ∙ omega arith in
          omega (arith, carried, done.handled, long)),
      tt,
    )
      where
        last_by_reply : (w : V) (rs : List (Row M Q R)) (one : Row M Q R) → Settled x w (rs ++ one ∷ []) → (answer : R × ℕ) → one.answer ≡ Some answer → x.speech.handed one.service ≡ false
        last_by_reply w [] one settled answer e = settled.0.by_reply answer e
        last_by_reply w (first ∷ rs) one settled answer e = last_by_reply (after x.serve w first.told) rs one settled.1 answer e
    last_done (r ∷ s ∷ rows) is few = absurd (omega arith)

    now_done : (answer : R × ℕ) → now.answer ≡ Some answer → length (front ++ last) < done.count
    now_done answer e =
        let over = finish answer e in
        let counts : x.handled (after x.serve v taken) ≡ suc (x.handled v + length (front ++ last)) =
        ap (λ ms. x.handled (after x.serve v ms)) over.taken_is ∙ ap x.handled (after-append x.serve v (told_all (front ++ last)) over.own) ∙ over.behind.handled
        ∙ ap suc (settled_handled x law v (front ++ last) ready fits.settled) in
        omega (arith, counts, done.handled)

    pub rows_fit : Fits x v (front ++ last ++ now ∷ []) (after x.serve v taken) accepted
    rows_fit = record {
      count = done.count;
      handled = done.handled;
      app = done.app;
      prefix = done.prefix;
      behind = omega (arith, front_below, fits.one, length-append front last, length-append (front ++ last) (now ∷ []));
      in_done = in_done-append done.count 0 (front ++ last) (now ∷ [])
          (in_done-append done.count 0 front last (in_done_below done.count 0 front (let below = front_below in omega arith))
          (let same : length front ≡ 0 + length front = omega arith in subst (λ n. InDone done.count n last) same (last_done last refl fits.one)))
          ((λ answer e. let below = now_done answer e in omega arith), tt);
      replied = replied_last (x.app v) (front ++ last) now (settled_replied v (front ++ last) ready fits.settled)
          (λ answer e. (finish answer e).is ∙ ap (λ a. x.reply a now.service) (settled_app x law v (front ++ last) ready fits.settled));
      emissions = prefix_trans _ _ _ (filter_both x.speech.emission accepted (given x.serve v taken) hears) done.emissions;
    }

    -- with nothing left the server has carried out all
    pub rows_rest : IsWhole x (after x.serve v (told_all (front ++ last))) now → taken ≡ held → accepted ≡ given x.serve v taken →
        Rest x v (front ++ last ++ now ∷ []) (after x.serve v taken) accepted
    rows_rest whole all_taken all_given =
        let settled = settled_more x law v (front ++ last) now fits.settled whole in
        let same : taken ≡ told_all (front ++ last ++ now ∷ []) = all_taken ∙ fits.all_held ∙ sym (told_all_last (front ++ last) now) in
        record {
          handled = ap (λ ms. x.handled (after x.serve v ms)) same ∙ settled_handled x law v (front ++ last ++ now ∷ []) ready settled;
          app = ap (λ ms. x.app (after x.serve v ms)) same ∙ settled_app x law v (front ++ last ++ now ∷ []) ready settled;
          emissions = ap (emitted x.speech.emission) all_given ∙ ap (λ ms. emitted x.speech.emission (given x.serve v ms)) same
              ∙ settled_emits x law v (front ++ last ++ now ∷ []) ready settled;
        }

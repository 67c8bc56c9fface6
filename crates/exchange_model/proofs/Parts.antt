-- Whatever part of the mails of rows a server has taken, it has carried out just the first services of these rows.
use Rattle.std.proofs.Common.{◌≡◌, ◌⊎◌, inl, inr, ℕ, suc, ◌+◌, ◌≤◌, true, List, [], ◌∷◌, ◌++◌, take, length, sym, ap, ◌∙◌, subst, append_assoc, append-nil, arith}
use Rattle.exchange_model.specs.Prefix.{IsPrefixOf}
use Rattle.exchange_model.specs.Exchange.{Exchange, IsLawful, Before, Behind, after, given, emitted}
use Rattle.exchange_model.specs.Rows.{Row, IsWhole, Settled, told_all, services, exec_all, emits_all}
use Rattle.exchange_model.proofs.Lists.{cut, filter-append, prefix_more, prefix_behind}
use Rattle.exchange_model.proofs.Words.{after-append, given-append}

-- what a server has done of rows that began behind v, when it has taken these mails
pub record Done {V A M Q R : Type 0} (x : Exchange V A M Q R) (v : V) (rows : List (Row M Q R)) (taken : List M) : Type 0 where
  pub count : ℕ
  pub handled : x.handled (after x.serve v taken) ≡ x.handled v + count
  pub app : x.app (after x.serve v taken) ≡ exec_all x (x.app v) (take count (services rows))
  pub prefix : count ≤ length rows
  pub emissions : IsPrefixOf (emitted x.speech.emission (given x.serve v taken)) (emits_all x (x.app v) (take count (services rows)))

module _ {V A M Q R : Type 0} (x : Exchange V A M Q R) (law : IsLawful x) where
  row_done : (v : V) (r : Row M Q R) (rows : List (Row M Q R)) (taken : List M) → Before x v taken ⊎ Behind x v r.service taken → Done x v (r ∷ rows) taken
  row_done v r rows taken (inl before) = record {
    count = 0;
    handled = before.handled ∙ omega arith;
    app = before.app;
    prefix = omega arith;
    emissions = ([], append-nil _ ∙ before.emitted);
  }
  row_done v r rows taken (inr behind) = record {
    count = 1;
    handled = behind.handled ∙ omega arith;
    app = behind.app;
    prefix = omega arith;
    emissions = prefix_more _ _ [] behind.emitted;
  }

  -- one row whole, and more of those behind it
  next_done : (v : V) (r : Row M Q R) (rows : List (Row M Q R)) (taken : List M) → x.ready v ≡ true → IsWhole x v r → Done x (after x.serve v r.told) rows taken → Done x v (r ∷ rows) (r.told ++ taken)
  next_done v r rows taken ready whole done =
      let all = law.whole v r.service ready whole.valid in
      let behind : Behind x v r.service r.told = subst (Behind x v r.service) (sym whole.told) all in
      let same : after x.serve v (r.told ++ taken) ≡ after x.serve (after x.serve v r.told) taken = after-append x.serve v r.told taken in
      let emits : emitted x.speech.emission (given x.serve v r.told) ≡ x.emits (x.app v) r.service =
      ap (λ ms. emitted x.speech.emission (given x.serve v ms)) whole.told ∙ law.all_emitted v r.service ready whole.valid in
      record {
        count = suc done.count;
        handled = ap x.handled same ∙ done.handled ∙ ap (λ n. n + done.count) behind.handled ∙ omega arith;
        app = ap x.app same ∙ done.app ∙ ap (λ a. exec_all x a (take done.count (services rows))) behind.app;
        prefix = omega (arith, done.prefix);
        emissions = subst (λ es. IsPrefixOf es (emits_all x (x.app v) (take (suc done.count) (services (r ∷ rows)))))
            (sym (ap (emitted x.speech.emission) (given-append x.serve v r.told taken) ∙ filter-append x.speech.emission _ _))
            (subst (λ es. IsPrefixOf (es ++ emitted x.speech.emission (given x.serve (after x.serve v r.told) taken)) (emits_all x (x.app v) (take (suc done.count) (services (r ∷ rows))))) (sym emits)
            (prefix_behind (x.emits (x.app v) r.service) _ _
            (subst (λ a. IsPrefixOf (emitted x.speech.emission (given x.serve (after x.serve v r.told) taken)) (emits_all x a (take done.count (services rows)))) behind.app done.emissions)));
      }

  pub part_done : (v : V) (past : List (Row M Q R)) (now : Row M Q R) (taken rest : List M) → x.ready v ≡ true → Settled x v past → x.speech.valid now.service ≡ true →
      IsPrefixOf now.told (x.full (after x.serve v (told_all past)) now.service) → told_all past ++ now.told ≡ taken ++ rest → Done x v (past ++ now ∷ []) taken
  part_done v [] now taken rest ready settled valid mine e =
      row_done v now [] taken (law.part v now.service ready valid taken (rest ++ mine.0) (sym mine.1 ∙ ap (λ l. l ++ mine.0) e ∙ append_assoc taken rest mine.0))
  part_done v (r ∷ past) now taken rest ready settled valid mine e =
      let whole = settled.0 in
      let on : x.ready (after x.serve v r.told) ≡ true = ap (λ ms. x.ready (after x.serve v ms)) whole.told ∙ law.ready v r.service ready whole.valid in
      elim (cut r.told (told_all past ++ now.told) taken rest (sym (append_assoc r.told (told_all past) now.told) ∙ e)) [
        | inl c ↦ subst (Done x v (r ∷ (past ++ now ∷ []))) (sym c.1)
            (next_done v r (past ++ now ∷ []) c.0 ready whole
            (part_done (after x.serve v r.told) past now c.0 rest on settled.1 valid
            (subst (λ w. IsPrefixOf now.told (x.full w now.service)) (after-append x.serve v r.told (told_all past)) mine) c.2))
        | inr c ↦ row_done v r (past ++ now ∷ []) taken (law.part v r.service ready whole.valid taken c.0 (sym whole.told ∙ c.1))
      ]

-- A server in a row, cleared, is the one behind whole rows, cleared.
use Rattle.std.proofs.Common.{◌≡◌, ◌⊎◌, inl, inr, ℕ, suc, ◌+◌, ◌-◌, ◌==◌, true, false, Option, None, Some, List, [], ◌∷◌, ◌++◌, ap, sym, ◌∙◌, subst, arith, append_assoc, eq-eqb, if◌then◌else◌}
use Rattle.std.proofs.lemmas.Bool.Decides.{nat_tests}
use Rattle.slave_parts.specs.of_exchange_model.Exchange.{Exchange, after}
use Rattle.slave_parts.specs.of_serving_model.Tagged.{IsServed, Untouched, Touched, Rowed, Meant, real, ideal, ideal_in, rows_done, serve_tagged}
use Rattle.few_replies.specs.Clearing.{InRowOf, InRow, Forgets, cleared_rowed}

same-is : (a b : ℕ) → a ≡ b → (a == b) ≡ true
same-is a b e = eq-eqb a b e

more-isnt : (a b : ℕ) → a ≡ suc b → (a == b) ≡ false
more-isnt a b e = grind (arith, nat_tests, e)

module _ {V M Q R : Type 0} (x : Exchange V V M Q R) where
  pub counts : (clear : V → V) (w : Rowed V M Q) → rows_done x (cleared_rowed x clear w) ≡ rows_done x w
  counts clear w = let none : x.handled (clear (real x w)) - x.handled (clear (real x w)) ≡ 0 = omega arith in ap (λ n. rows_done x w + n) none ∙ omega arith

  pub one_more : (w : Rowed V M Q) (q : Q) (m : M) (rest : List M) → w.hand ≡ Some q → x.ready w.base ≡ true → x.speech.valid q ≡ true → x.full w.base q ≡ w.part ++ m ∷ rest → InRow x (serve_tagged x w m Meant.More).0
  one_more w q m rest is ready valid full =
      let next : Rowed V M Q = record w { part = w.part ++ m ∷ [] } in
      subst (InRowOf x next) (sym is) (record { ready = ready; valid = valid; rest = rest; full = full ∙ sym (append_assoc w.part (m ∷ []) rest) })

  module _ {C : Type 0} (core : V → C) (law : IsServed x core) (clear : V → V) (forgets : Forgets x core clear) where
    in_row : (base : V) (part : List M) (q : Q) (rest : List M) → x.ready base ≡ true → x.speech.valid q ≡ true → x.full base q ≡ part ++ rest → clear (after x.serve base part) ≡ clear (ideal_in x base (after x.serve base part) (Some q))
    in_row base part q rest ready valid full = go (law.part base q ready valid part rest full)
      where
        now : V
        now = after x.serve base part

        go : Untouched x core base part ⊎ Touched x core base q part → clear (after x.serve base part) ≡ clear (if x.handled (after x.serve base part) == x.handled base then base else x.exec base q)
        go (inl u) = forgets (after x.serve base part) base u.core_is u.handled ∙ ap (λ b. clear (if b then base else x.exec base q)) (sym (same-is (x.handled (after x.serve base part)) (x.handled base) u.handled))
        go (inr t) = forgets (after x.serve base part) (x.exec base q) t.core_is (t.handled ∙ sym (law.counts base q ready valid))
            ∙ ap (λ b. clear (if b then base else x.exec base q)) (sym (more-isnt (x.handled (after x.serve base part)) (x.handled base) t.handled))

    pub clears : (w : Rowed V M Q) → InRow x w → clear (real x w) ≡ clear (ideal x w)
    clears w i = go w.hand i
      where
        go : (hand : Option Q) → InRowOf x w hand → clear (real x w) ≡ clear (ideal_in x w.base (real x w) hand)
        go None none = ap (λ p. clear (after x.serve w.base p)) none
        go (Some q) p = in_row w.base w.part q p.rest p.ready p.valid p.full

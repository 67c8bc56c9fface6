-- Places that are carried once.
use Rattle.std.proofs.Common.{◌≡◌, ℕ, ◌==◌, Bool, true, false, List, [], ◌∷◌, ◌++◌, refl, sym, ap, ◌∙◌, subst, eq-eqb}
use Rattle.std.specs.Prelude.{if◌then◌else◌}
use Rattle.std.proofs.lemmas.Bool.{eqb-true}
use Rattle.master_node.specs.of_master_tour.Made.{is_in}
use Rattle.master_node.specs.of_master_tour.Orders.{AreOnce, IsNextOf, IsCarried}
use Rattle.packets_heard.specs.Visits.{Carried}

in_more : (k p : ℕ) (ps : List ℕ) → is_in k ps ≡ false → (k == p) ≡ false → is_in k (ps ++ p ∷ []) ≡ false
in_more k p [] e n = ap (λ (z : Bool). if z then true else false) n
in_more k p (q ∷ ps) e n = go (k == q) refl e (in_more k p ps)
  where
    go : (z : Bool) → (k == q) ≡ z → (if k == q then true else is_in k ps) ≡ false → (is_in k ps ≡ false → (k == p) ≡ false → is_in k (ps ++ p ∷ []) ≡ false) → (if k == q then true else is_in k (ps ++ p ∷ [])) ≡ false
    go true f e h = absurd (let t = sym (ap (λ (z : Bool). if z then true else is_in k ps) f) ∙ e in cc)
    go false f e h = ap (λ (z : Bool). if z then true else is_in k (ps ++ p ∷ [])) f ∙ h (sym (ap (λ (z : Bool). if z then true else is_in k ps) f) ∙ e) n

-- who is among these isn't who isn't
not_same : (k p : ℕ) (ps : List ℕ) → is_in k ps ≡ true → is_in p ps ≡ false → (k == p) ≡ false
not_same k p ps a b = go (k == p) refl
  where
    go : (z : Bool) → (k == p) ≡ z → (k == p) ≡ false
    go false e = e
    go true e = absurd (let t = sym a ∙ ap (λ n. is_in n ps) (eqb-true k p e) ∙ b in cc)

other_way : (a b : ℕ) → (a == b) ≡ false → (b == a) ≡ false
other_way a b e = go (b == a) refl
  where
    go : (z : Bool) → (b == a) ≡ z → (b == a) ≡ false
    go false k = k
    go true k = absurd (let t = sym (eq-eqb a b (sym (eqb-true b a k))) ∙ e in cc)

once_more : (p : ℕ) (ps : List ℕ) → AreOnce ps → is_in p ps ≡ false → AreOnce (ps ++ p ∷ [])
once_more p [] o n = (refl, tt)
once_more p (q ∷ ps) o n = go (p == q) refl n (λ e. once_more p ps o.1 e)
  where
    go : (z : Bool) → (p == q) ≡ z → (if p == q then true else is_in p ps) ≡ false → (is_in p ps ≡ false → AreOnce (ps ++ p ∷ [])) → AreOnce ((q ∷ ps) ++ p ∷ [])
    go true f e h = absurd (let t = sym (ap (λ (z : Bool). if z then true else is_in p ps) f) ∙ e in cc)
    go false f e h = (in_more q p ps o.0 (other_way p q f), h (sym (ap (λ (z : Bool). if z then true else is_in p ps) f) ∙ e))

pub carried_once : (again under : Bool) (place : ℕ) (left next old new : List ℕ) → Carried again left old → IsNextOf place left next → IsCarried under again place old new → Carried again next new
carried_once true true place left next old new c n e = record { once = subst AreOnce (sym e) c.once; apart = λ f. absurd (cc) }
carried_once true false place left next old new c n e = record { once = subst AreOnce (sym e) c.once; apart = λ f. absurd (cc) }
carried_once false false place left next old new c n e = record { once = subst AreOnce (sym e) c.once; apart = λ f k i. subst (λ z. is_in k z ≡ false) (sym e) (c.apart refl k (n.fewer k i)) }
carried_once false true place left next old new c n e = record {
  once = subst AreOnce (sym e) (once_more place old c.once (c.apart refl place n.among));
  apart = λ f k i. subst (λ z. is_in k z ≡ false) (sym e) (in_more k place old (c.apart refl k (n.fewer k i)) (not_same k place next i n.over));
}

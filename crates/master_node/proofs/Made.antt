-- What is listed while a frame is made.
use Rattle.std.proofs.Common.{◌≡◌, ◌<◌, ◌≤◌, ℕ, Bool, true, false, [], ◌∷◌, ◌++◌, refl, sym, ap, subst, ◌∙◌, List, arith, length, append_assoc, append-nil}
use Rattle.std.specs.Prelude.{nat_lt}
use Rattle.std.proofs.lemmas.Bool.Decides.{nat_tests}
use Rattle.std.proofs.lemmas.List.Elements.{All-nil, All-push}
use Rattle.master_node.specs.Made.{IsOfMaking, AreOfMaking, Makes}
use Rattle.master_node.specs.declared.happened.Happening.{Happening}
use Rattle.master_node.specs.declared.lan.Lan.{Lan}

below : (n m : ℕ) → nat_lt n m ≡ true → n < m
below n m e = grind (arith, nat_tests)

above : (n m : ℕ) → nat_lt n m ≡ false → m ≤ n
above n m e = grind (arith, nat_tests)

-- the list of a step only grows
no_more : (rows rows' : List Happening) → rows' ≡ rows → (rest : List Happening) × (rows' ≡ rows ++ rest)
no_more rows rows' e = ([], e ∙ sym (append-nil rows))

pub makes_none : (l l' : Lan) → l' ≡ l → Makes l l'
makes_none l l' e = record { ports = ap (λ z. z.ports) e; only = λ a. subst (λ z. AreOfMaking z.happened) (sym e) a; more = no_more l.happened l'.happened (ap (λ z. z.happened) e) }

pub makes_same : (l l' : Lan) → l'.ports ≡ l.ports → l'.happened ≡ l.happened → Makes l l'
makes_same l l' p e = record { ports = p; only = λ a. subst AreOfMaking (sym e) a; more = no_more l.happened l'.happened e }

-- one event more, where the list has room for it
pub makes_one : (l l' : Lan) (r : Happening) → IsOfMaking r.event → l'.ports ≡ l.ports → (length l.happened < 17 → l'.happened ≡ l.happened ++ r ∷ []) → (17 ≤ length l.happened → l'.happened ≡ l.happened) → Makes l l'
makes_one l l' r of p more full = record { ports = p; only = λ a. go a (nat_lt (length l.happened) 17) refl; more = grow (nat_lt (length l.happened) 17) refl }
  where
    grow : (b : Bool) → nat_lt (length l.happened) 17 ≡ b → (rest : List Happening) × (l'.happened ≡ l.happened ++ rest)
    grow true e = (r ∷ [], more (below (length l.happened) 17 e))
    grow false e = no_more l.happened l'.happened (full (above (length l.happened) 17 e))

    go : AreOfMaking l.happened → (b : Bool) → nat_lt (length l.happened) 17 ≡ b → AreOfMaking l'.happened
    go a true e = subst AreOfMaking (sym (more (below (length l.happened) 17 e))) (All-push (λ (q : Happening). IsOfMaking q.event) l.happened r a of)
    go a false e = subst AreOfMaking (sym (full (above (length l.happened) 17 e))) a

pub makes_then : (l m n : Lan) → Makes l m → Makes m n → Makes l n
makes_then l m n a b = record { ports = b.ports ∙ a.ports; only = λ x. b.only (a.only x); more = (a.more.0 ++ b.more.0, b.more.1 ∙ ap (λ z. z ++ b.more.0) a.more.1 ∙ append_assoc l.happened a.more.0 b.more.0) }

pub makes_on : (l m n : Lan) → n ≡ m → Makes l m → Makes l n
makes_on l m n e a = subst (λ z. Makes l z) (sym e) a

-- a whole step, from an empty list on
pub makes_all : (l m : Lan) → l.happened ≡ [] → Makes l m → AreOfMaking m.happened
makes_all l m none a = a.only (subst AreOfMaking (sym none) (All-nil (λ (q : Happening). IsOfMaking q.event)))

-- Mails that wait are dropped where their slave is given up.
use Rattle.std.proofs.Common.{◌≡◌, ◌==◌, ◌<◌, ℕ, zero, suc, Bool, true, false, List, [], ◌∷◌, ◌++◌, refl, sym, ap, ◌∙◌, arith, length, get_or, set}
use Rattle.std.specs.Prelude.{◌&&◌, ◌||◌, map, if◌then◌else◌}
use Rattle.std.proofs.lemmas.Bool.{eq-eqb, eqb-true}
use Rattle.life_runs.specs.of_master_tour.Made.{is_in}
use Rattle.life_runs.specs.of_master_tour.Walks.{StepsAt}
use Rattle.life_runs.specs.Served.{Keyed}
use Rattle.master_node.specs.Dropped.{Drops}
use Rattle.master_node.specs.Passes.{waits_in}
use Rattle.master_node.specs.Serving.{waits_of}
use Rattle.master_node.specs.declared.post.Post.{Post}
use Rattle.master_node.proofs.Servings.{keyed}

pub and_false : (a : Bool) → (a && false) ≡ false
and_false true = refl
and_false false = refl

none_in : (k p : ℕ) → (k == p) ≡ false → is_in k (p ∷ []) ≡ false
none_in k p e = ap (λ (z : Bool). if z then true else false) e

one_in : (k p : ℕ) → (k == p) ≡ true → is_in k (p ∷ []) ≡ true
one_in k p e = ap (λ (z : Bool). if z then true else false) e

-- of one slave
pub drops_set : (ps : List Post) (place : ℕ) (v w : Post) → place < length ps → v ≡ get_or ps place v → w.mails.items ≡ [] → StepsAt (λ ks ls. ls ≡ []) place (map waits_of ps) (map waits_of (set ps place w))
drops_set [] place v w l g e = absurd (omega (arith, l))
drops_set (p ∷ ps) zero v w l g e = (ap (map keyed) e, refl)
drops_set (p ∷ ps) (suc place) v w l g e = (refl, drops_set ps place v w (omega (arith, l)) g e)

here_none : (place : ℕ) (kss lss : List (List Keyed)) → StepsAt (λ ks ls. ls ≡ []) place kss lss → waits_in lss place ≡ []
here_none zero [] lss e = absurd e
here_none (suc place) [] lss e = absurd e
here_none zero (ks ∷ kss) [] e = absurd e
here_none (suc place) (ks ∷ kss) [] e = absurd e
here_none zero (ks ∷ kss) (ls ∷ lss) e = e.0
here_none (suc place) (ks ∷ kss) (ls ∷ lss) e = here_none place kss lss e.1

elsewhere_same : (place k : ℕ) (kss lss : List (List Keyed)) → (k ≡ place → ⊥) → StepsAt (λ ks ls. ls ≡ []) place kss lss → waits_in lss k ≡ waits_in kss k
elsewhere_same zero k [] lss n e = absurd e
elsewhere_same (suc place) k [] lss n e = absurd e
elsewhere_same zero k (ks ∷ kss) [] n e = absurd e
elsewhere_same (suc place) k (ks ∷ kss) [] n e = absurd e
elsewhere_same zero zero (ks ∷ kss) (ls ∷ lss) n e = absurd (n refl)
elsewhere_same zero (suc k) (ks ∷ kss) (ls ∷ lss) n e = ap (λ z. waits_in z k) e.1
elsewhere_same (suc place) zero (ks ∷ kss) (ls ∷ lss) n e = e.0
elsewhere_same (suc place) (suc k) (ks ∷ kss) (ls ∷ lss) n e = elsewhere_same place k kss lss (λ q. n (ap suc q)) e.1

same_long : (place : ℕ) (kss lss : List (List Keyed)) → StepsAt (λ ks ls. ls ≡ []) place kss lss → length lss ≡ length kss
same_long zero [] lss e = absurd e
same_long (suc place) [] lss e = absurd e
same_long zero (ks ∷ kss) [] e = absurd e
same_long (suc place) (ks ∷ kss) [] e = absurd e
same_long zero (ks ∷ kss) (ls ∷ lss) e = ap (λ z. suc (length z)) e.1
same_long (suc place) (ks ∷ kss) (ls ∷ lss) e = ap suc (same_long place kss lss e.1)

pub drops_one : (gave : ℕ → Bool) (place : ℕ) (kss lss : List (List Keyed)) → gave place ≡ true → StepsAt (λ ks ls. ls ≡ []) place kss lss → Drops gave (place ∷ []) kss lss
drops_one gave place kss lss g e = record { long = same_long place kss lss e; each = λ k. go k (k == place) refl }
  where
    go : (k : ℕ) (z : Bool) → (k == place) ≡ z → waits_in lss k ≡ (if gave k && is_in k (place ∷ []) then [] else waits_in kss k)
    go k true f =
        let same = eqb-true k place f in
        ap (λ n. waits_in lss n) same ∙ here_none place kss lss e ∙ sym (ap (λ (b : Bool). if b then [] else waits_in kss k) ((λ i. (ap gave same ∙ g) i && one_in k place f i)))
    go k false f =
        elsewhere_same place k kss lss (λ q. (let w = sym f ∙ eq-eqb k place q in absurd (cc))) e
        ∙ sym (ap (λ (b : Bool). if b then [] else waits_in kss k) (ap (λ b. gave k && b) (none_in k place f) ∙ and_false (gave k)))

pub drops_none : (gave : ℕ → Bool) (place : ℕ) (kss lss : List (List Keyed)) → gave place ≡ false → lss ≡ kss → Drops gave (place ∷ []) kss lss
drops_none gave place kss lss g e = record { long = ap length e; each = λ k. ap (λ z. waits_in z k) e ∙ sym (ap (λ (b : Bool). if b then [] else waits_in kss k) (go k (k == place) refl)) }
  where
    go : (k : ℕ) (z : Bool) → (k == place) ≡ z → (gave k && is_in k (place ∷ [])) ≡ false
    go k true f = ap (λ b. b && is_in k (place ∷ [])) (ap gave (eqb-true k place f) ∙ g)
    go k false f = ap (λ b. gave k && b) (none_in k place f) ∙ and_false (gave k)

-- of no slave
pub drops_start : (gave : ℕ → Bool) (kss : List (List Keyed)) → Drops gave [] kss kss
drops_start gave kss = record { long = refl; each = λ k. sym (ap (λ (b : Bool). if b then [] else waits_in kss k) (and_false (gave k))) }

in_more : (k p : ℕ) (ps : List ℕ) → is_in k (ps ++ p ∷ []) ≡ (is_in k ps || is_in k (p ∷ []))
in_more k p [] = refl
in_more k p (q ∷ qs) = go (k == q) (in_more k p qs)
  where
    go : (z : Bool) → is_in k (qs ++ p ∷ []) ≡ (is_in k qs || is_in k (p ∷ [])) → (if z then true else is_in k (qs ++ p ∷ [])) ≡ ((if z then true else is_in k qs) || is_in k (p ∷ []))
    go true e = refl
    go false e = e

both_drop : {T : Type 0} (g a b : Bool) (x : List T) → (if g && b then [] else (if g && a then [] else x)) ≡ (if g && (a || b) then [] else x)
both_drop false a b x = refl
both_drop true true true x = refl
both_drop true true false x = refl
both_drop true false true x = refl
both_drop true false false x = refl

-- and of one more
pub drops_on : (gave : ℕ → Bool) (ps : List ℕ) (p : ℕ) (kss lss mss : List (List Keyed)) → Drops gave ps kss lss → Drops gave (p ∷ []) lss mss → Drops gave (ps ++ p ∷ []) kss mss
drops_on gave ps p kss lss mss d e = record {
  long = e.long ∙ d.long;
  each = λ k. e.each k ∙ ap (λ z. if gave k && is_in k (p ∷ []) then [] else z) (d.each k) ∙ both_drop (gave k) (is_in k ps) (is_in k (p ∷ [])) (waits_in kss k)
      ∙ ap (λ (b : Bool). if gave k && b then [] else waits_in kss k) (sym (in_more k p ps));
}

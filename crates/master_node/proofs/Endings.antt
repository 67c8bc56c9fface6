-- A MAIL THAT IS OVER is in hand no more, step by step.
use Rattle.std.proofs.Common.{◌≡◌, inl, inr, ◌==◌, ◌<◌, ◌≤◌, ℕ, zero, suc, Bool, true, false, List, [], ◌∷◌, ◌++◌, refl, sym, ap, ◌∙◌, arith, length, get_or, set}
use Rattle.std.specs.Prelude.{◌&&◌, ◌||◌, not, if◌then◌else◌}
use Rattle.std.proofs.lemmas.Bool.{eq-eqb, eqb-true}
use Rattle.life_runs.specs.of_master_tour.Made.{is_in}
use Rattle.life_runs.specs.of_master_tour.Walks.{StepsAt}
use Rattle.master_node.specs.Handed.{DropsWork, EndsWork, IsLeft, work_at}
use Rattle.master_node.specs.Named.{StaysNamed}
use Rattle.master_node.specs.declared.post.Post.{Post}
use Rattle.master_node.specs.declared.post.Work.{Work}
use Rattle.master_node.proofs.Droppeds.{and_false}

both : (a b : Bool) → (a && b) ≡ true → (a ≡ true) × (b ≡ true)
both true true e = (refl, refl)
both true false e = absurd (cc)
both false b e = absurd (cc)

both_so : (a b : Bool) → a ≡ true → b ≡ true → (a && b) ≡ true
both_so true true e f = refl
both_so true false e f = f
both_so false b e f = e

-- one step after the other
pub stays_then : (old mid new : Work) (g h : Bool) → StaysNamed old mid g → StaysNamed mid new h → StaysNamed old new (g && h)
stays_then old mid new g h a b = record {
  named = λ key e. (let q = b.named key e in let p = a.named key q.0 in (p.0, both_so g h p.1 q.1));
  stays = λ key e t. (let w = both g h t in b.stays key (a.stays key e w.0) w.1);
}

pub stays_as : (old new : Work) (g h : Bool) → g ≡ h → StaysNamed old new g → StaysNamed old new h
stays_as old new g h e a = record { named = λ key f. (let p = a.named key f in (p.0, sym e ∙ p.1)); stays = λ key f t. a.stays key f (e ∙ t) }

-- whether it goes on may be told otherwise, of a mail that is in hand
pub stays_where : (old new : Work) (g h : Bool) → ((key : ℕ) → old ≡ Work.Passed key → g ≡ h) → StaysNamed old new g → StaysNamed old new h
stays_where old new g h e a = record { named = λ key f. (let p = a.named key f in (p.0, sym (e key p.0) ∙ p.1)); stays = λ key f t. a.stays key f (e key f ∙ t) }

-- what is in hand of no mail that is passed on may go, and so may a mail that is over
pub stays_same : (w : Work) → StaysNamed w w true
stays_same w = record { named = λ key e. (e, refl); stays = λ key e t. e }

pub stays_over : (old : Work) → StaysNamed old Work.Nothing false
stays_over old = record { named = λ key e. absurd (let bad : Work.Nothing ≡ Work.Passed key = e in cc); stays = λ key e t. absurd (let bad : false ≡ true = t in cc) }

pub stays_other : (old : Work) (g : Bool) → ((key : ℕ) → old ≡ Work.Passed key → ⊥) → StaysNamed old Work.Nothing g
stays_other old g n = record { named = λ key e. absurd (let bad : Work.Nothing ≡ Work.Passed key = e in cc); stays = λ key e t. absurd (n key e) }

-- and so step by step
pub fewer_then : (old mid new : Work) → IsLeft old mid → IsLeft mid new → IsLeft old new
fewer_then old mid new (inl e) (inl f) = inl (f ∙ e)
fewer_then old mid new (inl e) (inr f) = inr f
fewer_then old mid new (inr e) (inl f) = inr (f ∙ e)
fewer_then old mid new (inr e) (inr f) = inr f

-- NOTHING ENDS
pub ends_same : (goes : ℕ → Bool) (ps : List Post) → EndsWork goes [] ps ps
ends_same goes ps = record { each = λ k. stays_same (work_at ps k); fewer = λ k. inl refl }

-- AT ONE PLACE
work_set : (ps : List Post) (place k : ℕ) (w : Post) → (k ≡ place → ⊥) → work_at (set ps place w) k ≡ work_at ps k
work_set [] place k w n = refl
work_set (p ∷ ps) zero zero w n = absurd (n refl)
work_set (p ∷ ps) zero (suc k) w n = refl
work_set (p ∷ ps) (suc place) zero w n = refl
work_set (p ∷ ps) (suc place) (suc k) w n = work_set ps place k w (λ e. n (ap suc e))

work_here : (ps : List Post) (place : ℕ) (w : Post) → place < length ps → work_at (set ps place w) place ≡ w.work
work_here [] place w l = absurd (omega (arith, l))
work_here (p ∷ ps) zero w l = refl
work_here (p ∷ ps) (suc place) w l = work_here ps place w (omega (arith, l))

-- all of one step and then those of another
in_by : (b p q r : Bool) → r ≡ (p || q) → (if b then true else r) ≡ ((if b then true else p) || q)
in_by true p q r e = refl
in_by false p q r e = e

pub in_more : (k : ℕ) (xs ys : List ℕ) → is_in k (xs ++ ys) ≡ (is_in k xs || is_in k ys)
in_more k [] ys = refl
in_more k (x ∷ xs) ys = in_by (k == x) (is_in k xs) (is_in k ys) (is_in k (xs ++ ys)) (in_more k xs ys)

not_more : (a b g : Bool) → ((not a || g) && (not b || g)) ≡ (not (a || b) || g)
not_more true true true = refl
not_more true true false = refl
not_more true false true = refl
not_more true false false = refl
not_more false true true = refl
not_more false true false = refl
not_more false false true = refl
not_more false false false = refl

pub ends_then : (goes : ℕ → Bool) (xs ys : List ℕ) (ps qs rs : List Post) → EndsWork goes xs ps qs → EndsWork goes ys qs rs → EndsWork goes (xs ++ ys) ps rs
ends_then goes xs ys ps qs rs a b = record {
  each = λ k. stays_as _ _ _ _ (not_more (is_in k xs) (is_in k ys) (goes k) ∙ ap (λ z. not z || goes k) (sym (in_more k xs ys)))
      (stays_then (work_at ps k) (work_at qs k) (work_at rs k) (not (is_in k xs) || goes k) (not (is_in k ys) || goes k) (a.each k) (b.each k));
  fewer = λ k. fewer_then (work_at ps k) (work_at qs k) (work_at rs k) (a.fewer k) (b.fewer k);
}

one_in : (k p : ℕ) → (k == p) ≡ true → is_in k (p ∷ []) ≡ true
one_in k p e = ap (λ (z : Bool). if z then true else false) e

one_out : (k p : ℕ) → (k == p) ≡ false → is_in k (p ∷ []) ≡ false
one_out k p e = ap (λ (z : Bool). if z then true else false) e

-- what is in hand where a post stands
pub work_got : (ps : List Post) (place : ℕ) (p : Post) → place < length ps → p ≡ get_or ps place p → work_at ps place ≡ p.work
work_got [] place p l e = absurd (omega (arith, l))
work_got (q ∷ ps) zero p l e = ap (λ z. z.work) (sym e)
work_got (q ∷ ps) (suc place) p l e = work_got ps place p (omega (arith, l)) e

pub step_here : (place : ℕ) (ps qs : List Post) → StepsAt (λ p q. q.work ≡ Work.Nothing) place ps qs → work_at qs place ≡ Work.Nothing
step_here zero [] qs e = absurd e
step_here (suc place) [] qs e = absurd e
step_here zero (p ∷ ps) [] e = absurd e
step_here (suc place) (p ∷ ps) [] e = absurd e
step_here zero (p ∷ ps) (q ∷ qs) e = e.0
step_here (suc place) (p ∷ ps) (q ∷ qs) e = step_here place ps qs e.1

pub step_there : (place k : ℕ) (ps qs : List Post) → (k ≡ place → ⊥) → StepsAt (λ p q. q.work ≡ Work.Nothing) place ps qs → work_at qs k ≡ work_at ps k
step_there zero k [] qs n e = absurd e
step_there (suc place) k [] qs n e = absurd e
step_there zero k (p ∷ ps) [] n e = absurd e
step_there (suc place) k (p ∷ ps) [] n e = absurd e
step_there zero zero (p ∷ ps) (q ∷ qs) n e = absurd (n refl)
step_there zero (suc k) (p ∷ ps) (q ∷ qs) n e = ap (λ z. work_at z k) e.1
step_there (suc place) zero (p ∷ ps) (q ∷ qs) n e = ap (λ z. z.work) e.0
step_there (suc place) (suc k) (p ∷ ps) (q ∷ qs) n e = step_there place k ps qs (λ q'. n (ap suc q')) e.1

pub apart_by : (k place : ℕ) → (k == place) ≡ false → k ≡ place → ⊥
apart_by k place f e = (let w = sym f ∙ eq-eqb k place e in absurd (cc))

stays_with : (old new new' : Work) (g : Bool) → new' ≡ new → StaysNamed old new g → StaysNamed old new' g
stays_with old new new' g e a = record { named = λ key f. a.named key (sym e ∙ f); stays = λ key f t. e ∙ a.stays key f t }

step_fewer : (place : ℕ) (ps qs : List Post) → StepsAt (λ p q. q.work ≡ Work.Nothing) place ps qs → (k : ℕ) → IsLeft (work_at ps k) (work_at qs k)
step_fewer place ps qs s k = go (k == place) refl
  where
    go : (b : Bool) → (k == place) ≡ b → IsLeft (work_at ps k) (work_at qs k)
    go true e = inr (ap (work_at qs) (eqb-true k place e) ∙ step_here place ps qs s)
    go false e = inl (step_there place k ps qs (apart_by k place e) s)

-- A MAIL THAT IS OVER is in hand no more
pub ends_here : (goes : ℕ → Bool) (place : ℕ) (ps qs : List Post) → StepsAt (λ p q. q.work ≡ Work.Nothing) place ps qs → goes place ≡ false → EndsWork goes (place ∷ []) ps qs
ends_here goes place ps qs s g = record { each = λ k. go k (k == place) refl; fewer = step_fewer place ps qs s }
  where
    go : (k : ℕ) (b : Bool) → (k == place) ≡ b → StaysNamed (work_at ps k) (work_at qs k) (not (is_in k (place ∷ [])) || goes k)
    go k true e =
        let same = eqb-true k place e in
        let none : work_at qs k ≡ Work.Nothing = ap (work_at qs) same ∙ step_here place ps qs s in
        stays_as _ _ false _ (sym (ap goes same ∙ g) ∙ ap (λ (z : Bool). not z || goes k) (sym (one_in k place e))) (stays_with (work_at ps k) Work.Nothing (work_at qs k) false none (stays_over (work_at ps k)))
    go k false e =
        stays_as _ _ true _ (ap (λ (z : Bool). not z || goes k) (sym (one_out k place e)))
        (stays_with (work_at ps k) (work_at ps k) (work_at qs k) true (step_there place k ps qs (apart_by k place e) s) (stays_same (work_at ps k)))

-- another service that is over is no such mail
pub ends_other : (goes : ℕ → Bool) (place : ℕ) (ps qs : List Post) → StepsAt (λ p q. q.work ≡ Work.Nothing) place ps qs → ((key : ℕ) → work_at ps place ≡ Work.Passed key → ⊥) → EndsWork goes [] ps qs
ends_other goes place ps qs s n = record { each = λ k. go k (k == place) refl; fewer = step_fewer place ps qs s }
  where
    go : (k : ℕ) (b : Bool) → (k == place) ≡ b → StaysNamed (work_at ps k) (work_at qs k) true
    go k true e =
        let same = eqb-true k place e in
        stays_with (work_at ps k) Work.Nothing (work_at qs k) true (ap (work_at qs) same ∙ step_here place ps qs s) (stays_other (work_at ps k) true (λ key f. n key (sym (ap (work_at ps) same) ∙ f)))
    go k false e = stays_with (work_at ps k) (work_at ps k) (work_at qs k) true (step_there place k ps qs (apart_by k place e) s) (stays_same (work_at ps k))

-- where no mail is in hand that is passed on nothing is to end, nor where it goes on
pub ends_free : (goes : ℕ → Bool) (place : ℕ) (ps qs : List Post) → ((key : ℕ) → work_at ps place ≡ Work.Passed key → goes place ≡ true) → EndsWork goes [] ps qs → EndsWork goes (place ∷ []) ps qs
ends_free goes place ps qs n a = record { each = λ k. go k (k == place) refl; fewer = a.fewer }
  where
    go : (k : ℕ) (b : Bool) → (k == place) ≡ b → StaysNamed (work_at ps k) (work_at qs k) (not (is_in k (place ∷ [])) || goes k)
    go k true e =
        let same = eqb-true k place e in
        stays_where (work_at ps k) (work_at qs k) true _
        (λ key f. sym (ap goes same ∙ n key (sym (ap (work_at ps) same) ∙ f)) ∙ ap (λ (z : Bool). not z || goes k) (sym (one_in k place e))) (a.each k)
    go k false e = stays_as _ _ true _ (ap (λ (z : Bool). not z || goes k) (sym (one_out k place e))) (a.each k)

-- the posts stay, or are those of a master that is the same
pub ends_told : (goes : ℕ → Bool) (ps qs : List Post) → qs ≡ ps → EndsWork goes [] ps qs
ends_told goes ps qs e = record { each = λ k. stays_with (work_at ps k) (work_at ps k) (work_at qs k) true (ap (λ z. work_at z k) e) (stays_same (work_at ps k)); fewer = λ k. inl (ap (λ z. work_at z k) e) }

-- OF GIVEN-UP SLAVES nothing is in hand
pub drop_one : (gave : ℕ → Bool) (place : ℕ) (ps qs : List Post) → gave place ≡ true → StepsAt (λ p q. q.work ≡ Work.Nothing) place ps qs → DropsWork gave (place ∷ []) ps qs
drop_one gave place ps qs g s = record { each = λ k. go k (k == place) refl }
  where
    go : (k : ℕ) (b : Bool) → (k == place) ≡ b → work_at qs k ≡ (if gave k && is_in k (place ∷ []) then Work.Nothing else work_at ps k)
    go k true e =
        let same = eqb-true k place e in
        ap (work_at qs) same ∙ step_here place ps qs s ∙ sym (ap (λ (z : Bool). if z then Work.Nothing else work_at ps k) ((λ i. (ap gave same ∙ g) i && one_in k place e i)))
    go k false e = step_there place k ps qs (apart_by k place e) s ∙ sym (ap (λ (z : Bool). if z then Work.Nothing else work_at ps k) (ap (λ z. gave k && z) (one_out k place e) ∙ and_false (gave k)))

pub drop_none : (gave : ℕ → Bool) (place : ℕ) (ps qs : List Post) → gave place ≡ false → qs ≡ ps → DropsWork gave (place ∷ []) ps qs
drop_none gave place ps qs g e = record { each = λ k. ap (λ z. work_at z k) e ∙ sym (ap (λ (z : Bool). if z then Work.Nothing else work_at ps k) (go k (k == place) refl)) }
  where
    go : (k : ℕ) (b : Bool) → (k == place) ≡ b → (gave k && is_in k (place ∷ [])) ≡ false
    go k true f = ap (λ z. z && is_in k (place ∷ [])) (ap gave (eqb-true k place f) ∙ g)
    go k false f = ap (λ z. gave k && z) (one_out k place f) ∙ and_false (gave k)

pub drop_start : (gave : ℕ → Bool) (ps : List Post) → DropsWork gave [] ps ps
drop_start gave ps = record { each = λ k. sym (ap (λ (z : Bool). if z then Work.Nothing else work_at ps k) (and_false (gave k))) }

both_dropped : (g a b : Bool) (w : Work) → (if g && b then Work.Nothing else (if g && a then Work.Nothing else w)) ≡ (if g && (a || b) then Work.Nothing else w)
both_dropped false a b w = refl
both_dropped true true true w = refl
both_dropped true true false w = refl
both_dropped true false true w = refl
both_dropped true false false w = refl

pub drop_on : (gave : ℕ → Bool) (xs ys : List ℕ) (ps qs rs : List Post) → DropsWork gave xs ps qs → DropsWork gave ys qs rs → DropsWork gave (xs ++ ys) ps rs
drop_on gave xs ys ps qs rs d e = record {
  each = λ k. e.each k ∙ ap (λ (z : Work). if gave k && is_in k ys then Work.Nothing else z) (d.each k) ∙ both_dropped (gave k) (is_in k xs) (is_in k ys) (work_at ps k)
      ∙ ap (λ (z : Bool). if gave k && z then Work.Nothing else work_at ps k) (sym (in_more k xs ys));
}

-- another service is in hand
pub not_passed : (ps : List Post) (place : ℕ) (p : Post) → place < length ps → p ≡ get_or ps place p → ((key : ℕ) → p.work ≡ Work.Passed key → ⊥) → (key : ℕ) → work_at ps place ≡ Work.Passed key → ⊥
not_passed ps place p l e n key f = n key (sym (work_got ps place p l e) ∙ f)

-- behind one that tells what is in hand is as it was before it
pub ends_from : (goes goes' : ℕ → Bool) (xs : List ℕ) (ps qs : List Post) → ((k : ℕ) → goes' k ≡ goes k) → EndsWork goes' xs ps qs → EndsWork goes xs ps qs
ends_from goes goes' xs ps qs e a = record { each = λ k. stays_as _ _ _ _ (ap (λ (z : Bool). not (is_in k xs) || z) (e k)) (a.each k); fewer = a.fewer }

-- beyond the last post nothing is in hand
pub none_beyond : (ps : List Post) (place : ℕ) → length ps ≤ place → (key : ℕ) → work_at ps place ≡ Work.Passed key → ⊥
none_beyond [] place l key e = absurd (let bad : Work.Nothing ≡ Work.Passed key = e in cc)
none_beyond (p ∷ ps) zero l key e = absurd (omega (arith, l))
none_beyond (p ∷ ps) (suc place) l key e = none_beyond ps place (omega (arith, l)) key e

-- a slave that wasn't visited has nothing in the frame
pub unvisited : (under there : Bool) → (under ≡ true → there ≡ true) → not there ≡ true → under ≡ false
unvisited true true h n = absurd (let bad : false ≡ true = n in cc)
unvisited true false h n = absurd (let bad : false ≡ true = h refl in cc)
unvisited false there h n = refl

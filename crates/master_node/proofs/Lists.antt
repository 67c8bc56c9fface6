-- Lists that go on place by place.
use Rattle.std.proofs.Common.{◌≡◌, ℕ, zero, suc, ◌<◌, Bool, Some, List, [], ◌∷◌, ◌++◌, refl, sym, ap, ◌∙◌, subst, arith, length, get_or, set}
use Rattle.std.specs.Prelude.{map, All, IfSome, slice_get}
use Rattle.std.proofs.lemmas.List.Elements.{All-nil, All-cons, All-head, All-tail}
use Rattle.life_runs.specs.of_frame_view.Shares.{AllBoth}
use Rattle.life_runs.specs.of_master_tour.Goes.{holds_at}
use Rattle.life_runs.specs.of_master_tour.Walks.{EachPair, StepsAt}
use Rattle.life_runs.proofs.of_master_tour.Walks.{each_same}

-- none goes on where none stands, and one stays one
pub no_step : {S : Type 0} (R : S → S → Type 0) (n : ℕ) (ts : List S) → StepsAt R n [] ts → ⊥
no_step R zero ts r = r
no_step R (suc n) ts r = r

pub no_end : {S : Type 0} (R : S → S → Type 0) (n : ℕ) (s : S) (ss : List S) → StepsAt R n (s ∷ ss) [] → ⊥
no_end R zero s ss r = r
no_end R (suc n) s ss r = r

-- one has gone on, and the others are as they were
pub steps_each : {S : Type 0} (P T : S → S → Type 0) (i : ℕ) (xs ys : List S) → ((x : S) → T x x) → ((x y : S) → P x y → T x y) → StepsAt P i xs ys → EachPair T xs ys
steps_each P T zero [] ys r h e = absurd e
steps_each P T (suc i) [] ys r h e = absurd e
steps_each P T zero (x ∷ xs) [] r h e = absurd e
steps_each P T (suc i) (x ∷ xs) [] r h e = absurd e
steps_each P T zero (x ∷ xs) (y ∷ ys) r h e = (h x y e.0, subst (λ z. EachPair T xs z) (sym e.1) (each_same T xs r))
steps_each P T (suc i) (x ∷ xs) (y ∷ ys) r h e = (subst (λ z. T x z) (sym e.0) (r x), steps_each P T i xs ys r h e.1)

pub steps_map : {S : Type 0} (P T : S → S → Type 0) (i : ℕ) (xs ys : List S) → ((x y : S) → P x y → T x y) → StepsAt P i xs ys → StepsAt T i xs ys
steps_map P T zero [] ys h e = absurd e
steps_map P T (suc i) [] ys h e = absurd e
steps_map P T zero (x ∷ xs) [] h e = absurd e
steps_map P T (suc i) (x ∷ xs) [] h e = absurd e
steps_map P T zero (x ∷ xs) (y ∷ ys) h e = (h x y e.0, e.1)
steps_map P T (suc i) (x ∷ xs) (y ∷ ys) h e = (e.0, steps_map P T i xs ys h e.1)

-- one after the other
pub steps_trans : {S : Type 0} (P T R : S → S → Type 0) (i : ℕ) (xs ys zs : List S) → ((x y z : S) → P x y → T y z → R x z) → StepsAt P i xs ys → StepsAt T i ys zs → StepsAt R i xs zs
steps_trans P T R zero [] ys zs h e f = absurd e
steps_trans P T R (suc i) [] ys zs h e f = absurd e
steps_trans P T R zero (x ∷ xs) [] zs h e f = absurd e
steps_trans P T R (suc i) (x ∷ xs) [] zs h e f = absurd e
steps_trans P T R zero (x ∷ xs) (y ∷ ys) [] h e f = absurd f
steps_trans P T R (suc i) (x ∷ xs) (y ∷ ys) [] h e f = absurd f
steps_trans P T R zero (x ∷ xs) (y ∷ ys) (z ∷ zs) h e f = (h x y z e.0 f.0, f.1 ∙ e.1)
steps_trans P T R (suc i) (x ∷ xs) (y ∷ ys) (z ∷ zs) h e f = (f.0 ∙ e.0, steps_trans P T R i xs ys zs h e.1 f.1)

-- what is known of the first step and of the second
pub steps_mid : {S : Type 0} (P T R : S → S → Type 0) (i : ℕ) (xs ys zs : List S) → ((x y z : S) → P x y → T y z → R y z) → StepsAt P i xs ys → StepsAt T i ys zs → StepsAt R i ys zs
steps_mid P T R zero [] ys zs h e f = absurd e
steps_mid P T R (suc i) [] ys zs h e f = absurd e
steps_mid P T R zero (x ∷ xs) [] zs h e f = absurd e
steps_mid P T R (suc i) (x ∷ xs) [] zs h e f = absurd e
steps_mid P T R zero (x ∷ xs) (y ∷ ys) [] h e f = absurd f
steps_mid P T R (suc i) (x ∷ xs) (y ∷ ys) [] h e f = absurd f
steps_mid P T R zero (x ∷ xs) (y ∷ ys) (z ∷ zs) h e f = (h x y z e.0 f.0, f.1)
steps_mid P T R (suc i) (x ∷ xs) (y ∷ ys) (z ∷ zs) h e f = (f.0, steps_mid P T R i xs ys zs h e.1 f.1)

-- what stands there
pub steps_some : {S : Type 0} (Q : S → Type 0) (P : S → S → Type 0) (i : ℕ) (xs ys : List S) → StepsAt P i xs ys → IfSome (slice_get xs i) Q → StepsAt (λ x y. Q x × P x y) i xs ys
steps_some Q P zero [] ys e q = absurd e
steps_some Q P (suc i) [] ys e q = absurd e
steps_some Q P zero (x ∷ xs) [] e q = absurd e
steps_some Q P (suc i) (x ∷ xs) [] e q = absurd e
steps_some Q P zero (x ∷ xs) (y ∷ ys) e q = ((q, e.0), e.1)
steps_some Q P (suc i) (x ∷ xs) (y ∷ ys) e q = (e.0, steps_some Q P i xs ys e.1 q)

pub steps_got : {S : Type 0} (P : S → S → Type 0) (i : ℕ) (xs ys : List S) → StepsAt P i xs ys → StepsAt (λ x y. (slice_get xs i ≡ Some x) × P x y) i xs ys
steps_got P zero [] ys e = absurd e
steps_got P (suc i) [] ys e = absurd e
steps_got P zero (x ∷ xs) [] e = absurd e
steps_got P (suc i) (x ∷ xs) [] e = absurd e
steps_got P zero (x ∷ xs) (y ∷ ys) e = ((refl, e.0), e.1)
steps_got P (suc i) (x ∷ xs) (y ∷ ys) e = (e.0, steps_got P i xs ys e.1)

pub steps_same : {S : Type 0} (P : S → S → Type 0) (i : ℕ) (xs : List S) → i < length xs → ((x : S) → P x x) → StepsAt P i xs xs
steps_same P zero [] l h = absurd (omega (arith, l))
steps_same P (suc i) [] l h = absurd (omega (arith, l))
steps_same P zero (x ∷ xs) l h = (h x, refl)
steps_same P (suc i) (x ∷ xs) l h = (refl, steps_same P i xs (omega (arith, l)) h)

-- a test of each stays
pub steps_holds : {S : Type 0} (test : S → Bool) (P : S → S → Type 0) (i : ℕ) (xs ys : List S) → ((x y : S) → P x y → test y ≡ test x) → StepsAt P i xs ys → (k : ℕ) → holds_at test ys k ≡ holds_at test xs k
steps_holds test P zero [] ys h e k = absurd e
steps_holds test P (suc i) [] ys h e k = absurd e
steps_holds test P zero (x ∷ xs) [] h e k = absurd e
steps_holds test P (suc i) (x ∷ xs) [] h e k = absurd e
steps_holds test P zero (x ∷ xs) (y ∷ ys) h e zero = h x y e.0
steps_holds test P zero (x ∷ xs) (y ∷ ys) h e (suc k) = ap (λ z. holds_at test z k) e.1
steps_holds test P (suc i) (x ∷ xs) (y ∷ ys) h e zero = ap test e.0
steps_holds test P (suc i) (x ∷ xs) (y ∷ ys) h e (suc k) = steps_holds test P i xs ys h e.1 k

pub each_trans : {S : Type 0} (P : S → S → Type 0) (xs ys zs : List S) → ((x y z : S) → P x y → P y z → P x z) → EachPair P xs ys → EachPair P ys zs → EachPair P xs zs
each_trans P [] [] [] h e f = tt
each_trans P [] [] (z ∷ zs) h e f = absurd f
each_trans P [] (y ∷ ys) zs h e f = absurd e
each_trans P (x ∷ xs) [] zs h e f = absurd e
each_trans P (x ∷ xs) (y ∷ ys) [] h e f = absurd f
each_trans P (x ∷ xs) (y ∷ ys) (z ∷ zs) h e f = (h x y z e.0 f.0, each_trans P xs ys zs h e.1 f.1)

pub each_length : {S : Type 0} (P : S → S → Type 0) (xs ys : List S) → EachPair P xs ys → length xs ≡ length ys
each_length P [] [] e = refl
each_length P [] (y ∷ ys) e = absurd e
each_length P (x ∷ xs) [] e = absurd e
each_length P (x ∷ xs) (y ∷ ys) e = ap suc (each_length P xs ys e.1)

-- what stands at a place
pub some_here : {S : Type 0} (P : S → Type 0) (ss : List S) (i : ℕ) (s : S) → i < length ss → s ≡ get_or ss i s → P s → IfSome (slice_get ss i) P
some_here P [] i s l e p = absurd (omega (arith, l))
some_here P (x ∷ xs) zero s l e p = subst P e p
some_here P (x ∷ xs) (suc i) s l e p = some_here P xs i s (omega (arith, l)) e p

-- all pass, and so does one that is put among them
pub all_set : {S : Type 0} (P : S → Type 0) (ss : List S) (i : ℕ) (v w : S) → i < length ss → v ≡ get_or ss i v → (P v → P w) → All P ss → All P (set ss i w)
all_set P [] i v w l e h a = absurd (omega (arith, l))
all_set P (x ∷ xs) zero v w l e h a = All-cons P w xs (h (subst P (sym e) (All-head P x xs a))) (All-tail P x xs a)
all_set P (x ∷ xs) (suc i) v w l e h a = All-cons P x (set xs i w) (All-head P x xs a) (all_set P xs i v w (omega (arith, l)) e h (All-tail P x xs a))

pub all_at : {S : Type 0} (P : S → Type 0) (ss : List S) (i : ℕ) (v : S) → i < length ss → v ≡ get_or ss i v → All P ss → P v
all_at P [] i v l e a = absurd (omega (arith, l))
all_at P (x ∷ xs) zero v l e a = subst P (sym e) (All-head P x xs a)
all_at P (x ∷ xs) (suc i) v l e a = all_at P xs i v (omega (arith, l)) e (All-tail P x xs a)

-- two lists, place by place
pub both_each : {A S : Type 0} (R : A → S → Type 0) (P : S → S → Type 0) (T : A → S → Type 0) → ((a : A) (s t : S) → R a s → P s t → T a t) → (as' : List A) (ss ts : List S) → AllBoth R as' ss → EachPair P ss ts → AllBoth T as' ts
both_each R P T h [] [] [] r p = tt
both_each R P T h [] [] (t ∷ ts) r p = absurd p
both_each R P T h [] (s ∷ ss) ts r p = absurd r
both_each R P T h (a ∷ as') [] ts r p = absurd r
both_each R P T h (a ∷ as') (s ∷ ss) [] r p = absurd p
both_each R P T h (a ∷ as') (s ∷ ss) (t ∷ ts) r p = (h a s t r.0 p.0, both_each R P T h as' ss ts r.1 p.1)

pub both_map : {A B S : Type 0} (f : A → B) (P : A → S → Type 0) (R : B → S → Type 0) → ((a : A) (s : S) → P a s → R (f a) s) → (as' : List A) (ss : List S) → AllBoth P as' ss → AllBoth R (map f as') ss
both_map f P R h [] [] p = tt
both_map f P R h [] (s ∷ ss) p = absurd p
both_map f P R h (a ∷ as') [] p = absurd p
both_map f P R h (a ∷ as') (s ∷ ss) p = (h a s p.0, both_map f P R h as' ss p.1)

pub both_length : {A S : Type 0} (P : A → S → Type 0) (as' : List A) (ss : List S) → AllBoth P as' ss → length as' ≡ length ss
both_length P [] [] p = refl
both_length P [] (s ∷ ss) p = absurd p
both_length P (a ∷ as') [] p = absurd p
both_length P (a ∷ as') (s ∷ ss) p = ap suc (both_length P as' ss p.1)

-- tests that agree place by place
pub both_holds : {A S : Type 0} (P : A → S → Type 0) (f : A → Bool) (g : S → Bool) → ((a : A) (s : S) → P a s → g s ≡ f a) → (as' : List A) (ss : List S) → AllBoth P as' ss → (k : ℕ) → holds_at g ss k ≡ holds_at f as' k
both_holds P f g h [] [] p k = refl
both_holds P f g h [] (s ∷ ss) p k = absurd p
both_holds P f g h (a ∷ as') [] p k = absurd p
both_holds P f g h (a ∷ as') (s ∷ ss) p zero = h a s p.0
both_holds P f g h (a ∷ as') (s ∷ ss) p (suc k) = both_holds P f g h as' ss p.1 k

-- one more that passes
pub all_more : {S : Type 0} (P : S → Type 0) (ss : List S) (s : S) → All P ss → P s → All P (ss ++ s ∷ [])
all_more P [] s a p = All-cons P s [] p (All-nil P)
all_more P (x ∷ xs) s a p = All-cons P x (xs ++ s ∷ []) (All-head P x xs a) (all_more P xs s (All-tail P x xs a) p)

-- WHAT A READER KNOWS OF A PLAN, slave by slave.
use Rattle.std.proofs.Common.{◌≡◌, ℕ, suc, ◌+◌, ◌<◌, ◌==◌, Bool, true, false, Option, Some, List, [], ◌∷◌, ◌++◌, length, refl, ap, sym, ◌∙◌, subst, arith, length-append}
use Rattle.std.specs.Prelude.{◌%◌, ◌||◌, if◌then◌else◌, slice_get, IfSome, All, ⊤}
use Rattle.std.proofs.lemmas.Bool.{eqb-true}
use Rattle.std.proofs.lemmas.List.Elements.{All-nil, All-head, All-tail, All-cons, All-get_or}
use Rattle.std.proofs.lemmas.Option.{slice_get_read, slice_get_within, get_or_from_slice_get}
use Rattle.std.proofs.Math.Seq.{get_or-append_seam}
use Rattle.run_frames.specs.of_life_runs.First.{script_for}
use Rattle.plan_ring.specs.Plan.{AllMacs}
use Rattle.slave_server.specs.of_segment_plan.Sound.{IsAddressed, IsService, is_target}
use Rattle.slave_server.specs.of_segment_plan.declared.service.Service as Plan
use Rattle.slave_server.specs.of_segment_plan.declared.slave.SlaveSpec.{SlaveSpec}
use Rattle.plan_ring.specs.Lives.{StateFits, RowFits}

-- a state service of a script asks for Bootstrap, as AL control has it, only where the slave has that
abbrev pub Boots : Bool → Plan.Service → Type 0
Boots boot (Plan.Service.State target) = target % 16 ≡ 3 → boot ≡ true
Boots boot _ = ⊤

pub macs_in : (ss : List SlaveSpec) → All (λ (s : SlaveSpec). length s.mac ≡ 6) ss → AllMacs ss
macs_in [] all = tt
macs_in (s ∷ ss) all = (All-head (λ (s : SlaveSpec). length s.mac ≡ 6) s ss all, macs_in ss (All-tail (λ (s : SlaveSpec). length s.mac ≡ 6) s ss all))

-- a fact of all, at a place
pub all_at : {X : Type 0} (P : X → Type 0) (xs : List X) (i : ℕ) (x : X) → All P xs → slice_get xs i ≡ Some x → P x
all_at P xs i x all at = subst P (get_or_from_slice_get xs i x x at) (All-get_or P xs i x (slice_get_within xs i x at) all)

-- what stands behind these is at their number
pub at_behind : {X : Type 0} (bs : List X) (x : X) (xs : List X) → slice_get (bs ++ x ∷ xs) (length bs) ≡ Some x
at_behind bs x xs = slice_get_read (bs ++ x ∷ xs) (length (bs ++ x ∷ xs)) (length bs) x refl (let e = length-append bs (x ∷ xs) in omega (arith, e)) (sym (get_or-append_seam bs x xs x))

-- a target has four bits
small : (t : ℕ) → is_target t ≡ true → t < 16
small t e = go (t == 1) (t == 2) (t == 3) (t == 4) (t == 8) (eqb-true t 1) (eqb-true t 2) (eqb-true t 3) (eqb-true t 4) (eqb-true t 8) e
  where
    go : (a b c d f : Bool) → (a ≡ true → t ≡ 1) → (b ≡ true → t ≡ 2) → (c ≡ true → t ≡ 3) → (d ≡ true → t ≡ 4) → (f ≡ true → t ≡ 8) → (a || b || c || d || f) ≡ true → t < 16
    go true b c d f is1 is2 is3 is4 is8 e = let k = is1 refl in omega (arith, k)
    go false true c d f is1 is2 is3 is4 is8 e = let k = is2 refl in omega (arith, k)
    go false false true d f is1 is2 is3 is4 is8 e = let k = is3 refl in omega (arith, k)
    go false false false true f is1 is2 is3 is4 is8 e = let k = is4 refl in omega (arith, k)
    go false false false false true is1 is2 is3 is4 is8 e = let k = is8 refl in omega (arith, k)
    go false false false false false is1 is2 is3 is4 is8 e = absurd (cc)

boots_one : (s : SlaveSpec) (q : Plan.Service) → IsService q → StateFits s q → Boots s.boot q
boots_one s (Plan.Service.Sdo service) is fits = tt
boots_one s (Plan.Service.ReadFile name pass) is fits = tt
boots_one s (Plan.Service.WriteFile name pass bytes) is fits = tt
boots_one s (Plan.Service.ReadIdn drive idn elements) is fits = tt
boots_one s (Plan.Service.WriteIdn drive idn elements bytes) is fits = tt
boots_one s (Plan.Service.SetIp block) is fits = tt
boots_one s Plan.Service.GetIp is fits = tt
boots_one s (Plan.Service.State target) is fits = λ e. fits (let k = small target is in omega (arith, e, k))
boots_one s (Plan.Service.Forward packet) is fits = tt

-- THE SCRIPT OF A SLAVE asks for no more than the slave has
pub script_boots : (n : ℕ) (ss : List SlaveSpec) (place : ℕ) (s : SlaveSpec) → slice_get ss place ≡ Some s → (rows : List (ℕ × Plan.Service)) → All (IsAddressed n) rows → All (RowFits ss) rows → All (Boots s.boot) (script_for place rows)
script_boots n ss place s at [] sound fits = All-nil (Boots s.boot)
script_boots n ss place s at (row ∷ rows) sound fits =
    go (row.0 == place) refl (script_boots n ss place s at rows (All-tail (IsAddressed n) row rows sound) (All-tail (RowFits ss) row rows fits))
  where
    go : (b : Bool) → (row.0 == place) ≡ b → All (Boots s.boot) (script_for place rows) → All (Boots s.boot) (if b then row.1 ∷ script_for place rows else script_for place rows)
    go true e rest =
        let there : slice_get ss row.0 ≡ Some s = ap (slice_get ss) (eqb-true row.0 place e) ∙ at in
        let mine : StateFits s row.1 = subst (λ (o : Option SlaveSpec). IfSome o (λ slave. StateFits slave row.1)) there (All-head (RowFits ss) row rows fits) in
        All-cons (Boots s.boot) row.1 (script_for place rows) (boots_one s row.1 (All-head (IsAddressed n) row rows sound).service mine) rest
    go false e rest = rest

-- of all slaves from a place on
abbrev pub AllBoot : List (ℕ × Plan.Service) → ℕ → List SlaveSpec → Type 0
AllBoot rows place [] = ⊤
AllBoot rows place (s ∷ ss) = All (Boots s.boot) (script_for place rows) × AllBoot rows (suc place) ss

joined : {X : Type 0} (bs : List X) (x : X) (xs : List X) → (bs ++ x ∷ []) ++ xs ≡ bs ++ x ∷ xs
joined [] x xs = refl
joined (b ∷ bs) x xs = ap (λ l. b ∷ l) (joined bs x xs)

one_more : {X : Type 0} (bs : List X) (x : X) → length (bs ++ x ∷ []) ≡ suc (length bs)
one_more [] x = refl
one_more (b ∷ bs) x = ap suc (one_more bs x)

pub all_boot : (n : ℕ) (all bs ss : List SlaveSpec) → bs ++ ss ≡ all → (rows : List (ℕ × Plan.Service)) → All (IsAddressed n) rows → All (RowFits all) rows → AllBoot rows (length bs) ss
all_boot n all bs [] e rows sound fits = tt
all_boot n all bs (s ∷ ss) e rows sound fits = (
  script_boots n all (length bs) s (ap (λ (l : List SlaveSpec). slice_get l (length bs)) (sym e) ∙ at_behind bs s ss) rows sound fits,
  subst (λ (k : ℕ). AllBoot rows k ss) (one_more bs s) (all_boot n all (bs ++ s ∷ []) ss (joined bs s ss ∙ e) rows sound fits),
)

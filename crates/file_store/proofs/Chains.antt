-- Chains of files: what stays of them where another chain changes.
use Rattle.std.proofs.Common.{◌≡◌, ◌≢◌, ℕ, zero, suc, ◌+◌, ◌<◌, true, List, [], ◌∷◌, length, map, get_or, set, refl, sym, ap, subst, ◌∙◌, arith, Option, None, is_some, unwrap_or}
use Rattle.std.specs.Prelude.{All}
use Rattle.std.proofs.lemmas.Grind.{common_steps}
use Rattle.std.proofs.lemmas.List.{get_or-set_other}
use Rattle.std.proofs.lemmas.List.Elements.{All-head, All-tail, All-set, All-get_or, All-cons}
use Rattle.std.proofs.lemmas.List.Sums.{sum_by-set, sum_by-cons}
use Rattle.block_pool.specs.Region.{Region, IsLive}
use Rattle.file_store.specs.declared.file.File.{File}
use Rattle.file_store.specs.Store.{filed, one_if, live_count, AreApart}

-- another chain's place shows what it showed
pub at_other : (old new : List (Option (List ℕ))) (place other : ℕ) (shows : Option (List ℕ)) → new ≡ set old place shows → other ≢ place → get_or new other None ≡ get_or old other None
at_other old new place other shows is apart = ap (λ cs. get_or cs other None) is ∙ get_or-set_other old place other shows None apart

-- files whose chains are others are as they were
pub filed_same :
    (old new : Region) (files : List File) (place : ℕ) (shows : Option (List ℕ)) → new.chains ≡ set old.chains place shows → All (λ (f : File). f.chain ≢ place) files
    → map (filed new) files ≡ map (filed old) files
filed_same old new [] place shows is other = refl
filed_same old new (f ∷ fs) place shows is other =
    let here = at_other old.chains new.chains place f.chain shows is (All-head (λ (g : File). g.chain ≢ place) f fs other) in
    let rest = filed_same old new fs place shows is (All-tail (λ (g : File). g.chain ≢ place) f fs other) in
    λ i. record { spec = f.spec; octets = unwrap_or (here i) [] } ∷ rest i

-- and live
pub live_same :
    (old new : Region) (files : List File) (place : ℕ) (shows : Option (List ℕ)) → new.chains ≡ set old.chains place shows → All (λ (f : File). f.chain ≢ place) files
    → All (λ (f : File). IsLive old f.chain) files → All (λ (f : File). IsLive new f.chain) files
live_same old new files place shows is other live = λ k d inside.
    subst (λ o. is_some o ≡ true) (sym (at_other old.chains new.chains place (get_or files k d).chain shows is (other k d inside))) (live k d inside)

-- a live chain's place is one of the region's
pub inside_of : (chains : List (Option (List ℕ))) (place : ℕ) → is_some (get_or chains place None) ≡ true → place < length chains
inside_of chains place live = grind (arith, common_steps)

-- the count of live chains, where one place changes
pub count_set :
    (old new : List (Option (List ℕ))) (place : ℕ) (shows : Option (List ℕ)) → new ≡ set old place shows → place < length old
    → live_count new + one_if (is_some (get_or old place None)) ≡ live_count old + one_if (is_some shows)
count_set old new place shows is inside =
    ap (λ cs. live_count cs + one_if (is_some (get_or old place None))) is ∙ sum_by-set (λ (c : Option (List ℕ)). one_if (is_some c)) old place shows None inside

-- where a chain is live at each place, they are as many as the places
pub count_all : (chains : List (Option (List ℕ))) → ((place : ℕ) → place < length chains → is_some (get_or chains place None) ≡ true) → live_count chains ≡ length chains
count_all [] all = refl
count_all (c ∷ cs) all =
    let head : is_some c ≡ true = all 0 (omega arith) in
    let rest : live_count cs ≡ length cs = count_all cs (λ place inside. all (suc place) (omega arith)) in
    sum_by-cons (λ (o : Option (List ℕ)). one_if (is_some o)) c cs ∙ rw head (omega (arith, rest))

-- no file has a chain that isn't live
pub fresh_other : (region : Region) (files : List File) (place : ℕ) → get_or region.chains place None ≡ None → All (λ (f : File). IsLive region f.chain) files → All (λ (f : File). f.chain ≢ place) files
fresh_other region files place empty live = λ k d inside same.
    let shown : is_some (get_or region.chains place None) ≡ true = subst (λ p. is_some (get_or region.chains p None) ≡ true) same (live k d inside) in
    absurd (cc)

-- a file takes another chain, and leaves its own
pub swapped :
    (files : List File) (place : ℕ) (file new : File) → place < length files → file ≡ get_or files place file
    → All (λ (f : File). f.chain ≢ new.chain) files → AreApart files
    → AreApart (set files place new) × All (λ (f : File). f.chain ≢ file.chain) (set files place new)
swapped [] place file new inside is other apart = absurd (omega arith)
swapped (f ∷ fs) zero file new inside is other apart =
    let off : f.chain ≢ new.chain = All-head (λ (g : File). g.chain ≢ new.chain) f fs other in
    let back : new.chain ≢ file.chain = λ e. off (ap (λ (g : File). g.chain) (sym is) ∙ sym e) in
    let tail : All (λ (g : File). g.chain ≢ file.chain) fs = subst (λ (g : File). All (λ (h : File). h.chain ≢ g.chain) fs) (sym is) apart.0 in
    ((All-tail (λ (g : File). g.chain ≢ new.chain) f fs other, apart.1), All-cons (λ (g : File). g.chain ≢ file.chain) new fs back tail)
swapped (f ∷ fs) (suc place) file new inside is other apart =
    let off : f.chain ≢ new.chain = All-head (λ (g : File). g.chain ≢ new.chain) f fs other in
    let here : (get_or fs place file).chain ≢ f.chain = All-get_or (λ (g : File). g.chain ≢ f.chain) fs place file (omega arith) apart.0 in
    let rest = swapped fs place file new (omega arith) is (All-tail (λ (g : File). g.chain ≢ new.chain) f fs other) apart.1 in
    let mine : f.chain ≢ file.chain = λ e. here (ap (λ (g : File). g.chain) (sym is) ∙ sym e) in
    ((All-set (λ (g : File). g.chain ≢ f.chain) fs place new (λ e. off (sym e)) apart.0, rest.0), All-cons (λ (g : File). g.chain ≢ file.chain) f (set fs place new) mine rest.1)

-- The files of a slave taken one by one, within their blocks.
use Rattle.std.proofs.Common.{◌≡◌, ℕ, ◌+◌, ◌-◌, ◌<◌, ◌≤◌, Bool, true, false, List, [], ◌∷◌, ◌++◌, length, is_some, None, drop, get_or, subst, refl, ap, sym, ◌∙◌, arith}
use Rattle.std.specs.Prelude.{if◌then◌else◌}
use Rattle.std.proofs.lemmas.List.{drop_more}
use Rattle.std.proofs.lemmas.List.Sums.{sum_by_push, sum_by-cons}
use Rattle.segment_plan.specs.of_block_pool.Region.{blocks_for}
use Rattle.segment_plan.specs.of_file_store.declared.file.FileSpec.{FileSpec}
use Rattle.segment_plan.specs.of_file_store.Files as Store
use Rattle.segment_plan.specs.of_file_store.Stored.{Stored, free_now}
use Rattle.segment_plan.specs.Sound as Plan
use Rattle.slave_server.specs.Spec.{with_file, with_files}

-- a file, as a store keeps it
abbrev filed : FileSpec × List ℕ → Store.Filed
filed f = record { spec = f.0; octets = f.1 }

-- where a loop is that takes files: i of them were looked at
pub record HasTaken (files : List (FileSpec × List ℕ)) (blocks i : ℕ) (store : Stored) : Type 0 where
  pub rest : with_files (drop i files) store.kept ≡ with_files files (record { files = []; blocks = blocks })
  pub part : store.part ≡ None
  pub count : length store.kept.files ≤ i
  pub fits : Store.taken store.kept.files + Plan.taken (drop i files) ≤ store.kept.blocks

pub takes_first : (files : List (FileSpec × List ℕ)) (blocks : ℕ) → Plan.taken files ≤ blocks → HasTaken files blocks 0 (record { kept = record { files = []; blocks = blocks }; part = None })
takes_first files blocks fits = record { rest = refl; part = refl; count = omega arith; fits = omega (arith, fits) }

free_without : (k : Store.Kept) → free_now (record { kept = k; part = None }) ≡ k.blocks - Store.taken k.files
free_without k = omega arith

length-push : {X : Type 0} (xs : List X) (x : X) → length (xs ++ x ∷ []) ≡ length xs + 1
length-push [] x = refl
length-push (y ∷ xs) x = omega (arith, length-push xs x)

module _ (files : List (FileSpec × List ℕ)) (blocks i : ℕ) (f : FileSpec × List ℕ) (lt : i < length files) (is : f ≡ get_or files i f) (store : Stored) (taken : HasTaken files blocks i store) where
  split : drop i files ≡ f ∷ drop (i + 1) files
  split = drop_more files i f lt ∙ ap (λ p. p ∷ drop (i + 1) files) (sym is)

  left : Plan.taken (drop i files) ≡ blocks_for (length f.1) + Plan.taken (drop (i + 1) files)
  left = ap Plan.taken split ∙ sum_by-cons (λ (g : FileSpec × List ℕ). blocks_for (length g.1)) f (drop (i + 1) files)

  -- its blocks are free
  pub next_fits : blocks_for (length f.1) ≤ free_now store
  next_fits =
      let free : free_now store ≡ store.kept.blocks - Store.taken store.kept.files = ap (λ p. free_now (record store { part = p })) taken.part ∙ free_without store.kept in
      omega (arith, free, left, taken.fits)

  -- whether it is kept or passed over
  more : (there : Bool) → is_some (Store.file_of store.kept f.0.name.items) ≡ there → with_file f store.kept ≡ (if there then store.kept else record store.kept { files = store.kept.files ++ filed f ∷ [] })
  more there known = ap (λ (b : Bool). if b then store.kept else record store.kept { files = store.kept.files ++ filed f ∷ [] }) known

  -- the files with it, and how many blocks are left
  counts_by : (there : Bool) → let k = if there then store.kept else record store.kept { files = store.kept.files ++ filed f ∷ [] } in
      (length k.files ≤ i + 1) × (Store.taken k.files + Plan.taken (drop (i + 1) files) ≤ k.blocks)
  counts_by true = (omega (arith, taken.count), omega (arith, left, taken.fits))
  counts_by false = (
    omega (arith, length-push store.kept.files (filed f), taken.count),
    omega (arith, sum_by_push (λ (g : Store.Filed). blocks_for (length g.octets)) store.kept.files (filed f), left, taken.fits),
  )

  pub takes_more : (new : Stored) → new ≡ record store { kept = with_file f store.kept } → HasTaken files blocks (i + 1) new
  takes_more new is_new =
      let there = is_some (Store.file_of store.kept f.0.name.items) in
      let counts = counts_by there in
      rw is_new (record {
        rest = subst (λ fs. with_files fs store.kept ≡ with_files files (record { files = []; blocks = blocks })) split taken.rest;
        part = taken.part;
        count = counts.0;
        fits = counts.1;
      })

-- A new version of a file leaves a store within its limits, under whatever name it comes.
use Rattle.std.proofs.Common.{◌≡◌, ℕ, ◌+◌, ◌≤◌, ◌&&◌, nat_le, Bool, true, false, List, [], ◌∷◌, length, refl, ap, ◌∙◌, arith, if◌then◌else◌}
use Rattle.std.specs.List.{list_all}
use Rattle.std.proofs.lemmas.Bool.{le-leb, leb-true, and_parts, and_from}
use Rattle.std.proofs.lemmas.List.Sums.{sum_by-cons}
use Rattle.foe_server.specs.of_block_pool.Region.{blocks_for}
use Rattle.foe_server.specs.of_file_store.Files.{Filed, Kept, taken, free_of, is_named, has_room, is_valid, rewritten, put}

abbrev calm : List Filed → Bool
calm files = list_all (λ (file : Filed). nat_le file.spec.busy 15) files

cons_taken : (file : Filed) (files : List Filed) → taken (file ∷ files) ≡ blocks_for (length file.octets) + taken files
cons_taken file files = sum_by-cons (λ (f : Filed). blocks_for (length f.octets)) file files

rewritten_within : (files : List Filed) (name octets : List ℕ) → taken (rewritten files name octets) ≤ taken files + blocks_for (length octets)
rewritten_within [] name octets = omega arith
rewritten_within (f ∷ fs) name octets =
    elim (is_named name f) as (λ b. taken (if b then record f { octets = octets } ∷ fs else f ∷ rewritten fs name octets) ≤ taken (f ∷ fs) + blocks_for (length octets)) [
      | true ↦ omega (arith, cons_taken (record f { octets = octets }) fs, cons_taken f fs)
      | false ↦ omega (arith, cons_taken f (rewritten fs name octets), cons_taken f fs, rewritten_within fs name octets)
    ]

rewritten_calm : (files : List Filed) (name octets : List ℕ) → calm (rewritten files name octets) ≡ calm files
rewritten_calm [] name octets = refl
rewritten_calm (f ∷ fs) name octets =
    elim (is_named name f) as (λ b. calm (if b then record f { octets = octets } ∷ fs else f ∷ rewritten fs name octets) ≡ calm (f ∷ fs)) [
      | true ↦ refl
      | false ↦ ap (λ b. nat_le f.spec.busy 15 && b) (rewritten_calm fs name octets)
    ]

pub stays_valid : (s : Kept) (name octets : List ℕ) → is_valid s ≡ true → has_room s (length octets) ≡ true → is_valid (put s name octets) ≡ true
stays_valid s name octets valid room =
    let whole = and_parts (nat_le s.blocks 1024 && nat_le (taken s.files) s.blocks) (calm s.files) valid in
    let limits = and_parts (nat_le s.blocks 1024) (nat_le (taken s.files) s.blocks) whole.0 in
    let within = leb-true (taken s.files) s.blocks limits.1 in
    let fits = leb-true (blocks_for (length octets)) (free_of s) room in
    let less : taken (rewritten s.files name octets) ≤ s.blocks = omega (arith, rewritten_within s.files name octets, within, fits) in
    and_from (nat_le s.blocks 1024 && nat_le (taken (rewritten s.files name octets)) s.blocks) (calm (rewritten s.files name octets))
    (and_from (nat_le s.blocks 1024) (nat_le (taken (rewritten s.files name octets)) s.blocks) limits.0 (le-leb (taken (rewritten s.files name octets)) s.blocks less)) (rewritten_calm s.files name octets ∙ whole.1)

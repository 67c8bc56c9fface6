-- Where a file stands, among the store's files and among the whole values.
use Rattle.std.proofs.Common.{◌≡◌, ℕ, zero, suc, ◌<◌, ◌≤◌, Bool, true, false, List, [], ◌∷◌, length, map, get_or, set, refl, sym, ap, ◌∙◌, arith, Some, None, option_map, if◌then◌else◌}
use Rattle.std.specs.Prelude.{find}
use Rattle.std.proofs.lemmas.List.{get_or-map}
use Rattle.block_pool.specs.Region.{Region}
use Rattle.file_store.specs.declared.file.File.{File}
use Rattle.file_store.specs.Files.{is_named, rewritten}
use Rattle.file_store.specs.Store.{filed, has_name, IsPlaceOf}

-- what is at the first place that passes
found_at : {X : Type 0} (p : X → Bool) (xs : List X) (i : ℕ) (d : X) → i < length xs → p (get_or xs i d) ≡ true → ((k : ℕ) → k < i → p (get_or xs k d) ≡ false) → find p xs ≡ Some (get_or xs i d)
found_at p [] i d inside named first = absurd (omega arith)
found_at p (x ∷ xs) zero d inside named first = rw named refl
found_at p (x ∷ xs) (suc i) d inside named first = rw (first 0 (omega arith)) (found_at p xs i d (omega arith) named (λ k less. first (suc k) (omega arith)))

none_found : {X : Type 0} (p : X → Bool) (xs : List X) → ((k : ℕ) (d : X) → k < length xs → p (get_or xs k d) ≡ false) → find p xs ≡ None
none_found p [] none = refl
none_found p (x ∷ xs) none = rw (none 0 x (omega arith)) (none_found p xs (λ k d inside. none (suc k) d (omega arith)))

-- the first file of a name, and none
pub place_is : (name : List ℕ) (files : List File) (place : ℕ) → place < length files → ((d : File) → has_name name (get_or files place d) ≡ true)
    → ((k : ℕ) (d : File) → k < place → has_name name (get_or files k d) ≡ false) → IsPlaceOf name files place
place_is name files place inside named first = record {
  within = inside;
  named = named;
  first = λ d k less. first k d less;
  found = λ d. found_at (has_name name) files place d inside (named d) (λ k less. first k d less);
}

pub none_is : (name : List ℕ) (files : List File) (count : ℕ) → length files ≤ count → ((k : ℕ) (d : File) → k < count → has_name name (get_or files k d) ≡ false) → find (has_name name) files ≡ None
none_is name files count all none = none_found (has_name name) files (λ k d inside. none k d (omega arith))

-- the file of a name, as a whole value
pub find_filed : (region : Region) (name : List ℕ) (files : List File) → find (is_named name) (map (filed region) files) ≡ option_map (filed region) (find (has_name name) files)
find_filed region name [] = refl
find_filed region name (f ∷ fs) =
    elim (has_name name f) as (λ b. (if b then Some (filed region f) else find (is_named name) (map (filed region) fs)) ≡ option_map (filed region) (if b then Some f else find (has_name name) fs)) [
      | true ↦ refl
      | false ↦ find_filed region name fs
    ]

-- a new version stands at the place of its name
pub rewritten_at :
    (region : Region) (name octets : List ℕ) (files : List File) (place : ℕ) (file : File) → place < length files → has_name name (get_or files place file) ≡ true
    → ((k : ℕ) → k < place → has_name name (get_or files k file) ≡ false) → file ≡ get_or files place file
    → rewritten (map (filed region) files) name octets ≡ set (map (filed region) files) place (record { spec = file.spec; octets = octets })
rewritten_at region name octets [] place file inside named first is = absurd (omega arith)
rewritten_at region name octets (f ∷ fs) zero file inside named first is =
    rw named (ap (λ (g : File). record { spec = g.spec; octets = octets } ∷ map (filed region) fs) (sym is))
rewritten_at region name octets (f ∷ fs) (suc place) file inside named first is =
    rw (first 0 (omega arith))
    (ap (λ rest. filed region f ∷ rest) (rewritten_at region name octets fs place file (omega arith) named (λ k less. first (suc k) (omega arith)) is))

-- the whole values of a store's files at a place
pub filed_at : (region : Region) (files : List File) (place : ℕ) (file : File) → place < length files → file ≡ get_or files place file → get_or (map (filed region) files) place (filed region file) ≡ filed region file
filed_at region files place file inside is = get_or-map (filed region) files place file (filed region file) inside ∙ ap (filed region) (sym is)

-- the file of a name that has a place, and of one that has none
pub file_at : (region : Region) (name : List ℕ) (files : List File) (place : ℕ) (file : File) → IsPlaceOf name files place → file ≡ get_or files place file
    → find (is_named name) (map (filed region) files) ≡ Some (filed region file)
file_at region name files place file at is =
    find_filed region name files ∙ ap (option_map (filed region)) (at.found file ∙ ap (λ (f : File). Some f) (sym is))

pub no_file : (region : Region) (name : List ℕ) (files : List File) → find (has_name name) files ≡ None → find (is_named name) (map (filed region) files) ≡ None
no_file region name files none = find_filed region name files ∙ ap (option_map (filed region)) none

pub named_at : (name : List ℕ) (files : List File) (place : ℕ) (file : File) → place < length files → file ≡ get_or files place file → has_name name file ≡ true
    → (d : File) → has_name name (get_or files place d) ≡ true
named_at name [] place file inside is named d = absurd (omega arith)
named_at name (f ∷ fs) zero file inside is named d = ap (has_name name) (sym is) ∙ named
named_at name (f ∷ fs) (suc place) file inside is named d = named_at name fs place file (omega arith) is named d

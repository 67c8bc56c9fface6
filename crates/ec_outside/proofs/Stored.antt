use Rattle.std.proofs.Common.{◌≡◌, ◌≢◌, ◌∙◌, ap, sym, refl, ℕ, zero, suc, ◌+◌, ◌≤◌, Bool, true, false, List, [], ◌∷◌, ◌++◌, if◌then◌else◌, get_or, set, Some, None, arith}
use Rattle.std.proofs.lemmas.Slice.Eq.{bytes_eq-Decides}
use Rattle.std.specs.Bool.{Decides}
use Rattle.std.specs.Str.{bytes_eq}
use Rattle.ec_outside.specs.Files.{Table, file_of, place_of, OthersStay, Stores}
use Rattle.ec_outside.specs.declared.files.StoredFile.{StoredFile}

to_false : (b : Bool) (P : Type 0) → Decides b P → (P → ⊥) → b ≡ false
to_false true P d no_p = absurd (no_p (d.0 refl))
to_false false P d no_p = refl

-- equal names by the test
same_name : (a b : List ℕ) → bytes_eq a b ≡ true → a ≡ b
same_name a b e = (bytes_eq-Decides a b).0 e

-- a name is equal to itself
own_name : (a : List ℕ) → bytes_eq a a ≡ true
own_name a = (bytes_eq-Decides a a).1 refl

-- other names by the test
other_name : (a b : List ℕ) → a ≢ b → bytes_eq a b ≡ false
other_name a b ne = to_false (bytes_eq a b) (a ≡ b) (bytes_eq-Decides a b) ne

-- a place is counted from the first one on
place_of-least : (name : List ℕ) (files : Table) (k i : ℕ) → place_of name k files ≡ Some i → k ≤ i
place_of-least name [] k i e = absurd (cc)
place_of-least name (file ∷ files) k i e =
    elim (bytes_eq file.name name) as (λ b. (if b then Some k else place_of name (k + 1) files) ≡ Some i → k ≤ i) [
      | true ↦ λ found. grind arith
      | false ↦ λ later. let rest : k + 1 ≤ i = place_of-least name files (k + 1) i later in omega (arith, rest)
    ] e

-- one file before others that have its name's contents, or not
at_head : (name : List ℕ) (file : StoredFile) (files : Table) → file.name ≡ name → file_of name (file ∷ files) ≡ Some file.octets
at_head name file files same = rw (same, own_name name) refl

past_head : (name : List ℕ) (file : StoredFile) (files : Table) → file.name ≢ name → file_of name (file ∷ files) ≡ file_of name files
past_head name file files other = rw (other_name file.name name other) refl

-- what the place says of the first file's test
first_place : (b : Bool) (name : List ℕ) (files : Table) (k : ℕ) → (if b then Some k else place_of name (k + 1) files) ≡ Some (k + 0) → b ≡ true
first_place true name files k e = refl
first_place false name files k e = let least : k + 1 ≤ k + 0 = place_of-least name files (k + 1) (k + 0) e in absurd (omega (arith, least))

later_place :
    (b : Bool) (name : List ℕ) (files : Table) (k j : ℕ) → (if b then Some k else place_of name (k + 1) files) ≡ Some (k + suc j)
    → (b ≡ false) × (place_of name (k + 1) files ≡ Some (k + 1 + j))
later_place true name files k j e = absurd (grind arith)
later_place false name files k j e = let same : k + suc j ≡ k + 1 + j = omega arith in (refl, e ∙ ap (λ n. Some n) same)

no_place :
    (b : Bool) (name : List ℕ) (files : Table) (k : ℕ) → (if b then Some k else place_of name (k + 1) files) ≡ None
    → (b ≡ false) × (place_of name (k + 1) files ≡ None)
no_place true name files k e = absurd (cc)
no_place false name files k e = (refl, e)

-- a name that the test tells apart is another one
not_same : (a b : List ℕ) → bytes_eq a b ≡ false → a ≢ b
not_same a b unequal e = absurd (let equal : bytes_eq a b ≡ true = (bytes_eq-Decides a b).1 e in cc)

-- a change behind the first file that keeps the others keeps them behind it
others_behind : (name : List ℕ) (first : StoredFile) (old new : Table) → OthersStay name old new → OthersStay name (first ∷ old) (first ∷ new)
others_behind name first old new stay other ne = ap (λ found. if bytes_eq first.name other then Some first.octets else found) (stay other ne)

-- the contents of the file at the place of a name are replaced
pub stored_set :
    (name : List ℕ) (octets : List ℕ) (files : Table) (k j : ℕ) (file : StoredFile) → place_of name k files ≡ Some (k + j)
    → Stores name octets files (set files j (record { name = (get_or files j file).name; octets = octets }))
stored_set name octets [] k j file place = absurd (cc)
stored_set name octets (first ∷ files) k zero file place =
    let same : first.name ≡ name = same_name first.name name (first_place (bytes_eq first.name name) name files k place) in
    record {
      stored = at_head name (record { name = first.name; octets = octets }) files same;
      others = λ other ne. rw (other_name first.name other (λ e. ne (sym e ∙ same))) refl;
    }
stored_set name octets (first ∷ files) k (suc j) file place =
    let at : (bytes_eq first.name name ≡ false) × (place_of name (k + 1) files ≡ Some (k + 1 + j)) =
    later_place (bytes_eq first.name name) name files k j place in
    let after : Table = set files j (record { name = (get_or files j file).name; octets = octets }) in
    let later : Stores name octets files after = stored_set name octets files (k + 1) j file at.1 in
    record {
      stored = past_head name first after (not_same first.name name at.0) ∙ later.stored;
      others = others_behind name first files after later.others;
    }

-- a file of a new name is put behind all others
pub stored_push :
    (name : List ℕ) (octets : List ℕ) (files : Table) (k : ℕ) → place_of name k files ≡ None
    → Stores name octets files (files ++ record { name = name; octets = octets } ∷ [])
stored_push name octets [] k place =
    record {
      stored = at_head name (record { name = name; octets = octets }) [] refl;
      others = λ other ne. past_head other (record { name = name; octets = octets }) [] (λ e. ne (sym e));
    }
stored_push name octets (first ∷ files) k place =
    let none : (bytes_eq first.name name ≡ false) × (place_of name (k + 1) files ≡ None) =
    no_place (bytes_eq first.name name) name files k place in
    let after : Table = files ++ record { name = name; octets = octets } ∷ [] in
    let later : Stores name octets files after = stored_push name octets files (k + 1) none.1 in
    record {
      stored = past_head name first after (not_same first.name name none.0) ∙ later.stored;
      others = others_behind name first files after later.others;
    }

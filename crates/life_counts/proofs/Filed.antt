-- How often a slave's files are busy, and their blocks, are those of its plan.
use Rattle.std.proofs.Common.{◌≡◌, ℕ, Bool, true, false, cond, List, [], ◌∷◌, ◌++◌, Some, None, refl, ap, ◌∙◌, if◌then◌else◌}
use Rattle.std.specs.Prelude.{unwrap_or, option_map, is_some, find}
use Rattle.std.specs.Str.{bytes_eq}
use Rattle.std.proofs.lemmas.Slice.Eq.{bytes_eq-Decides}
use Rattle.slave_server.specs.of_file_store.declared.file.FileSpec.{FileSpec}
use Rattle.slave_server.specs.of_file_store.Files as Store
use Rattle.master_hand.specs.of_segment_plan.declared.slave.SlaveSpec.{SlaveSpec}
use Rattle.master_hand.specs.of_segment_plan.Bound as Bound
use Rattle.slave_server.specs.Spec.{with_file, with_files, files_of}

pub files_blocks : (fs : List (FileSpec × List ℕ)) (k : Store.Kept) → (with_files fs k).blocks ≡ k.blocks
files_blocks [] k = refl
files_blocks (f ∷ fs) k = files_blocks fs (with_file f k) ∙ by (is_some (Store.file_of k f.0.name.items))
  where
    by : (b : Bool) → (if b then k else record k { files = k.files ++ record { spec = f.0; octets = f.1 } ∷ [] }).blocks ≡ k.blocks
    by true = refl
    by false = refl

-- one more at the end
found_before : (test : Store.Filed → Bool) (xs : List Store.Filed) (y x : Store.Filed) → find test xs ≡ Some x → find test (xs ++ y ∷ []) ≡ Some x
found_before test [] y x e = absurd (cc)
found_before test (z ∷ xs) y x e = by (test z) e (found_before test xs y x)
  where
    by : (b : Bool) → cond b (Some z) (find test xs) ≡ Some x → (find test xs ≡ Some x → find test (xs ++ y ∷ []) ≡ Some x) → cond b (Some z) (find test (xs ++ y ∷ [])) ≡ Some x
    by true e later = e
    by false e later = later e

found_last : (test : Store.Filed → Bool) (xs : List Store.Filed) (y : Store.Filed) → find test xs ≡ None → find test (xs ++ y ∷ []) ≡ cond (test y) (Some y) None
found_last test [] y e = refl
found_last test (z ∷ xs) y e = by (test z) e (found_last test xs y)
  where
    by : (b : Bool) → cond b (Some z) (find test xs) ≡ None → (find test xs ≡ None → find test (xs ++ y ∷ []) ≡ cond (test y) (Some y) None) → cond b (Some z) (find test (xs ++ y ∷ [])) ≡ cond (test y) (Some y) None
    by true e later = absurd (cc)
    by false e later = later e

stays_found : (fs : List (FileSpec × List ℕ)) (k : Store.Kept) (name : List ℕ) (x : Store.Filed) → Store.file_of k name ≡ Some x → Store.file_of (with_files fs k) name ≡ Some x
stays_found [] k name x e = e
stays_found (f ∷ fs) k name x e = stays_found fs (with_file f k) name x (by (is_some (Store.file_of k f.0.name.items)))
  where
    by : (b : Bool) → Store.file_of (if b then k else record k { files = k.files ++ record { spec = f.0; octets = f.1 } ∷ [] }) name ≡ Some x
    by true = e
    by false = found_before (Store.is_named name) k.files (record { spec = f.0; octets = f.1 }) x e

-- how often the plan's file of a name is busy
abbrev plan_busy : List (FileSpec × List ℕ) → List ℕ → ℕ
plan_busy fs name = unwrap_or (option_map (λ (f : FileSpec × List ℕ). f.0.busy) (find (λ (f : FileSpec × List ℕ). bytes_eq f.0.name.items name) fs)) 0

busy_some : (k : Store.Kept) (name : List ℕ) (x : Store.Filed) → Store.file_of k name ≡ Some x → Store.busy_of k name ≡ x.spec.busy
busy_some k name x e = ap (λ found. unwrap_or (option_map (λ (f : Store.Filed). f.spec.busy) found) 0) e

files_busy : (fs : List (FileSpec × List ℕ)) (k : Store.Kept) (name : List ℕ) → Store.file_of k name ≡ None → Store.busy_of (with_files fs k) name ≡ plan_busy fs name
files_busy [] k name none = ap (λ found. unwrap_or (option_map (λ (f : Store.Filed). f.spec.busy) found) 0) none
files_busy (f ∷ fs) k name none = by (bytes_eq f.0.name.items name) refl (λ still. files_busy fs (with_file f k) name still)
  where
    last : Store.file_of (record k { files = k.files ++ record { spec = f.0; octets = f.1 } ∷ [] }) name ≡ cond (bytes_eq f.0.name.items name) (Some (record { spec = f.0; octets = f.1 })) None
    last = found_last (Store.is_named name) k.files (record { spec = f.0; octets = f.1 }) none

    other : bytes_eq f.0.name.items name ≡ false → (b : Bool) → Store.file_of (if b then k else record k { files = k.files ++ record { spec = f.0; octets = f.1 } ∷ [] }) name ≡ None
    other e true = none
    other e false = last ∙ ap (λ (b : Bool). cond b (Some (record { spec = f.0; octets = f.1 })) None) e

    by : (b : Bool) → bytes_eq f.0.name.items name ≡ b → (Store.file_of (with_file f k) name ≡ None → Store.busy_of (with_files fs (with_file f k)) name ≡ plan_busy fs name) →
        Store.busy_of (with_files fs (with_file f k)) name ≡ unwrap_or (option_map (λ (g : FileSpec × List ℕ). g.0.busy) (cond b (Some f) (find (λ (g : FileSpec × List ℕ). bytes_eq g.0.name.items name) fs))) 0
    by true e later =
        let same : f.0.name.items ≡ name = (bytes_eq-Decides f.0.name.items name).0 e in
        let gone : Store.file_of k f.0.name.items ≡ None = ap (Store.file_of k) same ∙ none in
        let is_new : with_file f k ≡ record k { files = k.files ++ record { spec = f.0; octets = f.1 } ∷ [] } = rw gone refl in
        let here : Store.file_of (with_file f k) name ≡ Some (record { spec = f.0; octets = f.1 }) =
        ap (λ x. Store.file_of x name) is_new ∙ last ∙ ap (λ (b : Bool). cond b (Some (record { spec = f.0; octets = f.1 })) None) e in
        busy_some (with_files fs (with_file f k)) name (record { spec = f.0; octets = f.1 }) (stays_found fs (with_file f k) name (record { spec = f.0; octets = f.1 }) here)
    by false e later = later (other e (is_some (Store.file_of k f.0.name.items)))

pub plan_file_busy : (s : SlaveSpec) (name : List ℕ) → Store.busy_of (files_of s) name ≡ Bound.busy_of s name
plan_file_busy s name = files_busy s.files (record { files = []; blocks = s.blocks }) name refl

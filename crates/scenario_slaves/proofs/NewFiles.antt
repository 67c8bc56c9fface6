-- Files whose names come once.
use Rattle.std.proofs.Common.{◌≡◌, ℕ, List, [], ◌∷◌, ◌++◌, true, refl, append_assoc}
use Rattle.std.proofs.lemmas.Bool.{and_parts}
use Rattle.std.proofs.lemmas.List.{append-nil}
use Rattle.scenario_values.specs.of_file_store.declared.file.FileSpec.{FileSpec}
use Rattle.scenario_values.specs.of_segment_plan.Sound.{is_new_file, are_new_files}

-- one more file, whose name none before it has
pub are_new_files-push : (before files : List (FileSpec × List ℕ)) (file : FileSpec × List ℕ) → are_new_files before files ≡ true
    → is_new_file (before ++ files) file.0.name.items ≡ true → are_new_files before (files ++ file ∷ []) ≡ true
are_new_files-push before [] file h new =
    let first : is_new_file before file.0.name.items ≡ true = rw append-nil at new in
    rw first refl
are_new_files-push before (f ∷ files) file h new =
    let p = and_parts (is_new_file before f.0.name.items) (are_new_files (before ++ f ∷ []) files) h in
    let behind : is_new_file ((before ++ f ∷ []) ++ files) file.0.name.items ≡ true = rw append_assoc new in
    rw (p.0, are_new_files-push (before ++ f ∷ []) files file p.1 behind) refl

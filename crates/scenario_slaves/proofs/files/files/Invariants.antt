use Rattle.std.proofs.Common.{◌≡◌, List, ℕ, ◌≤◌, true, [], ◌∷◌, ◌++◌, map}
use Rattle.toml.specs.View.{table_view}
use Rattle.scenario_values.specs.of_file_store.declared.file.FileSpec.{FileSpec}
use Rattle.scenario_values.specs.of_scenario_keys.declared.place.Place.TheVariants.{File}
use Rattle.scenario_values.specs.of_segment_plan.Sound.{IsFile, taken, are_new_files}
use Rattle.scenario_slaves.specs.Files.{file_of}
use Rattle.scenario_values.proofs.of_scenario_keys.Each.{HasRead}
use Rattle.scenario_slaves.proofs.files.files.Given as goal

abbrev pub invariant-loop-i : goal.invariant-loop-i
invariant-loop-i l =
    HasRead IsFile (λ before (y : FileSpec × List ℕ). before ++ y ∷ []) (λ k before ms. file_of l.blocks before (File l.slave k) ms) [] (map (λ t. table_view t.now) l.tables) l.i l.rows l.rows
    × (taken l.rows ≤ l.blocks)
    × (are_new_files [] l.rows ≡ true)

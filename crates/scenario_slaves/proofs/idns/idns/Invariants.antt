use Rattle.std.proofs.Common.{◌≡◌, true, [], ◌∷◌, ◌++◌, map}
use Rattle.toml.specs.View.{table_view}
use Rattle.scenario_values.specs.of_idn_table.declared.spec.IdnSpec.{IdnSpec}
use Rattle.scenario_values.specs.of_scenario_keys.declared.place.Place.TheVariants.{Idn}
use Rattle.scenario_values.specs.of_segment_plan.Sound.{IsIdn, are_new_idns}
use Rattle.scenario_slaves.specs.Idns.{idn_of}
use Rattle.scenario_values.proofs.of_scenario_keys.Each.{HasRead}
use Rattle.scenario_slaves.proofs.idns.idns.Given as goal

abbrev pub invariant-loop-i : goal.invariant-loop-i
invariant-loop-i l =
    HasRead IsIdn (λ before (y : IdnSpec). before ++ y ∷ []) (λ k before ms. idn_of before (Idn l.slave k) ms) [] (map (λ t. table_view t.now) l.tables) l.i l.rows l.rows
    × (are_new_idns [] l.rows ≡ true)

use Rattle.std.proofs.Common.{map}
use Rattle.toml.specs.View.{table_view}
use Rattle.segment_plan.specs.declared.slave.ObjectSpec.{ObjectSpec}
use Rattle.scenario_values.specs.Objects.{object_of}
use Rattle.segment_plan.specs.Sound.{IsObject, indexes}
use Rattle.scenario_values.proofs.Rising.{RisesTo}
use Rattle.scenario_keys.proofs.Each.{HasRead}
use Rattle.scenario_values.proofs.dictionary.objects.Given as goal

abbrev pub invariant-loop-i : goal.invariant-loop-i
invariant-loop-i l = HasRead IsObject (λ _ (o : ObjectSpec). o.index) (λ k before ms. object_of l.slave k before ms) 0 (map (λ t. table_view t.now) l.tables) l.i l.before l.rows
    × RisesTo l.before (indexes l.rows)

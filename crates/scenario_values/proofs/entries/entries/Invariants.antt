use Rattle.std.proofs.Common.{map, None}
use Rattle.toml.specs.View.{table_view}
use Rattle.scenario_keys.specs.declared.place.Place.TheVariants.{Entry}
use Rattle.scenario_values.specs.Entries.{kind_behind, entry_of}
use Rattle.segment_plan.specs.Sound.{IsEntry}
use Rattle.scenario_keys.proofs.Each.{HasRead}
use Rattle.scenario_values.proofs.entries.entries.Given as goal

abbrev pub invariant-loop-i : goal.invariant-loop-i
invariant-loop-i l = HasRead IsEntry (λ _ e. kind_behind l.code e) (λ k before ms. entry_of before (Entry l.slave l.object k) ms) None (map (λ t. table_view t.now) l.tables) l.i l.before l.rows

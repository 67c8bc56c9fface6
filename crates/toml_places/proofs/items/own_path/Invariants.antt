use Rattle.std.proofs.Common.{◌≡◌, length}
use Rattle.toml.specs.View.{table_view}
use Rattle.toml_places.specs.Items.{own_in}
use Rattle.toml_places.proofs.items.own_path.Given as goal

abbrev pub invariant-loop-own : goal.invariant-loop-own
invariant-loop-own l = own_in l.own (table_view l.table) ≡ own_in l.initial.own (table_view l.table)

abbrev pub decreases-loop-own : goal.decreases-loop-own
decreases-loop-own l = length l.own

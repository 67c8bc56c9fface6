use Rattle.std.proofs.Common.{◌≡◌, map}
use Rattle.toml.specs.View.{members_view, table_view}
use Rattle.scenario_keys.specs.Keys.{has_only}
use Rattle.scenario_keys.proofs.keys.only_known.Given as goal

abbrev pub invariant-loop-key : goal.invariant-loop-key
invariant-loop-key l =
    (goal.iterator-loop-key).can_next l.key-iterator ×
    (goal.iterator-loop-key).is_finite l.key-iterator ×
    (has_only (map (λ k. k.now) l.known) (members_view l.key-iterator) ≡ has_only (map (λ k. k.now) l.known) (table_view l.table))

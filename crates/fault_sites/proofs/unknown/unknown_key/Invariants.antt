use Rattle.std.proofs.Common.{◌≡◌}
use Rattle.toml.specs.View.{members_view, table_view}
use Rattle.fault_sites.specs.Keys.{is_known, first_unknown}
use Rattle.fault_sites.proofs.unknown.unknown_key.Given as goal

abbrev pub invariant-loop-key : goal.invariant-loop-key
invariant-loop-key l =
    (goal.iterator-loop-key).can_next l.key-iterator ×
    (goal.iterator-loop-key).is_finite l.key-iterator ×
    (first_unknown (is_known (table_view l.site.document.now) l.site.place (table_view l.site.table.now)) (members_view l.key-iterator)
    ≡ first_unknown (is_known (table_view l.site.document.now) l.site.place (table_view l.site.table.now)) (table_view l.site.table.now))

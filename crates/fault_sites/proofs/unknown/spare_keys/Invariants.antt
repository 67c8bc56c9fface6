use Rattle.std.proofs.Common.{map}
use Rattle.toml.specs.View.{table_view}
use Rattle.fault_texts.specs.Rows.{asked}
use Rattle.fault_sites.specs.Keys.{is_spare}
use Rattle.fault_sites.proofs.Lists.{Kept}
use Rattle.fault_sites.proofs.unknown.spare_keys.Given as goal

abbrev pub invariant-loop-row : goal.invariant-loop-row
invariant-loop-row l =
    Kept (is_spare (table_view l.site.document.now) l.site.place (table_view l.site.table.now)) (λ key. key.0) asked l.row-items l.row-index (map (λ key. key.now) l.keys.items)

use Rattle.std.proofs.Common.{◌≡◌, find, map, drop}
use Rattle.toml.specs.View.{table_view}
use Rattle.fault_texts.specs.Rows.{asked}
use Rattle.fault_sites.specs.Keys.{is_missing}
use Rattle.fault_sites.proofs.missing.missing_row.Given as goal

abbrev pub invariant-loop-row : goal.invariant-loop-row
invariant-loop-row l =
    find (is_missing (table_view l.site.document.now) l.site.place (table_view l.site.table.now)) (map asked (drop l.row-index l.row-items))
    ≡ find (is_missing (table_view l.site.document.now) l.site.place (table_view l.site.table.now)) (map asked l.row-items)

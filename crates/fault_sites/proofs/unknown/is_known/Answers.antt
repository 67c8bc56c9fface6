use Rattle.std.proofs.Common.{sym, ap, ◌∙◌, List, ℕ, Bool}
use Rattle.std.specs.List.{list_any}
use Rattle.toml.specs.View.{table_view}
use Rattle.fault_texts.specs.declared.shape.Need.{Need}
use Rattle.fault_texts.specs.declared.shape.Kind.{Kind}
use Rattle.fault_texts.specs.Rows.{asked, keys_of}
use Rattle.fault_sites.specs.Keys.{is_this, is_known}
use Rattle.fault_sites.proofs.Lists.{list_any_map}
use Rattle.fault_sites.proofs.unknown.is_known.Goals as goal

pub returns : goal.returns
unfolding is_known
returns c =
    let p : List ℕ × Need → Bool = is_this (table_view c.args.site.now.document.now) c.args.site.now.place (table_view c.args.site.now.table.now) c.args.key.now in
    c.is_among.ensures ∙ sym (list_any_map p asked c.rows_of.result.now) ∙ ap (list_any p) c.rows_of.ensures ∙ ap (λ (k : Kind). list_any p (keys_of k)) c.kind.ensures

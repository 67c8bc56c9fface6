use Rattle.std.proofs.Common.{◌≡◌, Some, sym, ap, ◌∙◌}
use Rattle.std.specs.Map.{lookup}
use Rattle.idn_table.specs.Idns.{is_key, idn_at, target}
use Rattle.idn_table.proofs.Tables.{code_found}
use Rattle.idn_table.proofs.table.IdnTable.write_code.Goals as goal

pub returns-in-Some-element_of : goal.returns-in-Some-element_of
returns-in-Some-element_of c =
    let found : idn_at c.args.self.now (target c.args.drive c.args.idn c.args.elements) ≡ Some c.in-Some.kept.now =
    ap (lookup (is_key (c.args.drive, c.args.idn))) (sym c.self.view_is) ∙ sym c.in-Some.ensures.value in
    c.write_code.ensures ∙ code_found c.args.self.now (target c.args.drive c.args.idn c.args.elements) c.args.bytes.now c.in-Some.kept.now c.in-Some-element_of.element found (sym c.in-Some-element_of.ensures)

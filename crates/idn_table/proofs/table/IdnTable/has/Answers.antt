use Rattle.std.proofs.Common.{◌≡◌, Some, sym, ap, ◌∙◌}
use Rattle.std.specs.Map.{lookup}
use Rattle.protocol_models.specs.Elements.{target}
use Rattle.idn_table.specs.Idns.{is_key, idn_at}
use Rattle.idn_table.proofs.table.IdnTable.has.Goals as goal

pub returns-in-Some : goal.returns-in-Some
returns-in-Some c =
    let found : idn_at c.args.self.now (target c.args.drive c.args.number 0) ≡ Some c.in-Some.field-0.now =
    ap (lookup (is_key (c.args.drive, c.args.number))) (sym c.self.view_is) ∙ sym c.in-Some.ensures.value in
    ((λ wrong. absurd (cc)), (λ none. absurd (let wrong = sym found ∙ none in cc)))

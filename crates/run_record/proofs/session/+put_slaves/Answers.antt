use Rattle.std.proofs.Common.{◌≡◌, ◌++◌, ◌∷◌, [], length, length-append, ap, ap₂, sym, ◌∙◌, append_assoc, arith}
use Rattle.std.proofs.lemmas.Result.{on_ok_weaker}
use Rattle.run_notes.specs.Slaves.{slave_rows}
use Rattle.run_record.proofs.Rows.{rows_more}
use Rattle.run_record.proofs.session.+put_slaves.Goals as goal

pub returns : goal.returns
returns t c =
    let nodes = c.in-Some.ensures.last in
    let notes = c.in-Some-pop.ensures.last in
    let both = c.requires in
    let n = ap length nodes ∙ length-append c.pop.new.self (c.in-Some.node ∷ []) in
    let m = ap length notes ∙ length-append c.pop-2.new.self (c.in-Some-pop.last ∷ []) in
    let same : length c.pop-2.new.self ≡ length c.pop.new.self = omega (arith, both, n, m) in
    let all = ap₂ (slave_rows c.args.recover) nodes notes ∙ rows_more c.args.recover c.pop.new.self c.pop-2.new.self c.in-Some.node c.in-Some-pop.last same in
    on_ok_weaker c.add.result
    (λ put. put ∙ ap (λ rows. rows ++ c.in_ok-slave_book.field-0 ∷ []) c.in_ok-put_slaves.ensures
    ∙ append_assoc c.args.into.now (slave_rows c.args.recover c.pop.new.self c.pop-2.new.self) (c.in_ok-slave_book.field-0 ∷ [])
    ∙ ap (λ row. c.args.into.now ++ (slave_rows c.args.recover c.pop.new.self c.pop-2.new.self ++ row ∷ [])) c.in_ok-slave_book.ensures
    ∙ ap (λ rows. c.args.into.now ++ rows) (sym all))
    c.add.ensures.ok

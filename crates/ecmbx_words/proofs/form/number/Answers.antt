use Rattle.std.proofs.Common.{sym, ◌∙◌}
use Rattle.std.proofs.lemmas.Slice.Eq.{bytes_eq-Decides}
use Rattle.ecmbx_words.proofs.Numbers.{number_is, parsed_fits, none_parsed, none_spelled}
use Rattle.ecmbx_words.proofs.form.number.Goals as goal

pub returns-in_default : goal.returns-in_default
returns-in_default c = none_parsed c.args.word.now c.parse.result c.parse.ensures.value.0 c.in_default.not-Ok

pub returns-then-eq : goal.returns-then-eq
returns-then-eq c =
    let same = (bytes_eq-Decides c.format.result.now c.args.word.now).0 (sym c.eq.ensures ∙ c.if-eq.true) in
    number_is c.args.word.now c.in-Ok.number (parsed_fits c.args.word.now c.in-Ok.number c.parse.result c.parse.ensures.value.0 c.in-Ok.is) (sym same ∙ c.format.ensures.text)

pub returns-else-eq : goal.returns-else-eq
returns-else-eq c =
    none_spelled c.args.word.now c.in-Ok.number c.parse.result c.parse.ensures.value.0 c.in-Ok.is
    (λ spelled.
    let same = (bytes_eq-Decides c.format.result.now c.args.word.now).1 (c.format.ensures.text ∙ sym spelled) in
    absurd cc)

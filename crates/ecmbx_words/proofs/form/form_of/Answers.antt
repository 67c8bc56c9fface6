use Rattle.std.proofs.Common.{ap, ◌∙◌}
use Rattle.ecmbx_words.specs.Form.{pair_in}
use Rattle.ecmbx_words.proofs.Words.{pair_at}
use Rattle.ecmbx_words.proofs.form.form_of.Goals as goal

pub returns-in-len2 : goal.returns-in-len2
returns-in-len2 c = c.pair.ensures ∙ ap pair_in c.as_str.ensures.value ∙ pair_at c.args.words.now c.word-item.result c.in-len2.len_at_least c.in-len2.len_below c.word-item.is

use Rattle.std.proofs.Common.{arith, [], option_copied}
use Rattle.code_texts.specs.Fitting.{is_asked}
use Rattle.code_texts.specs.Telling.{family_entry, listed}
use Rattle.code_texts.proofs.Kept.{all_told}
use Rattle.code_texts.proofs.telling.list.Goals as goal

pub returns : goal.returns
unfolding listed
returns c = all_told (is_asked (option_copied c.args.head)) family_entry c.args.families.now c.loop-family.family-index [] c.loop-family.text (omega arith) c.loop-family.invariant

use Rattle.std.proofs.Common.{arith, option_copied}
use Rattle.code_texts.specs.Fitting.{is_asked}
use Rattle.code_texts.specs.Telling.{found_in, found}
use Rattle.code_texts.proofs.Kept.{all_told}
use Rattle.code_texts.proofs.telling.add_found.Goals as goal

pub returns : goal.returns
unfolding found
returns c =
    all_told (is_asked (option_copied c.args.head)) (found_in c.args.reading c.args.word.now) c.args.families.now c.loop-family.family-index c.args.text.now c.loop-family.text (omega arith) c.loop-family.invariant

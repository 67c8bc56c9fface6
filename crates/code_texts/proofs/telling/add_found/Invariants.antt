use Rattle.std.proofs.Common.{option_copied}
use Rattle.code_texts.specs.Fitting.{is_asked}
use Rattle.code_texts.specs.Telling.{found_in}
use Rattle.code_texts.proofs.Kept.{Tells}
use Rattle.code_texts.proofs.telling.add_found.Given as goal

abbrev pub invariant-loop-family : goal.invariant-loop-family
invariant-loop-family l = Tells (is_asked (option_copied l.head)) (found_in l.reading l.word) l.families l.family-index l.fn.text l.text

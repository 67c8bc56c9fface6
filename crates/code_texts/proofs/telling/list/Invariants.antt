use Rattle.std.proofs.Common.{[], option_copied}
use Rattle.code_texts.specs.Fitting.{is_asked}
use Rattle.code_texts.specs.Telling.{family_entry}
use Rattle.code_texts.proofs.Kept.{Tells}
use Rattle.code_texts.proofs.telling.list.Given as goal

abbrev pub invariant-loop-family : goal.invariant-loop-family
invariant-loop-family l = Tells (is_asked (option_copied l.head)) family_entry l.families l.family-index [] l.text

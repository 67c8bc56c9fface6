use Rattle.std.proofs.Common.{◌≡◌, ◌++◌, drop}
use Rattle.value_texts.specs.Whole.{values_text}
use Rattle.value_texts.proofs.whole.add_values.Given as goal

abbrev pub invariant-loop-entry : goal.invariant-loop-entry
invariant-loop-entry l = l.line ++ values_text (drop l.entry-index l.entries) l.left ≡ l.fn.line ++ values_text l.entries l.octets

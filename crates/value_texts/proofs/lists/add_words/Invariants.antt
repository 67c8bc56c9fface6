use Rattle.std.proofs.Common.{◌≡◌, ◌++◌, length}
use Rattle.value_texts.specs.Lists.{words_text}
use Rattle.value_texts.proofs.lists.add_words.Given as goal

abbrev pub invariant-loop-left : goal.invariant-loop-left
invariant-loop-left l = l.line ++ words_text l.kind l.left ≡ l.fn.line ++ words_text l.kind l.octets

abbrev pub decreases-loop-left : goal.decreases-loop-left
decreases-loop-left l = length l.left

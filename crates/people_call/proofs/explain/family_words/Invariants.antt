use Rattle.std.proofs.Common.{◌≡◌, ◌++◌, drop, map}
use Rattle.code_texts.specs.Family.{word_of}
use Rattle.people_call.proofs.explain.family_words.Given as goal

abbrev pub invariant-loop-family : goal.invariant-loop-family
invariant-loop-family l = map (λ word. word.now) l.words.items ++ map word_of (drop l.family-index l.families) ≡ map word_of l.families

use Rattle.std.proofs.Common.{arith}
use Rattle.code_texts.specs.Family.{word_of}
use Rattle.people_call.proofs.Known.{all_seen}
use Rattle.people_call.proofs.explain.family_words.Goals as goal

pub returns : goal.returns
returns c = all_seen word_of c.args.families.now c.loop-family.family-index _ (omega arith) c.loop-family.invariant

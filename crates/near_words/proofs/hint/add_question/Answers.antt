use Rattle.near_words.specs.Hint.{question}
use Rattle.near_words.proofs.Asked.{three}
use Rattle.near_words.proofs.hint.add_question.Goals as goal

pub returns : goal.returns
unfolding question
returns c = three c.args.line.now _ c.as_bytes.result.now c.args.meant.now _ c.add.new.self c.add-2.new.self c.add-3.new.self c.in_ok-add.ensures.ok c.in_ok-add-2.ensures.ok c.as_bytes.ensures.value c.in_ok-add-3.ensures.ok

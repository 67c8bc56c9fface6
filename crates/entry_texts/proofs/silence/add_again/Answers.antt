use Rattle.entry_texts.specs.Silence.{again_line}
use Rattle.entry_texts.proofs.Parts.{three_parts}
use Rattle.entry_texts.proofs.silence.add_again.Goals as goal

pub returns : goal.returns
unfolding again_line
returns c =
    three_parts c.args.line.now _ _ _ c.add.new.self c.add_words.new.line c.add-2.new.self c.in_ok-add.ensures.ok c.in_ok-add_words.ensures c.in_ok-add-2.ensures.ok

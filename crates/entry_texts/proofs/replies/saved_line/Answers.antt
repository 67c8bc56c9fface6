use Rattle.entry_texts.specs.Replies.{saved_line}
use Rattle.entry_texts.proofs.Parts.{four_parts}
use Rattle.entry_texts.proofs.replies.saved_line.Goals as goal

pub returns : goal.returns
unfolding saved_line
returns c =
    four_parts c.in_ok-line.line _ _ _ _ _ c.add_count.new.line c.add.new.self c.add_word.new.line c.add-2.new.self
    c.in_ok-line.ensures c.in_ok-add_count.ensures c.in_ok-add.ensures.ok c.in_ok-add_word.ensures c.in_ok-add-2.ensures.ok

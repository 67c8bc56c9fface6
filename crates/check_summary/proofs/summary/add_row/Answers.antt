use Rattle.std.proofs.Common.{◌∙◌, append_assoc}
use Rattle.check_summary.specs.Summary.{row_text}
use Rattle.check_summary.proofs.summary.add_row.Goals as goal

pub returns : goal.returns
unfolding row_text
returns c = c.in_ok-add-3.ensures.ok ∙ rw (c.in_ok-add_number-2.ensures, c.from.ensures, c.in_ok-add-2.ensures.ok, c.in_ok-add_number.ensures, c.in_ok-add.ensures.ok) (simp append_assoc)

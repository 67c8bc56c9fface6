use Rattle.std.proofs.Common.{◌∙◌, append_assoc}
use Rattle.check_summary.specs.Summary.{bound_line}
use Rattle.check_summary.proofs.summary.add_bound.Goals as goal

pub returns : goal.returns
unfolding bound_line
returns c = c.in_ok-add-2.ensures.ok ∙ rw (c.in_ok-add_budget.ensures, c.in_ok-add_number.ensures, c.in_ok-add.ensures.ok) (simp append_assoc)

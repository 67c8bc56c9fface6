use Rattle.std.proofs.Common.{◌∙◌, append_assoc}
use Rattle.check_summary.specs.Promise.{lost_text}
use Rattle.check_summary.proofs.promise.add_lost.Goals as goal

pub returns : goal.returns
unfolding lost_text
returns c = c.in_ok-add-3.ensures.ok ∙ rw (c.in_ok-add_number-2.ensures, c.saturating_sub.ensures, c.in_ok-add-2.ensures.ok, c.in_ok-add_number.ensures, c.from.ensures, c.in_ok-add.ensures.ok, c.as_bytes.ensures.value) (simp append_assoc)

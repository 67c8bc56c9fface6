use Rattle.std.proofs.Common.{◌≡◌, ◌≤◌, length, ◌∙◌, ap, arith}
use Rattle.check_summary.specs.Losses.{count_of, longest_row}
use Rattle.check_summary.proofs.Few.{are_few}
use Rattle.check_summary.proofs.promise.promise_of.Goals as goal

pub returns-else-count-from-clause-few : goal.returns-else-count-from-clause-few
returns-else-count-from-clause-few c =
    let row : c.longest_row-row.result ≡ longest_row c.args.plan.now.lose = c.longest_row-row.ensures ∙ ap longest_row c.as_slice.ensures in
    let le : count_of (longest_row c.args.plan.now.lose) ≤ c.args.plan.now.retry = rw (← row) (omega arith) in
    λ _. are_few (length c.args.plan.now.slaves) c.args.plan.now.lose c.args.plan.now.retry c.requires.lose le

use Rattle.std.proofs.Common.{◌≡◌}
use Rattle.mailbox_law.proofs.run.rows_of.Given as goal

abbrev pub invariant-loop-mail : goal.invariant-loop-mail
invariant-loop-mail l = l.rows ≡ l.yielded

use Rattle.std.proofs.Common.{◌≡◌, vec_len}
use Rattle.master_node.proofs.happened.Happenings.new.Given as goal

abbrev pub invariant-loop : goal.invariant-loop
invariant-loop l = vec_len l.rows ≡ l.counter

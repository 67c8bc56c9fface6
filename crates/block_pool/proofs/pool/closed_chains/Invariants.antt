use Rattle.std.proofs.Common.{◌≡◌, [], replicate, false}
use Rattle.block_pool.proofs.pool.closed_chains.Given as goal

abbrev pub invariant-loop : goal.invariant-loop
invariant-loop l = l.made.items ≡ replicate l.counter (record { live = false; octets = []; blocks = 0; room = l.blocks })

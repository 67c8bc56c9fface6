use Rattle.std.proofs.Common.{◌≡◌, ◌∙◌, ap, None, replicate}
use Rattle.block_pool.specs.Pool.{chains_of}
use Rattle.block_pool.proofs.Places.{fresh}
use Rattle.block_pool.proofs.pool.Pool.new.Goals as goal

pub returns : goal.returns
returns c =
    let chains : chains_of c.in_ok-closed_chains.field-0.items ≡ replicate c.args.chains None =
    ap chains_of c.in_ok-closed_chains.ensures ∙ fresh c.args.chains c.args.blocks in
    λ i. record { chains = chains i; free = c.in_ok-free_blocks.ensures.count i }

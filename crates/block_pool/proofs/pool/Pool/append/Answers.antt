use Rattle.std.proofs.Common.{ℕ, sym, subst, length}
use Rattle.block_pool.specs.Region.{Region, IsLive}
use Rattle.block_pool.proofs.Places.{append_step}
use Rattle.block_pool.proofs.pool.Pool.append.Goals as goal

pub returns-clause-ok : goal.returns-clause-ok
returns-clause-ok c =
    let live = subst (λ (r : Region). IsLive r c.id.inside.place) (sym c.self.view_is) (subst (λ (n : ℕ). IsLive c.args.self.now n) (sym c.id.view_is) c.requires) in
    rw (← c.self.view_is, ← c.id.view_is)
    (append_step c.self.inside.chains.items (length c.self.inside.free.items) (length c.extend.new.free.items) c.id.inside.place
    c.index_mut-chain.result.now c.extend.new.chain c.args.bytes.now live c.index_mut-chain.ensures.value c.extend.ensures.live
    c.extend.ensures.octets c.len.ensures.blocks c.extend.ensures.within c.extend.ensures.needed c.extend.ensures.blocks)

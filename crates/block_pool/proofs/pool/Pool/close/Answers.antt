use Rattle.std.proofs.Common.{◌≡◌, ap, sym, subst, ℕ, ◌+◌, length, arith}
use Rattle.std.proofs.lemmas.Grind.{common_steps}
use Rattle.block_pool.specs.Chained.{Chained}
use Rattle.block_pool.specs.Region.{Region, IsLive}
use Rattle.block_pool.proofs.Places.{close_step}
use Rattle.block_pool.proofs.pool.Pool.close.Goals as goal

pub returns : goal.returns
returns c =
    let live = subst (λ (r : Region). IsLive r c.id.inside.place) (sym c.self.view_is) (subst (λ (n : ℕ). IsLive c.args.self.now n) (sym c.id.view_is) c.requires) in
    let freed : length c.close.new.free.items ≡ length c.self.inside.free.items + c.index_mut.result.now.blocks = grind (arith, common_steps, c.close.ensures.freed) in
    rw (← c.self.view_is, ← c.id.view_is)
    (close_step c.self.inside.chains.items (length c.self.inside.free.items) (length c.close.new.free.items) c.id.inside.place
    c.index_mut.result.now c.close.new.self live c.index_mut.ensures.value (ap (λ (v : Chained). v.live) c.close.ensures.closed)
    c.close.ensures.count freed)

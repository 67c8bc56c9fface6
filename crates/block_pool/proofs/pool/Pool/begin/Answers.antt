use Rattle.std.proofs.Common.{◌≡◌, ◌∙◌, ap, subst, ◌<◌, length, get_or, true, false, is_some, [], arith}
use Rattle.block_pool.specs.Chained.{Chained}
use Rattle.block_pool.specs.Region.{AllLive}
use Rattle.block_pool.proofs.Places.{places, octets_at, of_live, begin_step}
use Rattle.block_pool.proofs.pool.Pool.begin.Goals as goal

-- a place without a chain
nowhere : Chained
nowhere = record { live = false; octets = []; blocks = 0; room = 0 }

pub returns-in-None-clause-full : goal.returns-in-None-clause-full
returns-in-None-clause-full c =
    subst AllLive c.self.view_is
    (λ place inside.
    let within : place < length c.self.inside.chains.items = omega (arith, places c.self.inside.chains.items, inside) in
    let slice = c.as_slice.ensures.value in
    let live : (get_or c.self.inside.chains.items place nowhere).live ≡ true =
    subst (λ xs. (get_or xs place nowhere).live ≡ true) slice (c.in-None.ensures.none place nowhere (omega (arith, within, ap length slice))) in
    ap is_some (octets_at c.self.inside.chains.items place nowhere within ∙ of_live (get_or c.self.inside.chains.items place nowhere) live))

pub returns-in-Some-clause-begun : goal.returns-in-Some-clause-begun
returns-in-Some-clause-begun c =
    let slice = c.as_slice.ensures.value in
    let within : c.in-Some.place < length c.self.inside.chains.items = omega (arith, c.in-Some.ensures.found.0, ap length slice) in
    let step =
    begin_step c.self.inside.chains.items c.in-Some.place c.index_mut.result.now c.open.new.self within c.index_mut.ensures.value
    (subst (λ xs. (get_or xs c.in-Some.place c.index_mut.result.now).live ≡ false) slice (c.in-Some.ensures.found.1 c.index_mut.result.now))
    (ap (λ (v : Chained). v.live) c.open.ensures.opened) (ap (λ (v : Chained). v.octets) c.open.ensures.opened) in
    rw (← c.self.view_is) (step.0, step.1, λ i. record { chains = step.2 i; free = length c.self.inside.free.items })

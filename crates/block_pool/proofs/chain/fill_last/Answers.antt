use Rattle.std.proofs.Common.{◌∙◌, ap, ◌++◌, length, arith}
use Rattle.std.proofs.lemmas.Grind.{common_steps}
use Rattle.block_pool.proofs.Packed.{boxes_room, boxes_filled, boxes_filled_packed}
use Rattle.block_pool.proofs.chain.fill_last.Goals as goal

pub unreachable-requires : goal.unreachable-requires
unreachable-requires c =
    let room = boxes_room c.args.blocks.now c.index-blocks-last.result (length c.args.part.now) c.requires.packed c.requires.some c.requires.fits in
    let same = ap (λ b. b.items) c.deref_mut.ensures.value in
    grind (arith, common_steps, c.in-Err.ensures.variant, room, same)

pub returns-clause-octets : goal.returns-clause-octets
returns-clause-octets c =
    boxes_filled c.args.blocks.now c.index-blocks-last.result _ c.args.part.now c.requires.some
    (c.in-Ok.ensures.ok ∙ ap (λ b. b.items ++ c.args.part.now) c.deref_mut.ensures.value)

pub returns-clause-packed : goal.returns-clause-packed
returns-clause-packed c =
    boxes_filled_packed c.args.blocks.now c.index-blocks-last.result _ c.args.part.now c.requires.packed c.requires.some c.requires.fits
    (c.in-Ok.ensures.ok ∙ ap (λ b. b.items ++ c.args.part.now) c.deref_mut.ensures.value)

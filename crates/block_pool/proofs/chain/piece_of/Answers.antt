use Rattle.std.proofs.Common.{◌∙◌, ap, sym, subst, ◌<◌, ◌%◌, length, drop, arith, length-drop}
use Rattle.block_pool.specs.Blocks.{items_of}
use Rattle.block_pool.proofs.Packed.{boxes_piece, boxes_inside}
use Rattle.block_pool.proofs.chain.piece_of.Goals as goal

pub bounds-blocks-place : goal.bounds-blocks-place
bounds-blocks-place c = boxes_inside c.args.blocks.now c.args.place c.requires.packed c.requires.within

pub rest_of-requires : goal.rest_of-requires
rest_of-requires c =
    subst (λ b. c.args.place % 128 < length (items_of b)) (sym c.index-blocks-place.is)
    (boxes_piece c.args.blocks.now c.args.place c.index-blocks-place.result c.requires.packed c.requires.within).some

pub returns-clause-some : goal.returns-clause-some
returns-clause-some c =
    let piece = boxes_piece c.args.blocks.now c.args.place c.index-blocks-place.result c.requires.packed c.requires.within in
    rw (c.rest_of.ensures ∙ ap (λ b. drop (c.args.place % 128) (items_of b)) c.index-blocks-place.is) (grind (arith, length-drop, piece.some))

pub returns-clause-part : goal.returns-clause-part
returns-clause-part c =
    rw (c.rest_of.ensures ∙ ap (λ b. drop (c.args.place % 128) (items_of b)) c.index-blocks-place.is)
    (boxes_piece c.args.blocks.now c.args.place c.index-blocks-place.result c.requires.packed c.requires.within).part

use Rattle.std.proofs.Common.{rules}
use Rattle.capture_view.proofs.Walk.{body_inside}
use Rattle.capture_view.proofs.viewing.body_of.Goals as goal

pub overflow_add-from : goal.overflow_add-from
overflow_add-from c = let low = body_inside c.args.frame.now c.args.part.now c.requires in search rules

pub slice_bounds-result-count : goal.slice_bounds-result-count
slice_bounds-result-count c = let low = body_inside c.args.frame.now c.args.part.now c.requires in search rules

pub slice_bounds-result-start : goal.slice_bounds-result-start
slice_bounds-result-start c = let low = body_inside c.args.frame.now c.args.part.now c.requires in search rules

pub slice_bounds-result-end-2 : goal.slice_bounds-result-end-2
slice_bounds-result-end-2 c = let low = body_inside c.args.frame.now c.args.part.now c.requires in search rules

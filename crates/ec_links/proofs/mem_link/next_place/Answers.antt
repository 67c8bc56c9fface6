use Rattle.std.proofs.Common.{◌∙◌, sym, arith}
use Rattle.ec_links.proofs.Given.{Passes, passed, stays}
use Rattle.ec_links.proofs.mem_link.next_place.Goals as goal

pub returns-then-is_given-clause-left : goal.returns-then-is_given-clause-left
returns-then-is_given-clause-left c =
    sym (stays c.args.wait c.args.items.now c.loop-place.place c.args.from c.index-items-place.result (grind arith) (grind arith) (grind arith)
    (λ some. rw (c.loop-place.invariant.0 some) (c.requires.inside some)))
    ∙ c.loop-place.invariant.1

pub loop-place-preserved : goal.loop-place-preserved
loop-place-preserved c =
    let passes : Passes c.args.wait c.args.items.now c.loop-place.place c.args.from =
    passed c.args.wait c.args.items.now c.loop-place.place c.args.from c.index-items-place.result (grind arith) (grind arith) (grind arith)
    (λ some. rw (c.loop-place.invariant.0 some) (c.requires.inside some)) in
    ((λ some. absurd (grind arith)), passes.left ∙ c.loop-place.invariant.1, passes.given ∙ c.loop-place.invariant.2)

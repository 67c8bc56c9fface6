use Rattle.datagrams.proofs.Changing.{IsPart-inside}
use Rattle.datagrams.proofs.Meeting.{inside, part_with, one_passed, part_passed}
use Rattle.datagrams.proofs.passing.pass.Goals as goal

pub body_place-from-requires : goal.body_place-from-requires
body_place-from-requires g c = IsPart-inside _ _ c.requires

pub meet_within-requires : goal.meet_within-requires
meet_within-requires g c = record { inside = inside _ _ _ c.requires c.body_place-from.ensures }

pub set-requires : goal.set-requires
set-requires g c = part_with _ _ _ _ _ c.requires c.meet_within.ensures.length c.body_place-from.ensures c.meet_within.ensures.met.2

pub returns-clause-passes : goal.returns-clause-passes
returns-clause-passes g c =
    one_passed {S = g.row.P.Denot} g.P.Passage.meets c.args.through.now c.meet_within.new.through c.args.frame.now.items c.meet_within.new.frame.items c.set.new.frame.items
    c.args.part.now c.body_place-from.result c.meet_within.new.head c.body_place-from.ensures c.meet_within.ensures.met c.meet_within.ensures.length c.meet_within.ensures.moved c.set.ensures.reads

pub returns-clause-part : goal.returns-clause-part
returns-clause-part g c =
    part_passed {S = g.row.P.Denot} g.P.Passage.meets c.args.through.now c.meet_within.new.through c.args.frame.now.items c.set.new.frame.items c.args.part.now _
    (one_passed {S = g.row.P.Denot} g.P.Passage.meets c.args.through.now c.meet_within.new.through c.args.frame.now.items c.meet_within.new.frame.items c.set.new.frame.items
    c.args.part.now c.body_place-from.result c.meet_within.new.head c.body_place-from.ensures c.meet_within.ensures.met c.meet_within.ensures.length c.meet_within.ensures.moved c.set.ensures.reads)
    c.requires

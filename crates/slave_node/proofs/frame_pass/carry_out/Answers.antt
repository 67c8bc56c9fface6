use Rattle.al_state.proofs.of_datagrams.Changing.{IsPart-inside}
use Rattle.slave_node.proofs.Parts.{inside, part_with, one_passed, exact_passed}
use Rattle.slave_node.proofs.frame_pass.carry_out.Goals as goal

pub body_place-from-requires : goal.body_place-from-requires
body_place-from-requires c = IsPart-inside c.args.frame.now.items c.args.part.now c.requires

pub pass_within-requires : goal.pass_within-requires
pass_within-requires c = record { inside = rw (c.body_place-from.ensures) (inside c.args.frame.now.items c.args.part.now c.requires) }

pub set-requires : goal.set-requires
set-requires c = part_with c.args.frame.now.items c.pass_within.new.frame.items _ c.args.part.now c.body_place-from.result c.requires c.pass_within.ensures.length c.body_place-from.ensures c.pass_within.ensures.table.2

pub returns-clause-passes : goal.returns-clause-passes
returns-clause-passes c = λ front d behind f place head. one_passed c.args.esc.now c.pass_within.new.esc c.args.frame.now.items c.pass_within.new.frame.items c.set.new.frame.items c.args.part.now c.body_place-from.result c.pass_within.new.head
    front d behind f place head c.body_place-from.ensures c.pass_within.ensures.table c.pass_within.ensures.length
    (λ e. c.set.ensures.reads front e behind)

pub returns-clause-exact : goal.returns-clause-exact
returns-clause-exact c = exact_passed c.args.esc.now c.pass_within.new.esc c.args.frame.now.items c.pass_within.new.frame.items c.set.new.frame.items c.args.part.now c.body_place-from.result c.pass_within.new.head
    c.body_place-from.ensures c.pass_within.ensures.table c.set.ensures.octets

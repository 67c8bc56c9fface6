use Rattle.std.proofs.Common.{refl, arith}
use Rattle.master_node.proofs.Firsts.{first_shown, start_small}
use Rattle.master_node.proofs.Script.{script_few}
use Rattle.master_node.proofs.starting.stop_of.Goals as goal

pub returns-clause-is : goal.returns-clause-is
returns-clause-is c =
    let few = script_few c.args.place c.args.plan.now.services in
    let f = c.requires.plan.laid.few_services in
    first_shown c.args.plan.now c.args.place c.args.spec.now _ c.bring_new-up.result c.in_ok-side.ensures.is refl c.bring_new-up.ensures (start_small c.args.spec.now.boot c.args.spec.now.start c.requires.slave.start) refl refl refl (omega (arith, few, f))

use Rattle.master_node.proofs.Broughts.{brought_by, brought_not}
use Rattle.master_node.proofs.brought.emergency_of.Goals as goal

pub returns-in-None : goal.returns-in-None
returns-in-None c = λ ms b. brought_not c.args.side.now.hand.found c.args.side.now.heard ms c.in-None.is b

pub returns-in-Some : goal.returns-in-Some
returns-in-Some c = λ ms b. brought_by c.args.side.now.hand.found _ c.args.side.now.heard _ ms c.in-Some.is c.emergency.ensures b

use Rattle.master_node.proofs.Broughts.{completed_by, completed_not}
use Rattle.master_node.proofs.brought.packet_of.Goals as goal

pub returns-in-None : goal.returns-in-None
returns-in-None c = λ before ms b. completed_not c.args.side.now.hand.found c.args.side.now.heard before ms c.in-None.is b

pub returns-in-Some : goal.returns-in-Some
returns-in-Some c = λ before ms b. completed_by c.args.side.now.hand.found _ c.args.side.now.heard _ before ms c.in-Some.is c.packet.ensures b

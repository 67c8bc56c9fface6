use Rattle.eoe_switch.proofs.Offering.{IsOffering}
use Rattle.eoe_switch.proofs.switching.offer_all.Given as goal

abbrev pub invariant-loop-at : goal.invariant-loop-at
invariant-loop-at l = IsOffering l.route l.packet l.fn.ports l.ports l.sets.0.bits l.sets.1.bits l.at

use Rattle.eoe_switch.proofs.Offering.{arrival}
use Rattle.eoe_switch.proofs.switching.Switch.arrive.Goals as goal

pub returns-clause-table : goal.returns-clause-table
returns-clause-table c =
    arrival _ _ _ _ _ _ _ _ _ _ c.self.view_is c.learn_source.ensures c.route-route.ensures c.offer_all.ensures.ports
    c.offer_all.ensures.taken c.offer_all.ensures.full

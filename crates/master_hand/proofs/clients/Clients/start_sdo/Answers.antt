use Rattle.std.proofs.Common.{subst}
use Rattle.coe_client.specs.Talk.{service_view}
use Rattle.master_hand.specs.Spoken.{sdo}
use Rattle.master_hand.specs.Talk.{Talking, Starts}
use Rattle.master_hand.specs.declared.clients.Which.{Which}
use Rattle.master_hand.specs.contracts.clients.Clients.{the_view}
use Rattle.master_hand.proofs.Protocols.{sdo_starts}
use Rattle.master_hand.proofs.clients.Clients.start_sdo.Goals as goal

pub returns-clause-starts : goal.returns-clause-starts
returns-clause-starts c =
    subst (λ (t : Talking). Starts t.areas (sdo (service_view c.args.service.now)) Which.Coe (record (the_view c.self.inside) { sdo = c.start.new.self })) c.self.view_is
    (sdo_starts (the_view c.self.inside) c.start.new.self c.args.service.now c.start.ensures.replies c.start.ensures.mails c.self.invariant.2)

use Rattle.std.proofs.Common.{subst}
use Rattle.eoe_client.specs.of_protocol_models.EoeClient as EoeClient
use Rattle.master_hand.specs.Spoken.{net}
use Rattle.master_hand.specs.Talk.{Talking, Starts}
use Rattle.master_hand.specs.declared.clients.Which.{Which}
use Rattle.master_hand.specs.contracts.clients.Clients.{the_view}
use Rattle.master_hand.proofs.Protocols.{get_starts}
use Rattle.master_hand.proofs.clients.Clients.start_addresses.Goals as goal

pub returns-clause-starts : goal.returns-clause-starts
returns-clause-starts c =
    subst (λ (t : Talking). Starts t.areas (net EoeClient.get_ip) Which.Address (record (the_view c.self.inside) { address = c.start_get.new.self })) c.self.view_is
    (get_starts (the_view c.self.inside) c.start_get.new.self c.start_get.ensures.replies c.start_get.ensures.mails)

use Rattle.master_hand.proofs.Protocols.{octets_are}
use Rattle.master_hand.proofs.clients.are_octets_of.Goals as goal

pub returns : goal.returns
returns c = octets_are c.args.bytes.now (λ i. (c.type_inv.bytes i).fits)

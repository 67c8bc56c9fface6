use Rattle.std.proofs.Common.{subst}
use Rattle.master_hand.specs.Passed.{body_of}
use Rattle.master_hand.specs.Talk.{Talking, ClientTook}
use Rattle.master_hand.specs.declared.clients.Which.{Which}
use Rattle.master_hand.specs.contracts.clients.Clients.{the_view}
use Rattle.master_hand.proofs.Protocols.{drive_took}
use Rattle.master_hand.proofs.clients.Clients.take_drive.Goals as goal

pub returns-clause-took : goal.returns-clause-took
returns-clause-took c =
    subst (λ (t : Talking). ClientTook c.take.result Which.Soe t (body_of c.args.mail.now) (record (the_view c.self.inside) { drive = c.take.new.self })) c.self.view_is
    (drive_took c.take.result (the_view c.self.inside) c.take.new.self c.args.mail.now c.take.ensures)

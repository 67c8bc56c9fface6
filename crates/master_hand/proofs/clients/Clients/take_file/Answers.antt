use Rattle.std.proofs.Common.{subst}
use Rattle.master_hand.specs.Passed.{body_of}
use Rattle.master_hand.specs.Talk.{Talking, ClientTook}
use Rattle.master_hand.specs.declared.clients.Which.{Which}
use Rattle.master_hand.specs.contracts.clients.Clients.{the_view}
use Rattle.master_hand.proofs.Protocols.{file_took}
use Rattle.master_hand.proofs.clients.Clients.take_file.Goals as goal

pub returns-clause-took : goal.returns-clause-took
returns-clause-took c =
    subst (λ (t : Talking). ClientTook c.take.result Which.ReadFile t (body_of c.args.mail.now) (record (the_view c.self.inside) { file = c.take.new.self })) c.self.view_is
    (file_took c.take.result (the_view c.self.inside) c.take.new.self c.args.mail.now c.take.ensures)

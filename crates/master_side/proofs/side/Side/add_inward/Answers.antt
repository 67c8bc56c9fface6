use Rattle.std.proofs.Common.{subst, ◌++◌, ◌∷◌, []}
use Rattle.mailbox_master.specs.of_datagrams.Frame.{IsBegun, datagram_of}
use Rattle.mailbox_master.specs.Any.{in_access_of}
use Rattle.master_side.proofs.Grams.{inward_sent}
use Rattle.master_side.proofs.side.Side.add_inward.Goals as goal

pub returns-clause-begun : goal.returns-clause-begun
returns-clause-begun g c = λ ds b. subst (λ h. IsBegun c.add_with.new.frame.items (ds ++ datagram_of h (in_access_of c.args.self.now.inn).octets ∷ [])) c.head-head.ensures (c.add_with.ensures.adds ds b)

pub returns-clause-sent : goal.returns-clause-sent
returns-clause-sent g c = inward_sent c.args.index c.args.self.now.area c.args.self.now.inn c.args.self.now.in_least c.args.self.now.in_most

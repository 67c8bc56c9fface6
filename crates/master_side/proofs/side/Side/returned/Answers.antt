use Rattle.master_side.proofs.side.Side.returned.Goals as goal

pub returns-in-Write : goal.returns-in-Write
returns-in-Write g c = c.write_back.ensures c.args.octets.now c.args.made

pub returns-in-Full : goal.returns-in-Full
returns-in-Full g c = c.errand_back.ensures c.args.made

use Rattle.std.proofs.Common.{◌≤◌, subst, sym, suc}
use Rattle.slave_node.proofs.Counting.{step_counts}
use Rattle.slave_node.proofs.node.SlaveNodeSlave.step.Goals as goal

pub returns-clause-handled : goal.returns-clause-handled
returns-clause-handled g c =
    subst (λ n. g.S.Services.handled n.server ≤ suc (g.S.Services.handled c.args.self.now.server)) (sym c.pdi.ensures)
    (step_counts g.S.Services.handled g.S.Server.taken g.S.Server.next_mail g.S.Server.rest g.S.Clear.cleared g.met.S.Services.counts_one g.met.S.Services.rest_counts g.met.S.Services.clear_counts c.args.self.now)

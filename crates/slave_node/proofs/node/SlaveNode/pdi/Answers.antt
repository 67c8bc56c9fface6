use Rattle.std.proofs.Common.{ap, ◌∙◌}
use Rattle.slave_node.specs.Step.{pdi_step}
use Rattle.slave_node.proofs.node.SlaveNode.pdi.Goals as goal

pub returns : goal.returns
returns g c = c.step.ensures.exact ∙ ap (pdi_step g.S.Server.taken g.S.Server.next_mail g.S.Server.rest g.S.Clear.cleared) c.self.view_is

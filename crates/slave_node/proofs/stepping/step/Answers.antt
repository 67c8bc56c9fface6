use Rattle.std.proofs.lemmas.Bool.{ne_eqb}
use Rattle.slave_node.proofs.Steps.{step_served}
use Rattle.slave_node.proofs.stepping.step.Goals as goal

pub returns-then-al-ne-INIT-clause-exact : goal.returns-then-al-ne-INIT-clause-exact
returns-then-al-ne-INIT-clause-exact g c = step_served g.S.Server.taken g.S.Server.next_mail g.S.Server.rest g.S.Clear.cleared c.args.boot c.args.al.now c.carry_word-asked.new.al c.args.slave_box.now c.look.new.slave_box c.serve.new.self
    c.args.esc.now c.look.new.esc c.carry_word-asked.new.esc c.serve.new.esc c.args.server.now c.serve.new.server
    c.look.ensures.exact c.carry_word-asked.ensures.al c.carry_word-asked.ensures.registers (ne_eqb c.carry_word-asked.new.al.state 1 c.if-al-ne-INIT.true) c.serve.ensures.exact

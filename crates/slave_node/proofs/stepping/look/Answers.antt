use Rattle.std.proofs.Common.{◌∙◌}
use Rattle.slave_node.proofs.Init.{stays_new, looks}
use Rattle.slave_node.proofs.stepping.look.Goals as goal

pub returns-clause-exact : goal.returns-clause-exact
returns-clause-exact c = c.look.ensures.exact ∙ looks c.args.al.now c.args.slave_box.now c.args.esc.now c.requires.init

pub returns-clause-steady : goal.returns-clause-steady
returns-clause-steady c = record {
  fits = c.look.ensures.kept;
  init = stays_new c.args.al.now c.args.slave_box.now c.look.new.self c.args.esc.now c.look.new.esc c.requires.init (c.look.ensures.exact ∙ looks c.args.al.now c.args.slave_box.now c.args.esc.now c.requires.init);
}

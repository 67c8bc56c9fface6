use Rattle.slave_app.proofs.Bridge.{all_exchanged, all_changed}
use Rattle.slave_app.proofs.app.App.perform.Goals as goal

pub returns-clause-exchanged : goal.returns-clause-exchanged
returns-clause-exchanged c = all_exchanged c.carry_out.result c.args.self.now c.carry_out.new.self c.args.service.now c.requires.service c.carry_out.ensures.means

pub returns-clause-stated : goal.returns-clause-stated
returns-clause-stated c = all_changed c.carry_out.result c.args.self.now c.carry_out.new.self c.args.service.now c.carry_out.ensures.means

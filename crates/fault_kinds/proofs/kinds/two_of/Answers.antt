use Rattle.std.proofs.Common.{sym}
use Rattle.scenario_keys.proofs.Items.{two_numbers-few, two_numbers-many}
use Rattle.fault_kinds.proofs.kinds.two_of.Goals as goal

pub returns-in_default : goal.returns-in_default
returns-in_default c = sym (two_numbers-few c.args.items.now c.in_default.len_below)

pub returns-in_default-2 : goal.returns-in_default-2
returns-in_default-2 c = sym (two_numbers-many c.args.items.now c.in_default.len_at_least)

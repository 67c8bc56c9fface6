use Rattle.std.proofs.Common.{[]}
use Rattle.packets_heard.proofs.SwitchPorts.{is_port}
use Rattle.packets_heard.proofs.Waits.{not_falling, host_waits, host_packets, none_waits}
use Rattle.packets_heard.proofs.switch_model.switch_law.Goals as goal

pub returns-clause-numbers : goal.returns-clause-numbers
returns-clause-numbers g c = λ ts. not_falling 0 ts

pub returns-clause-port : goal.returns-clause-port
returns-clause-port g c = λ x w ts may port slave. is_port _ port x w ts may slave

pub returns-clause-host : goal.returns-clause-host
returns-clause-host g c = λ x w ts may. host_waits x w ts may

pub returns-clause-entered : goal.returns-clause-entered
returns-clause-entered g c = λ x w ts may. host_packets x 0 [] w ts may

pub returns-clause-none_waits : goal.returns-clause-none_waits
returns-clause-none_waits g c = λ x is w ts may port. none_waits x is w port ts may

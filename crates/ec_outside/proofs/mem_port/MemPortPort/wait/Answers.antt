use Rattle.std.proofs.Common.{◌≡◌, drop, arith}
use Rattle.ec_outside.specs.Port.{from_gram, heard_first}
use Rattle.ec_outside.specs.declared.port.Heard.TheVariants.{Quiet}
use Rattle.ec_outside.proofs.HeardItems.{never_quiet}
use Rattle.ec_outside.proofs.mem_port.MemPortPort.wait.Goals as goal

pub returns-clause-waits : goal.returns-clause-waits
returns-clause-waits c = λ quiet.
    let answer : heard_first (from_gram (drop c.args.self.now.given c.args.self.now.items)) ≡ Quiet = grind arith in
    never_quiet (drop c.args.self.now.given c.args.self.now.items) answer

use Rattle.std.proofs.Common.{ap, ◌∙◌}
use Rattle.std.specs.Prelude.{List, find}
use Rattle.gateway_run.specs.Account.{is_of}
use Rattle.gateway_run.specs.declared.desk.Request.{Request}
use Rattle.gateway_run.proofs.Accounts.{all_found}
use Rattle.gateway_run.proofs.desk.Desk.first_of.Goals as goal

pub returns-clause-inside : goal.returns-clause-inside
returns-clause-inside c = all_found (is_of c.args.slave) c.args.self.now.requests.items c.copied.result (c.copied.ensures ∙ c.at_slave.ensures ∙ ap (λ (l : List Request). find (is_of c.args.slave) l) c.as_slice.ensures.value)

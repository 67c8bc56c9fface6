use Rattle.std.proofs.Common.{ap, ◌∙◌}
use Rattle.std.specs.Prelude.{List, find}
use Rattle.gateway_run.specs.Account.{has_key}
use Rattle.gateway_run.specs.declared.desk.Request.{Request}
use Rattle.gateway_run.proofs.Accounts.{all_found}
use Rattle.gateway_run.proofs.desk.Desk.request.Goals as goal

pub returns-clause-inside : goal.returns-clause-inside
returns-clause-inside c = all_found (has_key c.args.key) c.args.self.now.requests.items c.copied.result (c.copied.ensures ∙ c.with_key.ensures ∙ ap (λ (l : List Request). find (has_key c.args.key) l) c.as_slice.ensures.value)

use Rattle.std.proofs.Common.{◌≡◌, Ok, false}
use Rattle.toml.specs.View.{view}
use Rattle.scenario_keys.specs.Keys.{text_in}
use Rattle.scenario_values.specs.Octets.{is_fit}
use Rattle.scenario_values.proofs.Fit.{unfit_refused}
use Rattle.scenario_values.proofs.octets.fitting.Goals as goal

pub returns-else-is_fit-clause-refused : goal.returns-else-is_fit-clause-refused
returns-else-is_fit-clause-refused c =
    let text : text_in c.args.place (view c.args.value.now) ≡ Ok c.as_bytes-text.result.now = cc (c.in_ok-text.ensures, c.as_bytes-text.ensures.value) in
    let unfit : is_fit c.args.least c.args.most c.as_bytes-text.result.now ≡ false = cc (c.is_fit.ensures, c.if-is_fit.false) in
    unfit_refused c.args.least c.args.most c.args.place (view c.args.value.now) c.as_bytes-text.result.now c.unfit.result c.unfit.ensures text unfit

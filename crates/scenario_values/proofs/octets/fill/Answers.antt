use Rattle.std.proofs.Common.{length}
use Rattle.toml.specs.View.{view}
use Rattle.scenario_values.proofs.Fit.{given}
use Rattle.scenario_values.proofs.octets.fill.Goals as goal

pub returns : goal.returns
returns c =
    given (length c.args.out.now) (length c.args.out.now) c.args.place (view c.args.value.now) c.in_ok-text.text.now c.decode_into.new.out c.decode_into.result c.unless.result
    c.in_ok-text.ensures.text c.decode_into.ensures c.in_ok-text.ensures.fit c.unless.ensures

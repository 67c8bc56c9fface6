use Rattle.toml.specs.View.{view}
use Rattle.scenario_values.proofs.Fit.{given, given_least}
use Rattle.scenario_values.proofs.octets.fill_buffer.Goals as goal

pub returns-clause-gives : goal.returns-clause-gives
returns-clause-gives g c =
    given c.args.least g.row.CAP c.args.place (view c.args.value.now) c.in_ok-text.text.now c.decode_behind.new.buffer.items c.decode_behind.result c.unless.result
    c.in_ok-text.ensures.text c.decode_behind.ensures c.in_ok-text.ensures.fit c.unless.ensures

pub returns-clause-within : goal.returns-clause-within
returns-clause-within g c =
    given_least c.args.least g.row.CAP c.args.place c.in_ok-text.text.now c.decode_behind.new.buffer.items c.decode_behind.result c.unless.result
    c.decode_behind.ensures c.in_ok-text.ensures.fit c.unless.ensures

use Rattle.std.proofs.Common.{slice_index_or, ap, ◌∙◌}
use Rattle.scenario_values.proofs.Pairs.{value_in, values}
use Rattle.scenario_values.proofs.digits.digit.Goals as goal

pub returns : goal.returns
returns c = ap (λ k. slice_index_or values k 0) c.from.ensures ∙ value_in c.args.character c.ranges.character.fits

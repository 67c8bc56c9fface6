use Rattle.std.proofs.Common.{sym, ◌∙◌}
use Rattle.std.specs.Str.{bytes_eq}
use Rattle.scenario_keys.proofs.Items.{list_any_map}
use Rattle.scenario_keys.proofs.keys.is_known_key.Goals as goal

pub returns : goal.returns
returns c = c.contains.ensures.value ∙ sym (list_any_map (λ k. bytes_eq k c.args.key.now) (λ k. k.now) c.args.known.now)

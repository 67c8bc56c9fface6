use Rattle.std.proofs.Common.{sym, ◌∙◌}
use Rattle.std.specs.Str.{bytes_eq}
use Rattle.fault_sites.proofs.Lists.{list_any_map}
use Rattle.fault_sites.proofs.rows.is_one_of.Goals as goal

pub returns : goal.returns
returns c = c.contains.ensures.value ∙ sym (list_any_map (λ k. bytes_eq k c.args.key.now) (λ k. k.now) c.args.keys.now)

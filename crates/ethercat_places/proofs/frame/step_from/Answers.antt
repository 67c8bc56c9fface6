use Rattle.std.proofs.Common.{List, ℕ, ap, drop, ◌∙◌}
use Rattle.std.proofs.lemmas.List.{drop_min}
use Rattle.ethercat_places.specs.Frame.{step_of}
use Rattle.ethercat_places.proofs.frame.step_from.Goals as goal

pub returns : goal.returns
returns c = c.step_behind.ensures ∙ ap (λ (x : List ℕ). step_of c.args.left x) (ap (λ (n : ℕ). drop n c.args.octets.now) c.min.ensures ∙ drop_min c.args.at c.args.octets.now)

use Rattle.std.proofs.Common.{sym, ap, ◌∙◌}
use Rattle.std.specs.List.{list_any}
use Rattle.toml.specs.Data.{as_str, Items}
use Rattle.scenario_keys.specs.Keys.{list_of}
use Rattle.fault_sites.specs.Values.{is_text, is_served}
use Rattle.fault_sites.proofs.Lists.{words}
use Rattle.fault_sites.proofs.missing.is_served.Goals as goal

pub returns : goal.returns
unfolding is_served
returns c =
    c.has_word.ensures ∙ sym (words c.args.protocol.now c.items_at.result.now)
    ∙ ap (λ (ds : Items). list_any (λ d. is_text (as_str d) c.args.protocol.now) (list_of ds)) c.items_at.ensures

use Rattle.std.proofs.Common.{◌≡◌, [], ◌++◌, drop, map, string_bytes}
use denote.Shadow.{shadow}
use denote.Text.{Utf8}
use Rattle.toml.specs.View.{view}
use Rattle.fault_texts.specs.Values.{listed}
use Rattle.fault_texts.proofs.values.add_listed.Given as goal

abbrev pub invariant-loop-value : goal.invariant-loop-value
invariant-loop-value l =
    shadow (Utf8 l.between) ×
    (string_bytes l.text ++ listed l.between (map view (drop l.value-index l.values)) ≡ string_bytes l.fn.text ++ listed [] (map view l.values))

use Rattle.std.proofs.Common.{◌≡◌, ◌++◌, drop}
use Rattle.std.specs.List.{flat_map}
use Rattle.value_texts.specs.Texts.{character}
use Rattle.value_texts.proofs.texts.add_characters.Given as goal

abbrev pub invariant-loop-octet : goal.invariant-loop-octet
invariant-loop-octet l = l.line ++ flat_map character (drop l.octet-index l.octets) ≡ l.fn.line ++ flat_map character l.octets

use Rattle.std.proofs.Common.{◌≡◌, ◌++◌, drop, string_bytes}
use Rattle.std.specs.List.{flat_map}
use Rattle.fault_texts.specs.Characters.{shown}
use Rattle.fault_texts.proofs.characters.add_characters.Given as goal

abbrev pub invariant-loop-character : goal.invariant-loop-character
invariant-loop-character l = string_bytes l.text ++ flat_map shown (drop l.character-index l.characters) ≡ string_bytes l.fn.text ++ flat_map shown l.characters

use Rattle.std.proofs.Common.{arith, string_bytes}
use Rattle.fault_texts.specs.Characters.{shown}
use Rattle.fault_texts.proofs.Lists.{all_told}
use Rattle.fault_texts.proofs.characters.add_characters.Goals as goal

pub returns : goal.returns
returns c = all_told shown c.args.characters.now c.loop-character.character-index (string_bytes c.args.text.now) (string_bytes c.loop-character.text) (omega arith) c.loop-character.invariant

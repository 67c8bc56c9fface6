use Rattle.std.proofs.Common.{◌≡◌, ◌++◌}
use Rattle.service_texts.specs.Emergencies.{bits_below}
use Rattle.service_texts.proofs.emergencies.add_bits.Given as goal

abbrev pub invariant-loop-bit : goal.invariant-loop-bit
invariant-loop-bit l = l.line ≡ l.fn.line ++ bits_below l.register l.bit

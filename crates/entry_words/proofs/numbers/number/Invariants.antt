use Rattle.std.proofs.Common.{◌≡◌, drop, fold, Some}
use Rattle.entry_words.specs.Numbers.{with_digit}
use Rattle.entry_words.proofs.numbers.number.Given as goal

abbrev pub invariant-loop-octet : goal.invariant-loop-octet
invariant-loop-octet l = fold (with_digit l.radix) l.number (drop l.octet-index l.digits) ≡ fold (with_digit l.radix) (Some 0) l.digits

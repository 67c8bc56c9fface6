use Rattle.std.proofs.Common.{◌≡◌, ◌+◌, drop, nat_lt}
use Rattle.std.specs.List.{position_or_len}
use Rattle.std.specs.Map.{keys_of}
use Rattle.object_dictionary.proofs.objects.place_above.Given as goal

abbrev pub invariant-loop-at : goal.invariant-loop-at
invariant-loop-at l = position_or_len (nat_lt l.index) (keys_of l.table.entries) ≡ l.at + position_or_len (nat_lt l.index) (keys_of (drop l.at l.table.entries))

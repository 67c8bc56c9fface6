use Rattle.std.proofs.Common.{◌≡◌, ◌+◌, drop}
use Rattle.std.specs.List.{position_or_len}
use Rattle.std.specs.Map.{keys_of}
use Rattle.idn_table.specs.Idns.{is_below}
use Rattle.idn_table.proofs.table.place_above.Given as goal

abbrev pub invariant-loop-at : goal.invariant-loop-at
invariant-loop-at l = position_or_len (is_below l.key) (keys_of l.idns.entries) ≡ l.at + position_or_len (is_below l.key) (keys_of (drop l.at l.idns.entries))

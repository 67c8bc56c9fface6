use Rattle.std.proofs.Common.{◌≡◌, ◌+◌, ◌*◌, ◌≤◌, ◌++◌, length, drop}
use Rattle.object_dictionary.specs.Information.{list_octets}
use Rattle.object_dictionary.proofs.objects.Objects.put_list.Given as goal

abbrev pub invariant-loop-at : goal.invariant-loop-at
invariant-loop-at l =
    (l.into.octets ++ list_octets l.kind (drop l.at l.self-inside.table.entries) ≡ l.initial.into.octets ++ list_octets l.kind l.self-inside.table.entries)
    × (length l.into.octets ≤ length l.initial.into.octets + 2 * l.at) × (l.into.limit ≡ l.initial.into.limit)

-- The octets of a list, row by row.
use Rattle.std.proofs.Common.{◌≡◌, ℕ, ◌+◌, ◌*◌, ◌≤◌, arith, append_assoc, length-append, true, false, List, ◌++◌, length, drop, Some, slice_get, refl, sym, ap, ◌∙◌}
use Rattle.byteorder.specs.Endian.{little_bytes}
use Rattle.object_dictionary.specs.declared.object.Object.{Object}
use Rattle.object_dictionary.specs.Dictionary.{Table}
use Rattle.object_dictionary.specs.Information.{is_in_list, list_octets}
use Rattle.object_dictionary.proofs.Tests.{drop_at}

pub listed : (kind at index : ℕ) (o : Object) (table : Table) → slice_get table at ≡ Some (index, o) → is_in_list kind o ≡ true →
    list_octets kind (drop at table) ≡ little_bytes 2 index ++ list_octets kind (drop (at + 1) table)
listed kind at index o table got in_list = rw (drop_at table at (index, o) got, in_list) refl

pub skipped : (kind at index : ℕ) (o : Object) (table : Table) → slice_get table at ≡ Some (index, o) → is_in_list kind o ≡ false → list_octets kind (drop at table) ≡ list_octets kind (drop (at + 1) table)
skipped kind at index o table got out = rw (drop_at table at (index, o) got, out) refl

-- octets that are put stand behind those before, and ahead of those that follow
pub joined : (old new one rest tail all : List ℕ) → new ≡ old ++ one → rest ≡ one ++ tail → old ++ rest ≡ all → new ++ tail ≡ all
joined old new one rest tail all put next before = ap (λ l. l ++ tail) put ∙ append_assoc old one tail ∙ ap (λ l. old ++ l) (sym next) ∙ before

pub longer : (old new one : List ℕ) (at most : ℕ) → new ≡ old ++ one → length one ≡ 2 → length old ≤ most + 2 * at → length new ≤ most + 2 * (at + 1)
longer old new one at most put two before = omega (arith, ap length put, length-append old one)

use Rattle.std.proofs.Common.{sym, length, ap, arith}
use Rattle.object_dictionary.proofs.Kept.{found_is, few_entries, named_of}
use Rattle.object_dictionary.proofs.objects.Objects.object_info.Goals as goal

pub describe-requires-clause-entries : goal.describe-requires-clause-entries
describe-requires-clause-entries c = few_entries c.in-Some.object.now (found_is c.self.inside.table.entries c.args.index c.in-Some.object.now c.self.invariant (sym c.in-Some.ensures.value))

pub describe-requires-clause-room : goal.describe-requires-clause-room
describe-requires-clause-room c =
    let named = named_of c.in-Some.object.now (found_is c.self.inside.table.entries c.args.index c.in-Some.object.now c.self.invariant (sym c.in-Some.ensures.value)) in
    omega (arith, named, ap length c.clear.ensures.octets)

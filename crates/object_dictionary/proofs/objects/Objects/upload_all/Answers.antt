use Rattle.std.proofs.Common.{sym}
use Rattle.object_dictionary.proofs.Kept.{found_is, small_of, few_entries}
use Rattle.object_dictionary.proofs.objects.Objects.upload_all.Goals as goal

pub upload_all-requires-clause-few : goal.upload_all-requires-clause-few
upload_all-requires-clause-few c = small_of c.in-Some.object.now (found_is c.self.inside.table.entries c.args.index c.in-Some.object.now c.self.invariant (sym c.in-Some.ensures.value))

pub upload_all-requires-clause-count : goal.upload_all-requires-clause-count
upload_all-requires-clause-count c = few_entries c.in-Some.object.now (found_is c.self.inside.table.entries c.args.index c.in-Some.object.now c.self.invariant (sym c.in-Some.ensures.value))

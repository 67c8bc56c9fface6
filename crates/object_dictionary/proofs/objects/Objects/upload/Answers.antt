use Rattle.std.proofs.Common.{sym}
use Rattle.object_dictionary.proofs.Kept.{found_is, few_entries}
use Rattle.object_dictionary.proofs.objects.Objects.upload.Goals as goal

pub upload-requires-clause-count : goal.upload-requires-clause-count
upload-requires-clause-count c = few_entries c.in-Some.object.now (found_is c.self.inside.table.entries c.args.index c.in-Some.object.now c.self.invariant (sym c.in-Some.ensures.value))

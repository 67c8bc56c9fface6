use Rattle.std.proofs.Common.{sym}
use Rattle.object_dictionary.proofs.Kept.{found_is, small_of}
use Rattle.object_dictionary.proofs.objects.Objects.check_download_all.Goals as goal

pub check_all-requires : goal.check_all-requires
check_all-requires c = small_of c.in-Some.object.now (found_is c.self.inside.table.entries c.args.index c.in-Some.object.now c.self.invariant (sym c.in-Some.ensures.value))

use Rattle.std.proofs.Common.{sym, subst}
use Rattle.object_dictionary.specs.Entries.{Stores}
use Rattle.object_dictionary.specs.Dictionary.{Table}
use Rattle.object_dictionary.specs.Whole.{download_all, download_whole}
use Rattle.object_dictionary.specs.declared.object.Object.{Object}
use Rattle.object_dictionary.proofs.Kept.{found_is, small_of, table_stored}
use Rattle.object_dictionary.proofs.objects.download_all_in.Goals as goal

pub download_all-requires : goal.download_all-requires
download_all-requires c = small_of c.in-Some.object.now (found_is c.args.table.now.entries c.args.index c.in-Some.object.now c.requires (sym c.in-Some.ensures.value))

pub returns-in-Some : goal.returns-in-Some
returns-in-Some c =
    let written = (c.get_mut.follows.holds c.download_all.new.self).0 in
    subst (λ (t : Table). Stores (download_all c.args.al c.args.table.now.entries c.args.index c.args.from c.args.bytes.now) c.download_all.result c.args.table.now.entries t) (sym written)
    (table_stored c.args.table.now.entries c.args.index (λ (o : Object). download_whole c.args.al o c.args.from c.args.bytes.now) c.in-Some.object.now c.download_all.new.self c.download_all.result
    (sym c.in-Some.ensures.value) c.download_all.ensures)

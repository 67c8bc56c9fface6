use Rattle.std.proofs.Common.{sym, subst}
use Rattle.object_dictionary.specs.Entries.{Stores}
use Rattle.object_dictionary.specs.Dictionary.{Table, download, download_object}
use Rattle.object_dictionary.specs.declared.object.Object.{Object}
use Rattle.object_dictionary.proofs.Kept.{table_stored}
use Rattle.object_dictionary.proofs.objects.download_in.Goals as goal

pub returns-in-Some : goal.returns-in-Some
returns-in-Some c =
    let written = (c.get_mut.follows.holds c.download.new.self).0 in
    subst (λ (t : Table). Stores (download c.args.al c.args.table.now.entries c.args.index c.args.sub c.args.bytes.now) c.download.result c.args.table.now.entries t) (sym written)
    (table_stored c.args.table.now.entries c.args.index (λ (o : Object). download_object c.args.al o c.args.sub c.args.bytes.now) c.in-Some.object.now c.download.new.self c.download.result
    (sym c.in-Some.ensures.value) c.download.ensures)

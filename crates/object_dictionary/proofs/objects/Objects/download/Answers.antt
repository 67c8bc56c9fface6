use Rattle.object_dictionary.specs.Dictionary.{download}
use Rattle.object_dictionary.proofs.Kept.{stores_kept, download_kept}
use Rattle.object_dictionary.proofs.objects.Objects.download.Goals as goal

pub invariant_of-self : goal.invariant_of-self
invariant_of-self c =
    stores_kept (download c.args.al c.self.inside.table.entries c.args.index c.args.sub c.args.bytes.now) c.download_in.result c.self.inside.table.entries c.download_in.new.table.entries
    (λ t made. download_kept c.args.al c.self.inside.table.entries t c.args.index c.args.sub c.args.bytes.now c.self.invariant made) c.self.invariant c.download_in.ensures

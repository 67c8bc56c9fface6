use Rattle.object_dictionary.specs.Whole.{download_all}
use Rattle.object_dictionary.proofs.Kept.{stores_kept}
use Rattle.object_dictionary.proofs.WholeKept.{download_all_kept}
use Rattle.object_dictionary.proofs.objects.Objects.download_all.Goals as goal

pub invariant_of-self : goal.invariant_of-self
invariant_of-self c =
    stores_kept (download_all c.args.al c.self.inside.table.entries c.args.index c.args.from c.args.bytes.now) c.download_all_in.result c.self.inside.table.entries c.download_all_in.new.table.entries
    (λ t made. download_all_kept c.args.al c.self.inside.table.entries t c.args.index c.args.from c.args.bytes.now c.self.invariant made) c.self.invariant c.download_all_in.ensures

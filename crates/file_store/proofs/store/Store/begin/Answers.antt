use Rattle.std.proofs.Common.{◌≡◌, sym, ap, subst, ◌∙◌}
use Rattle.std.specs.Prelude.{find, is_some, None}
use Rattle.file_store.specs.Files.{file_of}
use Rattle.file_store.specs.Stored.{Stored}
use Rattle.file_store.specs.Store.{has_name}
use Rattle.file_store.proofs.Views.{none_shown}
use Rattle.file_store.proofs.store.Store.begin.Goals as goal

pub unreachable-requires : goal.unreachable-requires
unreachable-requires c =
    let none = subst (λ fs. find (has_name c.args.name.now) fs ≡ None) c.as_slice.ensures.value c.in-None.ensures.none in
    let gone = none_shown c.self.inside.pool c.self.inside.files.items c.self.inside.part c.args.name.now c.drop_part.new.self c.self.view_is none in
    let same = ap (λ (v : Stored). file_of v.kept c.args.name.now) c.drop_part.ensures in
    let lost = ap is_some (sym same ∙ gone) in
    absurd (cc)

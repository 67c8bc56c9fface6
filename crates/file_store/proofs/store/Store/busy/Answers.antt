use Rattle.std.proofs.Common.{◌≡◌, sym, ap, subst}
use Rattle.std.specs.Prelude.{find, is_some, option_map, unwrap_or, Option, None}
use Rattle.file_store.specs.Files.{Filed}
use Rattle.file_store.specs.Store.{IsPlaceOf, has_name}
use Rattle.file_store.proofs.Views.{none_shown, found_shown}
use Rattle.file_store.proofs.store.Store.busy.Goals as goal

pub unreachable-requires : goal.unreachable-requires
unreachable-requires c =
    let none = subst (λ fs. find (has_name c.args.name.now) fs ≡ None) c.as_slice.ensures.value c.in-None.ensures.none in
    let gone = ap is_some (none_shown c.self.inside.pool c.self.inside.files.items c.self.inside.part c.args.name.now c.args.self.now c.self.view_is none) in
    absurd (cc)

pub returns : goal.returns
returns c =
    let at = subst (λ fs. IsPlaceOf c.args.name.now fs c.in-Some.place) c.as_slice.ensures.value c.in-Some.ensures.found in
    ap (λ (o : Option Filed). unwrap_or (option_map (λ file. file.spec.busy) o) 0)
    (sym (found_shown c.self.inside.pool c.self.inside.files.items c.self.inside.part c.args.name.now c.in-Some.place c.index-file.result.now c.args.self.now c.self.view_is at c.index-file.ensures))

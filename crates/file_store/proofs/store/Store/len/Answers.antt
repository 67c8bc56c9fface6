use Rattle.std.proofs.Common.{◌≡◌, ◌≤◌, length, sym, ap, subst, ◌∙◌}
use Rattle.std.specs.Prelude.{find, option_map, unwrap_or, Option, None, []}
use Rattle.file_store.specs.Files.{Filed}
use Rattle.file_store.specs.Store.{IsPlaceOf, has_name}
use Rattle.file_store.proofs.Views.{none_shown, found_shown, short_file}
use Rattle.file_store.proofs.store.Store.len.Goals as goal

pub returns-in-None-clause-len : goal.returns-in-None-clause-len
returns-in-None-clause-len c =
    let none = subst (λ fs. find (has_name c.args.name.now) fs ≡ None) c.as_slice.ensures.value c.in-None.ensures.none in
    ap (λ (o : Option Filed). length (unwrap_or (option_map (λ file. file.octets) o) []))
    (sym (none_shown c.self.inside.pool c.self.inside.files.items c.self.inside.part c.args.name.now c.args.self.now c.self.view_is none))

pub returns-in-Some-clause-len : goal.returns-in-Some-clause-len
returns-in-Some-clause-len c =
    let at = subst (λ fs. IsPlaceOf c.args.name.now fs c.in-Some.place) c.as_slice.ensures.value c.in-Some.ensures.found in
    c.len.ensures
    ∙ ap (λ (o : Option Filed). length (unwrap_or (option_map (λ file. file.octets) o) []))
    (sym (found_shown c.self.inside.pool c.self.inside.files.items c.self.inside.part c.args.name.now c.in-Some.place c.index-file.result.now c.args.self.now c.self.view_is at c.index-file.ensures))

pub returns-in-Some-clause-short : goal.returns-in-Some-clause-short
returns-in-Some-clause-short c =
    let at = subst (λ fs. IsPlaceOf c.args.name.now fs c.in-Some.place) c.as_slice.ensures.value c.in-Some.ensures.found in
    subst (λ n. n ≤ 131072) (sym c.len.ensures)
    (short_file c.self.inside.pool c.self.inside.files.items c.self.inside.part c.in-Some.place c.index-file.result.now c.self.invariant at.within c.index-file.ensures)

use Rattle.std.proofs.Common.{◌≡◌, ◌-◌, ◌++◌, length, take, drop, min, sym, ap, subst, ◌∙◌, arith}
use Rattle.std.specs.Prelude.{find, option_map, unwrap_or, Option, None, []}
use Rattle.file_store.specs.Files.{Filed, get}
use Rattle.file_store.specs.Store.{IsPlaceOf, has_name}
use Rattle.file_store.proofs.Views.{none_shown, found_shown}
use Rattle.file_store.proofs.store.Store.read_at.Goals as goal

pub returns-in-None-clause-count : goal.returns-in-None-clause-count
returns-in-None-clause-count c =
    let none = subst (λ fs. find (has_name c.args.name.now) fs ≡ None) c.as_slice.ensures.value c.in-None.ensures.none in
    let nothing : get c.args.self.now.kept c.args.name.now ≡ [] =
    ap (λ (o : Option Filed). unwrap_or (option_map (λ file. file.octets) o) [])
    (none_shown c.self.inside.pool c.self.inside.files.items c.self.inside.part c.args.name.now c.args.self.now c.self.view_is none) in
    omega (arith, ap length nothing)

pub returns-in-Some-clause-count : goal.returns-in-Some-clause-count
returns-in-Some-clause-count c =
    let at = subst (λ fs. IsPlaceOf c.args.name.now fs c.in-Some.place) c.as_slice.ensures.value c.in-Some.ensures.found in
    c.read_at.ensures.count
    ∙ ap (λ (o : Option Filed). min (length (unwrap_or (option_map (λ file. file.octets) o) []) - c.args.at) (length c.args.into.now))
    (sym (found_shown c.self.inside.pool c.self.inside.files.items c.self.inside.part c.args.name.now c.in-Some.place c.index-file.result.now c.args.self.now c.self.view_is at c.index-file.ensures))

pub returns-in-Some-clause-copied : goal.returns-in-Some-clause-copied
returns-in-Some-clause-copied c =
    let at = subst (λ fs. IsPlaceOf c.args.name.now fs c.in-Some.place) c.as_slice.ensures.value c.in-Some.ensures.found in
    c.read_at.ensures.copied
    ∙ ap (λ (o : Option Filed). take c.read_at.result (drop c.args.at (unwrap_or (option_map (λ file. file.octets) o) [])) ++ drop c.read_at.result c.args.into.now)
    (sym (found_shown c.self.inside.pool c.self.inside.files.items c.self.inside.part c.args.name.now c.in-Some.place c.index-file.result.now c.args.self.now c.self.view_is at c.index-file.ensures))

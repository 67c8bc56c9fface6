use Rattle.std.proofs.Common.{◌≡◌, ◌++◌, ℕ, List, [], ◌∷◌, length, take, drop, sym, refl, ap, subst, ◌∙◌, arith, append-nil, length-drop}
use Rattle.std.proofs.lemmas.List.{length-take}
use Rattle.std.specs.Prelude.{find, option_map, unwrap_or, Option, None}
use Rattle.file_store.specs.Files.{Filed, get}
use Rattle.file_store.specs.Store.{IsPlaceOf, has_name}
use Rattle.file_store.proofs.Views.{none_shown, found_shown}
use Rattle.file_store.proofs.store.Store.append_to.Goals as goal

no_length : (l : List ℕ) → length l ≡ 0 → l ≡ []
no_length [] e = refl
no_length (x ∷ l) e = absurd (omega (arith, e))

-- of nothing no part is appended
nothing_more : (into octets : List ℕ) (at most : ℕ) → octets ≡ [] → into ≡ into ++ take most (drop at octets)
nothing_more into octets at most none =
    let few : length (take most (drop at octets)) ≡ 0 = omega (arith, length-take most (drop at octets), length-drop at octets, ap length none) in
    sym (ap (λ l. into ++ l) (no_length (take most (drop at octets)) few) ∙ append-nil into)

pub returns-in_default : goal.returns-in_default
returns-in_default g c =
    let none = subst (λ fs. find (has_name c.args.name.now) fs ≡ None) c.as_slice.ensures.value c.in_default.ensures.none in
    let nothing : get c.args.self.now.kept c.args.name.now ≡ [] =
    ap (λ (o : Option Filed). unwrap_or (option_map (λ file. file.octets) o) [])
    (none_shown c.self.inside.pool c.self.inside.files.items c.self.inside.part c.args.name.now c.args.self.now c.self.view_is none) in
    nothing_more c.args.into.now.items (get c.args.self.now.kept c.args.name.now) c.args.at c.args.most nothing

pub returns-in-Some : goal.returns-in-Some
returns-in-Some g c =
    let at = subst (λ fs. IsPlaceOf c.args.name.now fs c.in-Some.place) c.as_slice.ensures.value c.in-Some.ensures.found in
    c.append_to.ensures
    ∙ ap (λ (o : Option Filed). c.args.into.now.items ++ take c.args.most (drop c.args.at (unwrap_or (option_map (λ file. file.octets) o) [])))
    (sym (found_shown c.self.inside.pool c.self.inside.files.items c.self.inside.part c.args.name.now c.in-Some.place c.index-file.result.now c.args.self.now c.self.view_is at c.index-file.ensures))

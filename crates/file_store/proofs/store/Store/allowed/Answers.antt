use Rattle.std.proofs.Common.{◌≡◌, sym, ap, subst, ◌∙◌}
use Rattle.std.specs.Prelude.{find, is_some, IfNone, Option, Some, None}
use Rattle.file_store.specs.Files.{code_at}
use Rattle.file_store.specs.Store.{IsPlaceOf, has_name}
use Rattle.file_store.proofs.Views.{valid_shown, none_shown, found_shown}
use Rattle.file_store.proofs.store.Store.allowed.Goals as goal

pub returns-in-None-clause-valid : goal.returns-in-None-clause-valid
returns-in-None-clause-valid c = valid_shown c.self.inside.pool c.self.inside.files.items c.self.inside.part c.args.self.now c.self.view_is c.self.invariant

pub returns-in-Some-clause-valid : goal.returns-in-Some-clause-valid
returns-in-Some-clause-valid c = valid_shown c.self.inside.pool c.self.inside.files.items c.self.inside.part c.args.self.now c.self.view_is c.self.invariant

pub returns-in-None-clause-code : goal.returns-in-None-clause-code
returns-in-None-clause-code c =
    let none = subst (λ fs. find (has_name c.args.name.now) fs ≡ None) c.as_slice.ensures.value c.in-None.ensures.none in
    ap (λ o. code_at o c.args.pass c.args.write c.args.al)
    (sym (none_shown c.self.inside.pool c.self.inside.files.items c.self.inside.part c.args.name.now c.args.self.now c.self.view_is none))

pub returns-in-Some-clause-code : goal.returns-in-Some-clause-code
returns-in-Some-clause-code c =
    let at = subst (λ fs. IsPlaceOf c.args.name.now fs c.in-Some.place) c.as_slice.ensures.value c.in-Some.ensures.found in
    c.refused_by.ensures
    ∙ ap (λ o. code_at o c.args.pass c.args.write c.args.al)
    (sym (found_shown c.self.inside.pool c.self.inside.files.items c.self.inside.part c.args.name.now c.in-Some.place c.index-file.result.now c.args.self.now c.self.view_is at c.index-file.ensures))

if_none : {X : Type 0} {P : Type 0} (r : Option X) → P → IfNone r P
if_none None p = p
if_none (Some x) p = tt

pub returns-in-Some-clause-there : goal.returns-in-Some-clause-there
returns-in-Some-clause-there c =
    let at = subst (λ fs. IsPlaceOf c.args.name.now fs c.in-Some.place) c.as_slice.ensures.value c.in-Some.ensures.found in
    if_none c.refused_by.result
    (ap is_some (found_shown c.self.inside.pool c.self.inside.files.items c.self.inside.part c.args.name.now c.in-Some.place c.index-file.result.now c.args.self.now c.self.view_is at c.index-file.ensures))

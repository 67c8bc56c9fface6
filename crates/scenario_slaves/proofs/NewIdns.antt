-- IDNs whose drives and numbers come once.
use Rattle.std.proofs.Common.{◌≡◌, List, [], ◌∷◌, ◌++◌, true, refl, append_assoc}
use Rattle.std.proofs.lemmas.Bool.{and_parts}
use Rattle.std.proofs.lemmas.List.{append-nil}
use Rattle.scenario_values.specs.of_idn_table.declared.spec.IdnSpec.{IdnSpec}
use Rattle.scenario_values.specs.of_segment_plan.Sound.{is_new_idn, are_new_idns}

-- one more IDN, whose drive and number none before it has
pub are_new_idns-push : (before idns : List IdnSpec) (idn : IdnSpec) → are_new_idns before idns ≡ true
    → is_new_idn (before ++ idns) idn.drive idn.number ≡ true → are_new_idns before (idns ++ idn ∷ []) ≡ true
are_new_idns-push before [] idn h new =
    let first : is_new_idn before idn.drive idn.number ≡ true = rw append-nil at new in
    rw first refl
are_new_idns-push before (i ∷ idns) idn h new =
    let p = and_parts (is_new_idn before i.drive i.number) (are_new_idns (before ++ i ∷ []) idns) h in
    let behind : is_new_idn ((before ++ i ∷ []) ++ idns) idn.drive idn.number ≡ true = rw append_assoc new in
    rw (p.0, are_new_idns-push (before ++ i ∷ []) idns idn p.1 behind) refl

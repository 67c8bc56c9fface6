-- Lists of values whose items are of one kind.
use Rattle.std.proofs.Common.{◌≡◌, ◌&&◌, Bool, List, [], ◌∷◌, is_some, refl, ap}
use Rattle.std.specs.List.{list_all}
use Rattle.toml.specs.Data.{Data, as_str, as_table}
use Rattle.toml.specs.View.{items_view, view}
use Rattle.toml.specs.declared.value.Value.{Value}
use Rattle.scenario_keys.specs.Keys.{as_pair, list_of}

each : (p : Data → Bool) (vs : List Value) → list_all p (list_of (items_view vs)) ≡ list_all (λ v. p (view v)) vs
each p [] = refl
each p (v ∷ vs) = ap (λ b. p (view v) && b) (each p vs)

pub texts : (vs : List Value) → list_all (λ d. is_some (as_str d)) (list_of (items_view vs)) ≡ list_all (λ v. is_some (as_str (view v))) vs
texts vs = each (λ d. is_some (as_str d)) vs

pub pairs : (vs : List Value) → list_all (λ d. is_some (as_pair d)) (list_of (items_view vs)) ≡ list_all (λ v. is_some (as_pair (view v))) vs
pairs vs = each (λ d. is_some (as_pair d)) vs

pub tables : (vs : List Value) → list_all (λ d. is_some (as_table d)) (list_of (items_view vs)) ≡ list_all (λ v. is_some (as_table (view v))) vs
tables vs = each (λ d. is_some (as_table d)) vs

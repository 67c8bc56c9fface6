-- Which kind of value a key wants.
use Rattle.std.specs.Prelude.{ℕ, Bool, false, List, Option, Some, None, is_some, option_and_then}
use Rattle.std.specs.List.{list_all}
use Rattle.toml.specs.Data.{Data, Items, as_integer, as_str, as_bool, as_array, as_table}
use Rattle.scenario_keys.specs.Keys.{as_pair, list_of}
use Rattle.fault_texts.specs.declared.shape.Shape.{Shape}
use Rattle.fault_texts.specs.declared.shape.Shape.TheVariants as shapes

-- a list of such items
abbrev pub is_list_of : (Data → Bool) → Option Items → Bool
is_list_of p None = false
is_list_of p (Some items) = list_all p (list_of items)

-- a value of the kind that is wanted
abbrev pub is_of : Shape → Data → Bool
is_of (shapes.Number low high) d = is_some (as_integer d)
is_of shapes.Bound d = is_some (as_integer d)
is_of shapes.Name d = is_some (as_str d)
is_of shapes.Label d = is_some (as_str d)
is_of (shapes.Word words) d = is_some (as_str d)
is_of shapes.Reference d = is_some (as_str d)
is_of shapes.Truth d = is_some (as_bool d)
is_of (shapes.Pair low high) d = is_some (as_pair d)
is_of (shapes.Sizes most) d = is_some (as_pair d)
is_of (shapes.Octets least most) d = is_some (as_str d)
is_of (shapes.Words words) d = is_list_of (λ item. is_some (as_str item)) (as_array d)
is_of shapes.Losses d = is_list_of (λ item. is_some (as_pair item)) (as_array d)
is_of (shapes.Tables most) d = is_list_of (λ item. is_some (as_table item)) (as_array d)

-- The values of a table's keys.
use Rattle.std.specs.Prelude.{ℕ, ℤ, pos, ◌||◌, Bool, false, List, codes, Option, Some, None, option_and_then}
use Rattle.std.specs.Ordering.{int_eq}
use Rattle.std.specs.List.{list_any}
use Rattle.std.specs.Str.{bytes_eq}
use Rattle.toml.specs.Data.{Data, string, array, Items, no_items, Members, get_member, as_str, as_integer}
use Rattle.scenario_keys.specs.Keys.{list_of}

-- the text of a key
abbrev pub text_at : List ℕ → Members → Option (List ℕ)
text_at key ms = option_and_then as_str (get_member key ms)

-- the whole number of a key
abbrev pub number_at : List ℕ → Members → Option ℤ
number_at key ms = option_and_then as_integer (get_member key ms)

-- the items of a list; none of another value
abbrev pub items_of : Data → Items
items_of (array ds) = ds
items_of _ = no_items

-- the items of a list that may be there
abbrev pub items_in : Option Data → Items
items_in None = no_items
items_in (Some d) = items_of d

-- the items of a key's list
abbrev pub items_at : List ℕ → Members → Items
items_at key ms = items_in (get_member key ms)

-- a text that may be there is this one
abbrev pub is_text : Option (List ℕ) → List ℕ → Bool
is_text None word = false
is_text (Some text) word = bytes_eq text word

-- a number that may be there is this one
abbrev pub is_number : Option ℤ → ℤ → Bool
is_number None number = false
is_number (Some other) number = int_eq other number

-- a slave serves a protocol
unfoldable pub is_served : List ℕ → Members → Bool
is_served protocol slave = list_any (λ word. is_text (as_str word) protocol) (list_of (items_at (codes "serves") slave))

-- an entry is of texts or octets, types 9 and 10
unfoldable pub is_of_texts : Members → Bool
is_of_texts entry = is_number (number_at (codes "type") entry) (pos 9) || is_number (number_at (codes "type") entry) (pos 10)

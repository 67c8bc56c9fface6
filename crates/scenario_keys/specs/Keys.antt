-- The kinds of keys, each read in the order: missing, wrong kind, out of range.
use Rattle.std.specs.Prelude.{ℕ, ◌&&◌, nat_le, ℤ, pos, negsuc, List, [], ◌∷◌, length, Option, Some, None, Result, Ok, Bool, true, false, if◌then◌else◌, unwrap_or, option_and_then, is_none}
use Rattle.std.specs.List.{list_all, list_any}
use Rattle.std.specs.Str.{bytes_eq}
use Rattle.toml.specs.Data.{Data, Items, no_items, item, Members, no_members, member, get_member, as_integer, as_bool, as_str, as_array}
use Rattle.scenario_keys.specs.declared.place.Place.{Place}
use Rattle.scenario_keys.specs.declared.refusal.Rule.TheVariants.{Missing, UnknownKey, WrongKind, OutOfRange}
use Rattle.scenario_keys.specs.declared.refusal.Refusal.{Refusal}
use Rattle.scenario_keys.specs.Reading.{◌>>=◌, refuse, wanted, unless_refused, optional}

-- whether the key is one of the known ones
abbrev pub is_known : List (List ℕ) → List ℕ → Bool
is_known known key = list_any (λ k. bytes_eq k key) known

-- whether each key of a table is one of the known ones
abbrev pub has_only : List (List ℕ) → Members → Bool
has_only known no_members = true
has_only known (member key d ms) = is_known known key && has_only known ms

-- no key but the known ones
abbrev pub only_keys : List (List ℕ) → Place → Members → Result (Unit {0}) Refusal
only_keys known place ms = unless_refused UnknownKey place (has_only known ms)

-- the value of a key that has no default
abbrev pub needed_at : List ℕ → Place → Members → Result Data Refusal
needed_at key place ms = wanted Missing place (get_member key ms)

-- a number of 64 bits
abbrev pub number_in : Place → Data → Result ℤ Refusal
number_in place d = wanted WrongKind place (as_integer d)

-- a number of 64 bits, where its key is there
abbrev pub optional_number_at : List ℕ → Place → Members → Result (Option ℤ) Refusal
optional_number_at key place ms = optional (number_in place) (get_member key ms)

-- a number of this range
abbrev pub in_range : ℕ → ℕ → Place → ℤ → Result ℕ Refusal
in_range low high place (pos n) = if nat_le low n && nat_le n high then Ok n else refuse OutOfRange place
in_range low high place (negsuc n) = refuse OutOfRange place

-- a number of this range, of a value
abbrev pub integer_in : ℕ → ℕ → Place → Data → Result ℕ Refusal
integer_in low high place d = number_in place d >>= in_range low high place

-- a number of this range, or this one where its key is left out
abbrev pub integer_or : List ℕ → ℕ → ℕ → ℕ → Place → Members → Result ℕ Refusal
integer_or key default low high place ms = optional (integer_in low high place) (get_member key ms) >>= λ n. Ok (unwrap_or n default)

-- the same of a key that has to be there
abbrev pub integer_at : List ℕ → ℕ → ℕ → Place → Members → Result ℕ Refusal
integer_at key low high place ms = needed_at key place ms >>= integer_in low high place

-- the two numbers of items that are just these
abbrev pub two_numbers : Items → Option (ℤ × ℤ)
two_numbers (item x (item y no_items)) = option_and_then (λ a. option_and_then (λ b. Some (a, b)) (as_integer y)) (as_integer x)
two_numbers _ = None

-- a list of just two numbers
abbrev pub as_pair : Data → Option (ℤ × ℤ)
as_pair d = option_and_then two_numbers (as_array d)

-- the same, or the wrong kind
abbrev pub two_numbers_in : Place → Data → Result (ℤ × ℤ) Refusal
two_numbers_in place d = wanted WrongKind place (as_pair d)

-- two numbers, each of this range
abbrev pub pair_in : ℕ → ℕ → Place → Data → Result (ℕ × ℕ) Refusal
pair_in low high place d = do
  p ← two_numbers_in place d
  x ← in_range low high place p.0
  y ← in_range low high place p.1
  Ok (x, y)

-- the same of a key that has to be there
abbrev pub pair_at : List ℕ → ℕ → ℕ → Place → Members → Result (ℕ × ℕ) Refusal
pair_at key low high place ms = needed_at key place ms >>= pair_in low high place

-- the least and the greatest size
abbrev pub sizes_at : List ℕ → ℕ → ℕ → Place → Members → Result (ℕ × ℕ) Refusal
sizes_at key low high place ms = do
  sizes ← pair_at key low high place ms
  _ ← unless_refused OutOfRange place (nat_le sizes.0 sizes.1)
  Ok sizes

-- a key that another key excludes: out of range where it is there and of its kind
abbrev pub excluded : {A : Type 0} → (Place → Data → Result A Refusal) → List ℕ → Place → Members → Result (Unit {0}) Refusal
excluded read key place ms = optional (read place) (get_member key ms) >>= λ o. unless_refused OutOfRange place (is_none o)

-- no number, since another key excludes it
abbrev pub no_number_at : List ℕ → Place → Members → Result (Unit {0}) Refusal
no_number_at key place ms = excluded number_in key place ms

-- no pair of numbers, since another key excludes it
abbrev pub no_pair_at : List ℕ → Place → Members → Result (Unit {0}) Refusal
no_pair_at key place ms = excluded two_numbers_in key place ms

-- a truth value
abbrev pub bool_in : Place → Data → Result Bool Refusal
bool_in place d = wanted WrongKind place (as_bool d)

-- a truth value, false where its key is left out
abbrev pub bool_at : List ℕ → Place → Members → Result Bool Refusal
bool_at key place ms = optional (bool_in place) (get_member key ms) >>= λ o. Ok (unwrap_or o false)

-- a text
abbrev pub text_in : Place → Data → Result (List ℕ) Refusal
text_in place d = wanted WrongKind place (as_str d)

-- the text of a key that has to be there
abbrev pub text_at : List ℕ → Place → Members → Result (List ℕ) Refusal
text_at key place ms = needed_at key place ms >>= text_in place

-- whether each character is printed, the blank too from 0x20 on and not from 0x21 on
abbrev pub is_printed : ℕ → List ℕ → Bool
is_printed low text = list_all (λ c. nat_le low c && nat_le c 0x7E) text

-- 1 to 32 characters from 0x21 to 0x7E
abbrev pub is_name : List ℕ → Bool
is_name text = (nat_le 1 (length text) && nat_le (length text) 32) && is_printed 0x21 text

-- 0 to 40 characters from 0x20 to 0x7E
abbrev pub is_label : List ℕ → Bool
is_label text = nat_le (length text) 40 && is_printed 0x20 text

-- the name of a key that has to be there
abbrev pub name_at : List ℕ → Place → Members → Result (List ℕ) Refusal
name_at key place ms = do
  text ← text_at key place ms
  _ ← unless_refused OutOfRange place (is_name text)
  Ok text

-- a label, of a value
abbrev pub label_in : Place → Data → Result (List ℕ) Refusal
label_in place d = do
  text ← text_in place d
  _ ← unless_refused OutOfRange place (is_label text)
  Ok text

-- a label, where its key is there
abbrev pub optional_label_at : List ℕ → Place → Members → Result (Option (List ℕ)) Refusal
optional_label_at key place ms = optional (label_in place) (get_member key ms)

-- a label is empty where its key is left out
abbrev pub label_at : List ℕ → Place → Members → Result (List ℕ) Refusal
label_at key place ms = optional_label_at key place ms >>= λ o. Ok (unwrap_or o [])

-- the items as a list
abbrev pub list_of : Items → List Data
list_of no_items = []
list_of (item d ds) = d ∷ list_of ds

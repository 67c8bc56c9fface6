-- The bounds of an IDN and the octets within them, or their first refusal.
use Rattle.std.specs.Prelude.{ℕ, ◌^◌, ◌-◌, ◌&&◌, nat_le, List, codes, Option, Some, None, Result, Ok, Bool, true, false, length}
use Rattle.toml.specs.Data.{Members, get_member}
use Rattle.byteorder.specs.Endian.{little_number}
use Rattle.segment_plan.specs.Sound.{is_integer}
use Rattle.scenario_keys.specs.declared.place.Place.{Place}
use Rattle.scenario_keys.specs.declared.refusal.Rule.TheVariants.{OutOfRange}
use Rattle.scenario_keys.specs.declared.refusal.Refusal.{Refusal}
use Rattle.scenario_keys.specs.Reading.{◌>>=◌, unless_refused, optional}
use Rattle.scenario_keys.specs.Keys.{integer_in, no_number_at}
use Rattle.scenario_values.specs.Octets.{octets_at}

-- a bound of an integer of so many octets
abbrev pub idn_bound_at : List ℕ → ℕ → Place → Members → Result (Option ℕ) Refusal
idn_bound_at key size place ms = optional (integer_in 0 (256 ^ size - 1) place) (get_member key ms)

-- a bound stands only at an integer
abbrev pub idn_bound_if : Bool → List ℕ → ℕ → Place → Members → Result (Option ℕ) Refusal
idn_bound_if true key size place ms = idn_bound_at key size place ms
idn_bound_if false key size place ms = no_number_at key place ms >>= λ _. Ok None

-- the least number isn't above the greatest
abbrev pub are_idn_bounds : Option ℕ → Option ℕ → Bool
are_idn_bounds None max = true
are_idn_bounds (Some least) None = true
are_idn_bounds (Some least) (Some most) = nat_le least most

-- the bounds of an element: both within its size, the least not above the greatest
abbrev pub idn_bounds_at : ℕ × ℕ → Place → Members → Result (Option ℕ × Option ℕ) Refusal
idn_bounds_at sizes place ms = do
  min ← idn_bound_if (is_integer sizes.0 sizes.1) (codes "min") sizes.1 place ms
  max ← idn_bound_if (is_integer sizes.0 sizes.1) (codes "max") sizes.1 place ms
  _ ← unless_refused OutOfRange place (are_idn_bounds min max)
  Ok (min, max)

-- no bound is passed by a number
abbrev pub is_least : Option ℕ → ℕ → Bool
is_least None number = true
is_least (Some least) number = nat_le least number

-- nor is the greatest
abbrev pub is_most : Option ℕ → ℕ → Bool
is_most None number = true
is_most (Some most) number = nat_le number most

-- a value of at most 8 octets within these bounds; a longer one has none
abbrev pub is_bounded : Option ℕ → Option ℕ → List ℕ → Bool
is_bounded None None value = true
is_bounded min max value = is_least min (little_number (length value) value) && is_most max (little_number (length value) value)

-- the octets of an IDN, within its sizes and bounds
abbrev pub idn_value_at : ℕ × ℕ → Option ℕ × Option ℕ → Place → Members → Result (List ℕ) Refusal
idn_value_at sizes bounds place ms = do
  value ← octets_at (codes "value") sizes.0 sizes.1 place ms
  _ ← unless_refused OutOfRange place (is_bounded bounds.0 bounds.1 value)
  Ok value

-- Octets, written as a text of hexadecimal digits.
use Rattle.std.specs.Prelude.{ℕ, ◌/◌, ◌%◌, ◌==◌, ◌&&◌, nat_le, Bool, List, length, Result, Ok}
use Rattle.std.specs.Result.{result_ok}
use Rattle.hex.specs.Hex.{decode_of}
use Rattle.toml.specs.Data.{Data, Members}
use Rattle.scenario_keys.specs.declared.place.Place.{Place}
use Rattle.scenario_keys.specs.declared.refusal.Rule.TheVariants.{OutOfRange, NotOctets}
use Rattle.scenario_keys.specs.declared.refusal.Refusal.{Refusal}
use Rattle.scenario_keys.specs.Reading.{◌>>=◌, wanted, unless_refused}
use Rattle.scenario_keys.specs.Keys.{needed_at, text_in, excluded}

-- the octets that a text of hexadecimal digits writes
abbrev pub digits_in : Place → Data → Result (List ℕ) Refusal
digits_in place d = text_in place d >>= λ text. wanted NotOctets place (result_ok (decode_of text))

-- whether a text has as many characters as so many octets have digits
abbrev pub is_fit : ℕ → ℕ → List ℕ → Bool
is_fit least most text = length text % 2 == 0 && nat_le least (length text / 2) && nat_le (length text / 2) most

-- so many octets
abbrev pub octets_in : ℕ → ℕ → Place → Data → Result (List ℕ) Refusal
octets_in least most place d = do
  octets ← digits_in place d
  _ ← unless_refused OutOfRange place (nat_le least (length octets) && nat_le (length octets) most)
  Ok octets

-- the same of a key that has to be there
abbrev pub octets_at : List ℕ → ℕ → ℕ → Place → Members → Result (List ℕ) Refusal
octets_at key least most place ms = needed_at key place ms >>= octets_in least most place

-- no octets, since another key excludes them
abbrev pub no_octets_at : List ℕ → Place → Members → Result (Unit {0}) Refusal
no_octets_at key place ms = excluded digits_in key place ms

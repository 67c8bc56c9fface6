-- The keys of the top: the version, the budget, the tables of the slaves and the packets of the host, or their first refusal.
use Rattle.std.specs.Prelude.{ℕ, ℤ, pos, negsuc, ◌==◌, ◌||◌, nat_le, List, [], ◌∷◌, length, codes, Option, Some, None, Result, Ok, if◌then◌else◌}
use Rattle.toml.specs.Data.{Members, get_member}
use Rattle.arrayvec.specs.ArrayVec.{ArrayVec}
use Rattle.scenario_services.specs.of_scenario_keys.declared.place.Place.TheVariants as places
use Rattle.scenario_services.specs.of_scenario_keys.declared.refusal.Rule.TheVariants.{WrongVersion, OutOfRange}
use Rattle.scenario_services.specs.of_scenario_keys.declared.refusal.Refusal.{Refusal}
use Rattle.scenario_services.specs.of_scenario_keys.Reading.{◌>>=◌, wanted, unless_refused, optional, each}
use Rattle.scenario_services.specs.of_scenario_keys.Keys.{only_keys, needed_at, number_in, integer_in}
use Rattle.scenario_services.specs.of_scenario_values.Octets.{octets_at}
use Rattle.scenario_services.specs.of_scenario_values.Tables.{tables_at}

-- the versions: 1 and 2
abbrev pub version_of : ℤ → Option ℕ
version_of (pos n) = if n == 1 || n == 2 then Some n else None
version_of (negsuc n) = None

-- the version comes before all else
abbrev pub version_at : Members → Result ℕ Refusal
version_at ms = do
  value ← needed_at (codes "version") places.Top ms
  number ← number_in places.Top value
  wanted WrongVersion places.Top (version_of number)

-- the most frames that a run sends
abbrev pub budget_at : Members → Result (Option ℕ) Refusal
budget_at ms = optional (integer_in 1 100000000 places.Top) (get_member (codes "budget") ms)

-- the tables of the slaves, of which there is one at least
abbrev pub slave_tables_at : Members → Result (List Members) Refusal
slave_tables_at ms = do
  tables ← tables_at (codes "slave") 16 places.Top ms
  _ ← unless_refused OutOfRange places.Top (nat_le 1 (length tables))
  Ok tables

-- a packet of the host
abbrev pub packet_of : ℕ → Members → Result (ArrayVec ℕ) Refusal
packet_of host ms = do
  _ ← only_keys (codes "packet" ∷ []) (places.Host host) ms
  octets ← octets_at (codes "packet") 14 1514 (places.Host host) ms
  Ok (record { items = octets })

-- all packets of the host, in order
abbrev pub packets_of : List Members → Result (List (ArrayVec ℕ)) Refusal
packets_of tables = each packet_of 0 tables

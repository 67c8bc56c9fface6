-- The line where no slave of a plan is the one that is meant.
use Rattle.std.specs.Prelude.{ℕ, ◌==◌, List, ◌++◌, codes, length, drop, Option, Some, None, if◌then◌else◌}
use Rattle.std.specs.List.{flat_map}
use Rattle.std.specs.Option.{option_to_list}
use Rattle.std.specs.Str.{is_utf8}
use Rattle.ecmbx_words.specs.Texts.{four_digits}
use Rattle.near_words.specs.Near.{near}
use Rattle.near_words.specs.Hint.{hint}
use Rattle.segment_plan.specs.declared.slave.SlaveSpec.{SlaveSpec}
use Rattle.value_texts.specs.Texts.{quoted}
use Rattle.entry_words.specs.Slaves.{station_in}

-- octets as a text, where they are one
abbrev pub text_in : List ℕ → Option (List ℕ)
text_in octets = if is_utf8 octets then Some octets else None

-- a slave's name, where it is a text
abbrev pub name_list : SlaveSpec → List (List ℕ)
name_list slave = option_to_list (text_in slave.name)

-- the slaves' names, as far as they are texts
abbrev pub names_in : List SlaveSpec → List (List ℕ)
names_in slaves = flat_map name_list slaves

-- a station address
unfoldable pub station_text : ℕ → List ℕ
station_text station = codes "0x" ++ four_digits station

-- a slave with its station, behind a comma
unfoldable pub station_item : SlaveSpec → List ℕ
station_item slave = codes ", " ++ (slave.name ++ (codes " " ++ station_text slave.station))

-- a slave's name in quotes, behind a comma
unfoldable pub name_item : SlaveSpec → List ℕ
name_item slave = codes ", " ++ quoted slave.name

-- how so many are told
abbrev pub there : List SlaveSpec → List ℕ
there slaves = if length slaves == 1 then codes "; there is " else codes "; there are "

-- the slaves that there are, with their stations
unfoldable pub stations_text : List SlaveSpec → List ℕ
stations_text slaves = codes "; there are " ++ drop 2 (flat_map station_item slaves)

-- no slave has a station
unfoldable pub no_station_line : List SlaveSpec → ℕ → List ℕ
no_station_line slaves station = codes "no slave has the station " ++ (station_text station ++ (stations_text slaves ++ codes "\n"))

-- no slave has a name
unfoldable pub no_name_line : List SlaveSpec → List ℕ → List ℕ
no_name_line slaves word =
    codes "no slave is named " ++ (quoted word ++ (there slaves ++ (drop 2 (flat_map name_item slaves) ++ (hint (near word (names_in slaves)) ++ codes "\n"))))

-- a station or a name that no slave has
abbrev pub no_line : List SlaveSpec → List ℕ → Option ℕ → List ℕ
no_line slaves word (Some station) = no_station_line slaves station
no_line slaves word None = no_name_line slaves word

-- THE LINE of a word that means no slave
unfoldable pub no_slave_line : List SlaveSpec → List ℕ → List ℕ
no_slave_line slaves word = no_line slaves word (station_in word)

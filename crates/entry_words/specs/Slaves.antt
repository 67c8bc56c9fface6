-- Which slave of a plan a word means.
use Rattle.std.specs.Prelude.{ℕ, ◌==◌, ◌&&◌, nat_le, List, find, Option, Some, None, if◌then◌else◌}
use Rattle.std.specs.Str.{bytes_eq}
use Rattle.segment_plan.specs.declared.slave.SlaveSpec.{SlaveSpec}
use Rattle.entry_words.specs.Numbers.{number_word}

-- a number that a station may have
abbrev pub station_of : Option ℕ → Option ℕ
station_of (Some station) = if nat_le 1 station && nat_le station 0xFFFF then Some station else None
station_of None = None

-- the station that a word writes
unfoldable pub station_in : List ℕ → Option ℕ
station_in word = station_of (number_word word)

-- the slave of a name
unfoldable pub named_in : List SlaveSpec → List ℕ → Option SlaveSpec
named_in slaves name = find (λ (slave : SlaveSpec). bytes_eq slave.name name) slaves

-- the slave of a station
unfoldable pub stationed_in : List SlaveSpec → ℕ → Option SlaveSpec
stationed_in slaves station = find (λ (slave : SlaveSpec). slave.station == station) slaves

-- the slave that was found, or else the one of a station
abbrev pub or_stationed : List SlaveSpec → Option SlaveSpec → Option ℕ → Option SlaveSpec
or_stationed slaves (Some slave) station = Some slave
or_stationed slaves None (Some station) = stationed_in slaves station
or_stationed slaves None None = None

-- THE SLAVE THAT A WORD MEANS: the one of that name, or else of that station
unfoldable pub slave_in : List SlaveSpec → List ℕ → Option SlaveSpec
slave_in slaves word = or_stationed slaves (named_in slaves word) (station_in word)

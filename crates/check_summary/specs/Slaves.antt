-- What is told of a slave.
use Rattle.std.specs.Prelude.{ℕ, ◌-◌, ◌^◌, ◌==◌, ◌||◌, not, nat_lt, Bool, false, List, [], ◌++◌, codes, decimal, length, count_by, if◌then◌else◌}
use Rattle.std.specs.Fmt.{digits, format_spec, padded_integral}
use Rattle.segment_plan.specs.declared.service.Service.{Service}
use Rattle.segment_plan.specs.declared.slave.SlaveSpec.{SlaveSpec}
use Rattle.check_summary.specs.Numbers.{counted, some_counted}

-- a word behind a blank, where it is to be told
abbrev pub word_of : Bool → List ℕ → List ℕ
word_of is_told word = if is_told then codes " " ++ word else []

-- the protocols that a slave serves
unfoldable pub protocols : SlaveSpec → List ℕ
protocols s =
    word_of s.«coe» (codes "coe") ++ (word_of s.foe (codes "foe") ++ (word_of s.eoe (codes "eoe") ++ (word_of s.soe (codes "soe")
    ++ word_of (not (s.«coe» || s.foe || s.eoe || s.soe)) (codes "no protocol"))))

-- a pace above 1
unfoldable pub pace_text : ℕ → List ℕ
pace_text pace = if nat_lt 1 pace then codes ", pace " ++ decimal pace else []

-- a slave that starts in Bootstrap, or has it
unfoldable pub start_text : SlaveSpec → List ℕ
start_text s = if s.start == 3 then codes ", starts in Bootstrap" else if s.boot then codes ", has Bootstrap" else []

-- how many services are of the slave of a number
unfoldable pub services_of : List (ℕ × Service) → ℕ → ℕ
services_of services number = count_by (λ (service : ℕ × Service). service.0 == number) services

-- a station address in four hexadecimal digits
unfoldable pub station_text : ℕ → List ℕ
station_text station = codes ": station 0x" ++ (padded_integral (format_spec 32 0 4 4 (2 ^ 64 - 1)) false [] (digits 16 false station) ++ codes ",")

-- what a slave is
unfoldable pub slave_head : SlaveSpec → ℕ → List ℕ
slave_head s pace = codes "slave " ++ (s.name ++ (station_text s.station ++ (protocols s ++ (pace_text pace ++ start_text s))))

-- how many objects, files and IDNs it has
unfoldable pub slave_counts : SlaveSpec → List ℕ
slave_counts s =
    some_counted (length s.objects) (codes "object") (codes "objects")
    ++ (some_counted (length s.files) (codes "file") (codes "files") ++ some_counted (length s.idns) (codes "IDN") (codes "IDNs"))

-- THE LINE OF A SLAVE: what it is, and how many objects, files, IDNs and services it has
unfoldable pub slave_line : SlaveSpec → ℕ → ℕ → List ℕ
slave_line s pace services =
    slave_head s pace ++ (slave_counts s ++ (codes ", " ++ (counted services (codes "service") (codes "services") ++ codes "\n")))

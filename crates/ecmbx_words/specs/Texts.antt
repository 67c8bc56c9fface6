-- The lines put where nothing runs.
use Rattle.std.specs.Prelude.{ℕ, ◌-◌, ◌^◌, false, List, [], ◌++◌, codes}
use Rattle.std.specs.Fmt.{decimal, digits, format_spec, padded_integral}
use Rattle.pcap_frames.specs.declared.capture.PcapFault.{PcapFault}
use Rattle.pcap_frames.specs.declared.capture.PcapFault.TheVariants as faults
use Rattle.scenario_keys.specs.declared.place.Place.{Place}
use Rattle.scenario_keys.specs.declared.place.Place.TheVariants as places
use Rattle.scenario_keys.specs.declared.refusal.Refusal.{Refusal}
use Rattle.scenario_keys.specs.Rules.{number_of}

-- the forms of the command line
abbrev pub usage_line : List ℕ
usage_line = codes "usage: ecmbx run SCENARIO [CAPTURE] | decode CAPTURE | serve SCENARIO COUNT | make SEED SIZE | stream SCENARIO COUNT | audit CAPTURE | ask STATION OUT IN DO ARGS\n"

-- a file that isn't there
abbrev pub absent_line : List ℕ
absent_line = codes "absent\n"

-- a file that is longer than may be
abbrev pub long_line : List ℕ
long_line = codes "too long\n"

-- a file that can't be read or written
abbrev pub fault_line : List ℕ
fault_line = codes "file fault\n"

-- a place in words, its numbers from 0
abbrev pub place_text : Place → List ℕ
place_text places.Top = codes "top"
place_text (places.Slave i) = codes "slave " ++ decimal i
place_text (places.Object i k) = codes "object " ++ (decimal i ++ (codes " " ++ decimal k))
place_text (places.Entry i k n) = codes "entry " ++ (decimal i ++ (codes " " ++ (decimal k ++ (codes " " ++ decimal n))))
place_text (places.File i k) = codes "file " ++ (decimal i ++ (codes " " ++ decimal k))
place_text (places.Idn i k) = codes "idn " ++ (decimal i ++ (codes " " ++ decimal k))
place_text (places.Service i) = codes "service " ++ decimal i
place_text (places.Host i) = codes "host " ++ decimal i

-- a refusal by the rule of a number
abbrev pub refusal_line : ℕ → Place → List ℕ
refusal_line rule place = (codes "refused S" ++ (decimal rule ++ codes " at ")) ++ place_text place ++ codes "\n"

-- a refusal of a scenario, by its rule's number
abbrev pub refused_line : Refusal → List ℕ
refused_line e = refusal_line (number_of e.rule) e.place

-- a fault of a capture without a place
abbrev pub numbered : ℕ → List ℕ
numbered number = codes "refused P" ++ (decimal number ++ codes "\n")

-- a fault of a capture, with its place
abbrev pub faulted_at : ℕ → ℕ → List ℕ
faulted_at number at = codes "refused P" ++ (decimal number ++ (codes " at " ++ (decimal at ++ codes "\n")))

-- a number in hexadecimal digits, with zeros in front up to four
abbrev pub four_digits : ℕ → List ℕ
four_digits n = padded_integral (format_spec 32 0 4 4 (2 ^ 64 - 1)) false [] (digits 16 false n)

-- a station of an audit, and how many mails were sent there and accepted
abbrev pub station_line : ℕ → ℕ → ℕ → List ℕ
station_line station sent accepted =
    codes "station " ++ (four_digits station ++ (codes " sent " ++ (decimal sent ++ (codes " accepted " ++ (decimal accepted ++ codes "\n")))))

-- a capture that obeys the rules
abbrev pub yes_line : List ℕ
yes_line = codes "audit yes\n"

-- the rule that a capture breaks, and the packet
abbrev pub no_line : ℕ → ℕ → List ℕ
no_line rule packet = codes "audit no A" ++ (decimal rule ++ (codes " at " ++ (decimal packet ++ codes "\n")))

-- a refusal of a capture by its fault; want of memory is none
abbrev pub capture_line : PcapFault → List ℕ
capture_line (faults.Short at) = faulted_at 1 at
capture_line faults.Magic = numbered 2
capture_line faults.Version = numbered 3
capture_line faults.LinkType = numbered 4
capture_line (faults.RecordCut at) = faulted_at 5 at
capture_line (faults.RecordTooLong at) = faulted_at 6 at
capture_line faults.NoMemory = []

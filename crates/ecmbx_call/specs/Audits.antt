-- How a call ends that audits a capture.
use Rattle.std.specs.Prelude.{◌≡◌, ℕ, List, [], ◌∷◌, ◌++◌, length, map, Option, Ok, Err}
use Rattle.capture_audit.specs.declared.station.StationAudit.{StationAudit}
use Rattle.capture_audit.specs.declared.verdict.Verdict.{Verdict}
use Rattle.capture_audit.specs.declared.verdict.Verdict.TheVariants.{Yes, No}
use Rattle.capture_audit.specs.Audit.{verdict_of}
use Rattle.run_report.specs.of_pcap_frames.declared.capture.Capture.{Capture}
use Rattle.run_report.specs.of_pcap_frames.declared.capture.PcapFault.{PcapFault}
use Rattle.run_report.specs.of_pcap_frames.Reading.{capture_read}
use Rattle.tool_call.specs.of_ecmbx_words.declared.status.Status.{Status}
use Rattle.tool_call.specs.of_ecmbx_words.declared.status.Status.TheVariants as statuses
use Rattle.tool_call.specs.of_ecmbx_words.Ends.{text_of, PutAll}
use Rattle.tool_call.specs.of_ecmbx_words.Texts.{station_line, yes_line, no_line, capture_line}

-- a station, and how many mails were sent there and accepted
abbrev pub line_of : StationAudit → List ℕ
line_of s = station_line s.station (length s.sent) (length s.accepted)

-- a line for each station, and the last one
abbrev pub yes_lines : List StationAudit → List (List ℕ)
yes_lines stations = map line_of stations ++ yes_line ∷ []

-- the text of a verdict: the stations and `audit yes`, or the rule and the packet
abbrev pub verdict_text : Verdict → List ℕ
verdict_text (Yes stations) = text_of (yes_lines stations)
verdict_text (No rule packet) = no_line rule packet

-- how a call ends with it
abbrev pub verdict_status : Verdict → Status
verdict_status (Yes stations) = statuses.Done
verdict_status (No rule packet) = statuses.AuditNo

-- the text of a verdict is put, and the call ends with its status
abbrev pub PutsVerdict : Verdict → Option (List ℕ) → Option (List ℕ) → Status → Type 0
PutsVerdict verdict old new status = PutAll (verdict_status verdict) (verdict_text verdict) old new status

-- a capture: refused, or its verdict
pub data AuditCourse (octets : List ℕ) : Status → List ℕ → Type 0 where
  refused : (fault : PcapFault) → capture_read octets ≡ Err fault → AuditCourse octets statuses.Refused (capture_line fault)
  audited : (capture : Capture) → capture_read octets ≡ Ok capture → AuditCourse octets (verdict_status (verdict_of octets capture)) (verdict_text (verdict_of octets capture))

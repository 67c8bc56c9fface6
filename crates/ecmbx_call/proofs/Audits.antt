-- The lines of an audit, and how many packets a file has.
use Rattle.std.proofs.Common.{◌≡◌, ℕ, ◌+◌, ◌<◌, ◌≤◌, List, [], ◌∷◌, ◌++◌, length, map, take, get_or, Ok, refl, sym, ap, ◌∙◌, arith, length-append}
use Rattle.std.proofs.lemmas.List.{take_more}
use Rattle.scenario_made.proofs.of_ec_fields.Cells.{AreOctets}
use Rattle.run_report.specs.of_pcap_frames.declared.capture.Capture.{Capture}
use Rattle.run_report.specs.of_pcap_frames.declared.order.Order.{Order}
use Rattle.run_report.specs.of_pcap_frames.declared.order.Order.TheVariants.{LowFirst, HighFirst}
use Rattle.run_report.specs.of_pcap_frames.Capture.{Packet, head_text, packet_text, packets_text, places_of}
use Rattle.run_report.specs.of_pcap_frames.Reading.{capture_read}
use Rattle.run_report.proofs.of_pcap_frames.Grammar.{found_in}
use Rattle.capture_audit.specs.declared.station.StationAudit.{StationAudit}
use Rattle.ecmbx_call.specs.Audits.{line_of}

map-append : (xs ys : List StationAudit) → map line_of (xs ++ ys) ≡ map line_of xs ++ map line_of ys
map-append [] ys = refl
map-append (x ∷ xs) ys = ap (λ ls. line_of x ∷ ls) (map-append xs ys)

-- one station more
pub lines_more : (stations : List StationAudit) (i : ℕ) (row : StationAudit) → i < length stations → row ≡ get_or stations i row → map line_of (take (i + 1) stations) ≡ map line_of (take i stations) ++ line_of row ∷ []
lines_more stations i row few is =
    let split : take (i + 1) stations ≡ take i stations ++ row ∷ [] = rw (← is) at (take_more stations i row few) in
    ap (map line_of) split ∙ map-append (take i stations) (row ∷ [])

packet_long : (order : Order) (p : Packet) → 16 ≤ length (packet_text order p)
packet_long LowFirst p = omega arith
packet_long HighFirst p = omega arith

places_few : (order : Order) (at : ℕ) (ps : List Packet) → length (places_of at ps) ≤ length (packets_text order ps)
places_few order at [] = omega arith
places_few order at (p ∷ ps) = omega (arith, places_few order (at + 16 + length p.octets) ps, packet_long order p, length-append (packet_text order p) (packets_text order ps))

-- a capture has no more packets than its file has octets
pub packets_few : (file : List ℕ) (capture : Capture) → AreOctets file → capture_read file ≡ Ok capture → length capture.packets ≤ length file
packets_few file capture o e =
    let found = found_in file (Ok capture) o (sym e) in
    let is = found.1 in
    let few = places_few is.order 24 found.0 in
    let whole = ap length is.text in
    let both = length-append (head_text is.order capture.nanos is.ignored) (packets_text is.order found.0) in
    let same = ap length found.2 in
    omega (arith, few, whole, both, same)

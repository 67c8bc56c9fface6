-- The packets of a capture lie within its file.
use Rattle.std.proofs.Common.{◌≡◌, ◌≤◌, ◌<◌, ℕ, zero, suc, ◌+◌, Bool, List, [], ◌∷◌, length, get_or, Ok, sym, ap, subst, arith, length-append}
use Rattle.std.specs.Prelude.{All}
use Rattle.byteorder.specs.Endian.{little_bytes, big_bytes}
use Rattle.coe_codec.proofs.of_ec_fields.Cells.{AreOctets}
use Rattle.pcap_frames.specs.declared.capture.Capture.{Capture}
use Rattle.pcap_frames.specs.declared.capture.PacketAt.{PacketAt}
use Rattle.pcap_frames.specs.declared.order.Order.{Order}
use Rattle.pcap_frames.specs.declared.order.Order.TheVariants.{LowFirst, HighFirst}
use Rattle.pcap_frames.specs.Capture.{Packet, head_text, packet_text, packets_text, places_of}
use Rattle.pcap_frames.specs.Reading.{capture_read}
use Rattle.pcap_frames.proofs.Grammar.{found_in}
use Rattle.capture_view.specs.View.{IsWithin}

length-packet_text : (order : Order) (p : Packet) → length (packet_text order p) ≡ 16 + length p.octets
length-packet_text LowFirst p = omega arith
length-packet_text HighFirst p = omega arith

length-head_text : (order : Order) (nanos : Bool) (ignored : List ℕ) → length ignored ≡ 12 → length (head_text order nanos ignored) ≡ 24
length-head_text LowFirst nanos ignored e = omega (arith, length-append ignored (little_bytes 4 1))
length-head_text HighFirst nanos ignored e = omega (arith, length-append ignored (big_bytes 4 1))

place_low : (order : Order) (at k : ℕ) (ps : List Packet) (none : PacketAt) → k < length (places_of at ps)
    → (get_or (places_of at ps) k none).from + (get_or (places_of at ps) k none).len ≤ at + length (packets_text order ps)
place_low order at k [] none few = absurd (omega arith)
place_low order at zero (p ∷ ps) none few = omega (arith, length-packet_text order p, length-append (packet_text order p) (packets_text order ps))
place_low order at (suc k) (p ∷ ps) none few =
    let low = place_low order (at + 16 + length p.octets) k ps none (omega arith) in
    omega (arith, low, length-packet_text order p, length-append (packet_text order p) (packets_text order ps))

-- each packet of a capture that was read lies within its file
pub packets_within : (file : List ℕ) (capture : Capture) → AreOctets file → capture_read file ≡ Ok capture → All (IsWithin file) capture.packets
packets_within file capture o e =
    let found = found_in file (Ok capture) o (sym e) in
    let is = found.1 in
    subst (λ (places : List PacketAt). All (IsWithin file) places) (sym found.2) (λ k none few.
    let low = place_low is.order 24 k found.0 none few in
    let whole = ap length is.text in
    let head = length-head_text is.order capture.nanos is.ignored is.twelve in
    let both = length-append (head_text is.order capture.nanos is.ignored) (packets_text is.order found.0) in
    omega (arith, low, whole, head, both))

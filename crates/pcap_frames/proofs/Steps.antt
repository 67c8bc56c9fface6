-- One step of a reader that goes from packet to packet.
use Rattle.std.proofs.Common.{◌≡◌, ℕ, zero, suc, ◌+◌, ◌-◌, ◌<◌, ◌≤◌, Bool, true, false, List, [], ◌∷◌, ◌++◌, length, drop, refl, ap, sym, ◌∙◌, arith, append_assoc, append-nil, length-drop}
use Rattle.std.specs.Prelude.{Result, Ok, Err, nat_lt, if◌then◌else◌, is_err, OnOk}
use Rattle.std.proofs.lemmas.Bool.{true≢false, ne_eqb, ltb-false}
use Rattle.std.proofs.lemmas.List.{drop-drop, drop_all}
use Rattle.pcap_frames.specs.declared.capture.PacketAt.{PacketAt}
use Rattle.pcap_frames.specs.declared.capture.PcapFault.{PcapFault}
use Rattle.pcap_frames.specs.declared.capture.PcapFault.TheVariants.{Short, Magic, Version, LinkType, RecordCut, RecordTooLong, NoMemory}
use Rattle.pcap_frames.specs.declared.order.Order.{Order}
use Rattle.pcap_frames.specs.Reading.{packet_read, packet_at, captured_in, with_packets, joined, packets_within, UnlessNoMemory}

-- a fact that holds, holds unless memory was wanting
pub unless : {T : Type 0} (r : Result T PcapFault) {P : Type 0} → P → UnlessNoMemory r P
unless (Ok x) h = h
unless (Err (Short at)) h = h
unless (Err Magic) h = h
unless (Err Version) h = h
unless (Err LinkType) h = h
unless (Err (RecordCut at)) h = h
unless (Err (RecordTooLong at)) h = h
unless (Err NoMemory) h = tt

-- the reader has read `packets` and stands at `at`
pub record IsReading (order : Order) (octets : List ℕ) (packets : List PacketAt) (at : ℕ) : Type 0 where
  pub most : ℕ
  pub enough : length (drop at octets) ≤ most
  pub same : with_packets packets (packets_within order most at (drop at octets)) ≡ packets_within order (length octets) 24 (drop 24 octets)
  pub inside : at ≤ length octets

with_packets-none : (r : Result (List PacketAt) PcapFault) → with_packets [] r ≡ r
with_packets-none (Ok ps) = refl
with_packets-none (Err f) = refl

with_packets-twice : (a b : List PacketAt) (r : Result (List PacketAt) PcapFault) → with_packets a (with_packets b r) ≡ with_packets (a ++ b) r
with_packets-twice a b (Ok ps) = rw append_assoc refl
with_packets-twice a b (Err f) = refl

-- at the first packet
pub reading_begins : (order : Order) (octets : List ℕ) → 24 ≤ length octets → IsReading order octets [] 24
reading_begins order octets long = record {
  most = length octets;
  enough = omega (arith, length-drop {A = ℕ});
  same = with_packets-none (packets_within order (length octets) 24 (drop 24 octets));
  inside = long;
}

packets_within-none : (order : Order) (most at : ℕ) → packets_within order most at [] ≡ Ok []
packets_within-none order zero at = refl
packets_within-none order (suc most) at = refl

abbrev ok_packets : List PacketAt → Result (List PacketAt) PcapFault
ok_packets ps = Ok ps

abbrev pub fault_found : PcapFault → Result (List PacketAt) PcapFault
fault_found f = Err f

-- nothing is left
pub reading_ends : (order : Order) (octets : List ℕ) (packets : List PacketAt) (at : ℕ) → IsReading order octets packets at
    → length octets ≤ at → Ok packets ≡ packets_within order (length octets) 24 (drop 24 octets)
reading_ends order octets packets at r ends =
    let left = drop_all at octets ends in
    let none = ap (packets_within order r.most at) left ∙ packets_within-none order r.most at in
    let whole = ap (with_packets packets) none in
    sym (sym r.same ∙ whole ∙ ap ok_packets (append-nil packets))

-- something is left
packets_within-some : (order : Order) (most at : ℕ) (rest : List ℕ) → length rest ≤ most → 0 < length rest
    → (n : ℕ) × (most ≡ suc n) × (packets_within order most at rest
    ≡ joined (packet_read order at rest) (packets_within order n (at + 16 + captured_in order rest) (drop (16 + captured_in order rest) rest)))
packets_within-some order zero at rest few some = absurd (omega arith)
packets_within-some order (suc most) at rest few some =
    let no = ne_eqb (length rest) 0 (λ e. omega arith) in
    (most, refl, rw no refl)

-- the packet here has a fault
pub reading_stops : (order : Order) (octets : List ℕ) (packets : List PacketAt) (at : ℕ) (fault : PcapFault) → IsReading order octets packets at
    → at < length octets → Err fault ≡ packet_read order at (drop at octets)
    → fault_found fault ≡ packets_within order (length octets) 24 (drop 24 octets)
reading_stops order octets packets at fault r some e =
    let on = packets_within-some order r.most at (drop at octets) r.enough (omega (arith, length-drop {A = ℕ})) in
    let here = on.2 ∙ ap (λ (x : Result PacketAt PcapFault). joined x (packets_within order on.0 (at + 16 + captured_in order (drop at octets)) (drop (16 + captured_in order (drop at octets)) (drop at octets)))) (sym e) in
    sym (sym r.same ∙ ap (with_packets packets) here)

read_test : (short long cut : Bool) (at : ℕ) (p q : PacketAt)
    → Ok q ≡ (if short then Err (RecordCut at) else if long then Err (RecordTooLong at) else if cut then Err (RecordCut at) else Ok p)
    → (short ≡ false) × (cut ≡ false) × (q ≡ p)
read_test true long cut at p q e = cc
read_test false true cut at p q e = cc
read_test false false true at p q e = cc
read_test false false false at p q e = (refl, refl, cc)

-- a packet that was read is there, and is the one that stands here
pub found_packet : (order : Order) (at : ℕ) (rest : List ℕ) (packet : PacketAt) → Ok packet ≡ packet_read order at rest
    → (16 + captured_in order rest ≤ length rest) × (packet ≡ packet_at order at rest)
found_packet order at rest packet e =
    let t = read_test (nat_lt (length rest) 16) (nat_lt 262144 (captured_in order rest)) (nat_lt (length rest - 16) (captured_in order rest)) at (packet_at order at rest) packet e in
    let a = ltb-false (length rest) 16 t.0 in
    let b = ltb-false (length rest - 16) (captured_in order rest) t.1 in
    (omega arith, t.2)

-- the packet here was read
pub reading_on : (order : Order) (octets : List ℕ) (packets all : List PacketAt) (at : ℕ) (packet : PacketAt) → IsReading order octets packets at
    → at < length octets → Ok packet ≡ packet_read order at (drop at octets) → all ≡ packets ++ packet ∷ []
    → IsReading order octets all (at + (16 + packet.len))
reading_on order octets packets all at packet r some e pushed =
    let on = packets_within-some order r.most at (drop at octets) r.enough (omega (arith, length-drop {A = ℕ})) in
    let found = found_packet order at (drop at octets) packet e in
    let fits = found.0 in
    let size : captured_in order (drop at octets) ≡ packet.len = ap (λ (p : PacketAt). p.len) (sym found.1) in
    let here : packets_within order r.most at (drop at octets)
    ≡ with_packets (packet ∷ []) (packets_within order on.0 (at + 16 + packet.len) (drop (16 + packet.len) (drop at octets))) =
    on.2 ∙ ap (λ (x : Result PacketAt PcapFault). joined x (packets_within order on.0 (at + 16 + captured_in order (drop at octets)) (drop (16 + captured_in order (drop at octets)) (drop at octets)))) (sym e)
    ∙ ap (λ (n : ℕ). with_packets (packet ∷ []) (packets_within order on.0 (at + 16 + n) (drop (16 + n) (drop at octets)))) size in
    let place : at + 16 + packet.len ≡ at + (16 + packet.len) = omega arith in
    let more = on.1 in
    let few = r.enough in
    record {
      most = on.0;
      enough = omega (arith, length-drop {A = ℕ});
      same =
          ap (λ (ps : List PacketAt). with_packets ps (packets_within order on.0 (at + (16 + packet.len)) (drop (at + (16 + packet.len)) octets))) pushed
          ∙ sym (with_packets-twice packets (packet ∷ []) (packets_within order on.0 (at + (16 + packet.len)) (drop (at + (16 + packet.len)) octets)))
          ∙ ap (λ (n : ℕ). with_packets packets (with_packets (packet ∷ []) (packets_within order on.0 n (drop (at + (16 + packet.len)) octets)))) (sym place)
          ∙ ap (λ (x : List ℕ). with_packets packets (with_packets (packet ∷ []) (packets_within order on.0 (at + 16 + packet.len) x))) (sym (drop-drop (16 + packet.len) at octets))
          ∙ ap (with_packets packets) (sym here) ∙ r.same;
      inside = omega (arith, length-drop {A = ℕ});
    }

-- a header and octets behind what stood there
pub written_behind : (before between after head octets text : List ℕ) → between ≡ before ++ head → after ≡ between ++ octets → head ≡ text
    → after ≡ before ++ (text ++ octets)
written_behind before between after head octets text a b c =
    b ∙ ap (λ (x : List ℕ). x ++ octets) (a ∙ ap (λ (x : List ℕ). before ++ x) c) ∙ append_assoc before text octets

-- a push that had its memory
pub pushed : {P : Type 0} (r : Result (Unit {0}) PacketAt) → is_err r ≡ false → OnOk r P → P
pushed (Ok done) e h = h
pushed (Err row) e h = absurd (true≢false e)

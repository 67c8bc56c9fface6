-- What octets read as, against what spells them.
use Rattle.std.proofs.Common.{◌≡◌, ℕ, zero, suc, ◌+◌, ◌-◌, ◌<◌, ◌≤◌, Bool, true, false, List, [], ◌∷◌, ◌++◌, length, take, drop, refl, ap, sym, ◌∙◌, arith, append_assoc, length-drop, length-append, take-append-drop, length-take-le, ◌⊎◌, inl, inr}
use Rattle.std.specs.Prelude.{Result, Ok, Err, Option, None, Some, nat_lt, ◌==◌, ◌&&◌, not, if◌then◌else◌, IfOk}
use Rattle.std.proofs.lemmas.Bool.{le-ltb, ltb-false, eqb-true, ne_eqb}
use Rattle.std.proofs.lemmas.List.{drop-drop, drop_at}
use Rattle.pcap_frames.specs.declared.capture.Capture.{Capture}
use Rattle.pcap_frames.specs.declared.capture.PacketAt.{PacketAt}
use Rattle.pcap_frames.specs.declared.capture.PcapFault.{PcapFault}
use Rattle.pcap_frames.specs.declared.capture.PcapFault.TheVariants.{Short, Magic, Version, LinkType, RecordCut, RecordTooLong, NoMemory}
use Rattle.pcap_frames.specs.declared.order.Order.{Order}
use Rattle.pcap_frames.specs.declared.order.Order.TheVariants.{LowFirst, HighFirst}
use Rattle.pcap_frames.specs.Order.{number_in, octets_in}
use Rattle.pcap_frames.specs.Capture.{Packet, packet_text, packets_text, IsPacket, Each, IsCapture, places_of, magic_of, head_text, saved}
use Rattle.pcap_frames.specs.Reading.{magic_in, captured_in, packet_at, packet_read, joined, packets_within, capture_of, capture_by, capture_read, UnlessNoMemory}
use Rattle.ec_fields.proofs.Cells.{AreOctets, AreOctets-drop}
use Rattle.pcap_frames.proofs.Spelled.{four_back, length-four, four_here, two_here, four_fits}
use Rattle.pcap_frames.proofs.Steps.{found_packet}

-- spelled, so read

packet_behind : (order : Order) (p : Packet) (rest : List ℕ) → packet_text order p ++ rest
    ≡ octets_in order 4 p.stamp.seconds ++ (octets_in order 4 p.stamp.part ++ (octets_in order 4 (length p.octets)
    ++ (octets_in order 4 p.original ++ (p.octets ++ rest))))
packet_behind LowFirst p rest = refl
packet_behind HighFirst p rest = refl

length-packet_text : (order : Order) (p : Packet) → length (packet_text order p) ≡ 16 + length p.octets
length-packet_text LowFirst p = omega arith
length-packet_text HighFirst p = omega arith

at_second : (order : Order) (a : ℕ) (rest : List ℕ) → number_in order 4 (octets_in order 4 a ++ rest) 4 ≡ number_in order 4 rest 0
at_second LowFirst a rest = refl
at_second HighFirst a rest = refl

at_third : (order : Order) (a b : ℕ) (rest : List ℕ) → number_in order 4 (octets_in order 4 a ++ (octets_in order 4 b ++ rest)) 8 ≡ number_in order 4 rest 0
at_third LowFirst a b rest = refl
at_third HighFirst a b rest = refl

at_fourth : (order : Order) (a b c : ℕ) (rest : List ℕ)
    → number_in order 4 (octets_in order 4 a ++ (octets_in order 4 b ++ (octets_in order 4 c ++ rest))) 12 ≡ number_in order 4 rest 0
at_fourth LowFirst a b c rest = refl
at_fourth HighFirst a b c rest = refl

captured_in-text : (order : Order) (p : Packet) (rest : List ℕ) → IsPacket p → captured_in order (packet_text order p ++ rest) ≡ length p.octets
captured_in-text order p rest is =
    let short = is.short in
    rw (packet_behind order p rest, at_third)
    (four_back order (length p.octets) (octets_in order 4 p.original ++ (p.octets ++ rest)) (omega arith))

packet_at-text : (order : Order) (at : ℕ) (p : Packet) (rest : List ℕ) → IsPacket p
    → packet_at order at (packet_text order p ++ rest) ≡ record { stamp = p.stamp; from = at + 16; len = length p.octets; original = p.original }
packet_at-text order at p rest is =
    let e0 : number_in order 4 (packet_text order p ++ rest) 0 ≡ p.stamp.seconds =
    rw (packet_behind order p rest) (four_back order p.stamp.seconds _ is.seconds) in
    let e1 : number_in order 4 (packet_text order p ++ rest) 4 ≡ p.stamp.part =
    rw (packet_behind order p rest, at_second) (four_back order p.stamp.part _ is.part) in
    let e2 = captured_in-text order p rest is in
    let e3 : number_in order 4 (packet_text order p ++ rest) 12 ≡ p.original =
    rw (packet_behind order p rest, at_fourth) (four_back order p.original _ is.original) in
    rw (e0, e1, e2, e3) refl

abbrev ok_packet : PacketAt → Result PacketAt PcapFault
ok_packet p = Ok p

packet_read-text : (order : Order) (at : ℕ) (p : Packet) (rest : List ℕ) → IsPacket p
    → packet_read order at (packet_text order p ++ rest) ≡ Ok (record { stamp = p.stamp; from = at + 16; len = length p.octets; original = p.original })
packet_read-text order at p rest is =
    let size = length-packet_text order p in
    let all = length-append (packet_text order p) rest in
    let len = captured_in-text order p rest is in
    let fits = is.short in
    let t0 : nat_lt (length (packet_text order p ++ rest)) 16 ≡ false = le-ltb _ _ (omega arith) in
    let t1 : nat_lt 262144 (captured_in order (packet_text order p ++ rest)) ≡ false = le-ltb _ _ (omega arith) in
    let t2 : nat_lt (length (packet_text order p ++ rest) - 16) (captured_in order (packet_text order p ++ rest)) ≡ false = le-ltb _ _ (omega arith) in
    rw (t0, t1, t2) (ap ok_packet (packet_at-text order at p rest is))

packets_within-none : (order : Order) (most at : ℕ) → packets_within order most at [] ≡ Ok []
packets_within-none order zero at = refl
packets_within-none order (suc most) at = refl

packets_within-step : (order : Order) (most at n : ℕ) (rest behind : List ℕ) (packet : PacketAt) (packets : List PacketAt)
    → 0 < length rest → packet_read order at rest ≡ Ok packet → captured_in order rest ≡ n → drop (16 + n) rest ≡ behind
    → packets_within order most (at + 16 + n) behind ≡ Ok packets → packets_within order (suc most) at rest ≡ Ok (packet ∷ packets)
packets_within-step order most at n rest behind packet packets some reads len moved e =
    let no_end = ne_eqb (length rest) 0 (λ z. omega arith) in
    rw (no_end, reads, len, moved, e) refl

-- the places of spelled packets
pub packets_within-text : (order : Order) (most at : ℕ) (ps : List Packet) → length (packets_text order ps) ≤ most → Each IsPacket ps
    → packets_within order most at (packets_text order ps) ≡ Ok (places_of at ps)
packets_within-text order most at [] fits each = packets_within-none order most at
packets_within-text order zero at (p ∷ ps) fits each =
    absurd (omega (arith, length-append (packet_text order p) (packets_text order ps), length-packet_text order p))
packets_within-text order (suc most) at (p ∷ ps) fits each =
    let size = length-packet_text order p in
    let all = length-append (packet_text order p) (packets_text order ps) in
    let rest = packets_within-text order most (at + 16 + length p.octets) ps (omega arith) each.1 in
    packets_within-step order most at (length p.octets) (packet_text order p ++ packets_text order ps) (packets_text order ps) _ _ (omega arith)
    (packet_read-text order at p (packets_text order ps) each.0) (captured_in-text order p (packets_text order ps) each.0)
    (drop_at (packet_text order p) (packets_text order ps) (16 + length p.octets) size) rest

-- read, so spelled

pub record FoundIn (order : Order) (at : ℕ) (octets : List ℕ) (places : List PacketAt) : Type 0 where
  pub packets : List Packet
  pub text : octets ≡ packets_text order packets
  pub found : places ≡ places_of at packets
  pub sized : Each IsPacket packets

-- the packet whose header begins here
packet_here : Order → List ℕ → Packet
packet_here order octets = record {
  stamp = record { seconds = number_in order 4 octets 0; part = number_in order 4 octets 4 };
  original = number_in order 4 octets 12;
  octets = take (captured_in order octets) (drop 16 octets);
}

packet_here-text : (order : Order) (octets : List ℕ) → AreOctets octets → 16 + captured_in order octets ≤ length octets
    → octets ≡ packet_text order (packet_here order octets) ++ drop (16 + captured_in order octets) octets
unfolding packet_here
packet_here-text order octets o fits =
    let taken = length-take-le (captured_in order octets) (drop 16 octets) (omega (arith, length-drop {A = ℕ})) in
    let body : drop 16 octets ≡ take (captured_in order octets) (drop 16 octets) ++ drop (16 + captured_in order octets) octets =
    sym (take-append-drop (captured_in order octets) (drop 16 octets))
    ∙ ap (λ (x : List ℕ). take (captured_in order octets) (drop 16 octets) ++ x) (drop-drop (captured_in order octets) 16 octets) in
    four_here order 0 octets o (omega arith)
    ∙ ap (λ (x : List ℕ). octets_in order 4 (number_in order 4 octets 0) ++ x) (four_here order 4 octets o (omega arith)
    ∙ ap (λ (x : List ℕ). octets_in order 4 (number_in order 4 octets 4) ++ x) (four_here order 8 octets o (omega arith)
    ∙ ap (λ (x : List ℕ). octets_in order 4 (captured_in order octets) ++ x) (four_here order 12 octets o (omega arith)
    ∙ ap (λ (x : List ℕ). octets_in order 4 (number_in order 4 octets 12) ++ x) body)))
    ∙ ap (λ (n : ℕ). octets_in order 4 (number_in order 4 octets 0) ++ (octets_in order 4 (number_in order 4 octets 4) ++ (octets_in order 4 n
    ++ (octets_in order 4 (number_in order 4 octets 12) ++ (take (captured_in order octets) (drop 16 octets) ++ drop (16 + captured_in order octets) octets))))) (sym taken)
    ∙ sym (packet_behind order (packet_here order octets) (drop (16 + captured_in order octets) octets))

record More (r : Result PacketAt PcapFault) (b : Result (List PacketAt) PcapFault) (places : List PacketAt) : Type 0 where
  packet : PacketAt
  behind : List PacketAt
  read : r ≡ Ok packet
  rest : b ≡ Ok behind
  all : places ≡ packet ∷ behind

within_inverts : (none : Bool) (r : Result PacketAt PcapFault) (b : Result (List PacketAt) PcapFault) (places : List PacketAt)
    → (if none then Ok [] else joined r b) ≡ Ok places → ((none ≡ true) × (places ≡ [])) ⊎ ((none ≡ false) × More r b places)
within_inverts true r b places e = inl (refl, cc)
within_inverts false (Ok p) (Ok ps) places e = inr (refl, record { packet = p; behind = ps; read = refl; rest = refl; all = cc })
within_inverts false (Ok p) (Err f) places e = cc
within_inverts false (Err f) b places e = cc

nothing : (octets : List ℕ) → length octets ≡ 0 → octets ≡ []
nothing [] e = refl
nothing (x ∷ xs) e = absurd (omega arith)

packet_here-is : (order : Order) (octets : List ℕ) → AreOctets octets → 16 + captured_in order octets ≤ length octets
    → captured_in order octets ≤ 262144 → IsPacket (packet_here order octets)
unfolding packet_here
packet_here-is order octets o fits short =
    let taken = length-take-le (captured_in order octets) (drop 16 octets) (omega (arith, length-drop {A = ℕ})) in
    record {
      seconds = four_fits order 0 octets o;
      part = four_fits order 4 octets o;
      original = four_fits order 12 octets o;
      short = omega arith;
    }

found_one : (order : Order) (at : ℕ) (octets : List ℕ) (places behind : List PacketAt) (packet : PacketAt) → AreOctets octets
    → Ok packet ≡ packet_read order at octets → captured_in order octets ≤ 262144 → places ≡ packet ∷ behind
    → FoundIn order (at + 16 + captured_in order octets) (drop (16 + captured_in order octets) octets) behind → FoundIn order at octets places
unfolding packet_here
found_one order at octets places behind packet o reads short all f =
    let found = found_packet order at octets packet reads in
    let taken = length-take-le (captured_in order octets) (drop 16 octets) (omega (arith, length-drop {A = ℕ})) in
    record {
      packets = packet_here order octets ∷ f.packets;
      text = packet_here-text order octets o found.0 ∙ ap (λ (x : List ℕ). packet_text order (packet_here order octets) ++ x) f.text;
      found = all ∙ ap (λ (p : PacketAt). p ∷ behind) found.1
          ∙ ap (λ (ps : List PacketAt). packet_at order at octets ∷ ps) f.found
          ∙ ap (λ (n : ℕ). (record { stamp = record { seconds = number_in order 4 octets 0; part = number_in order 4 octets 4 }; from = at + 16; len = n; original = number_in order 4 octets 12 })
          ∷ places_of (at + 16 + n) f.packets) (sym taken);
      sized = (packet_here-is order octets o found.0 short, f.sized);
    }

short_test : (short long cut : Bool) (at : ℕ) (p q : PacketAt)
    → Ok q ≡ (if short then Err (RecordCut at) else if long then Err (RecordTooLong at) else if cut then Err (RecordCut at) else Ok p) → long ≡ false
short_test true long cut at p q e = cc
short_test false true cut at p q e = cc
short_test false false cut at p q e = refl

is_short : (order : Order) (at : ℕ) (octets : List ℕ) (packet : PacketAt) → Ok packet ≡ packet_read order at octets → captured_in order octets ≤ 262144
is_short order at octets packet e =
    ltb-false 262144 (captured_in order octets)
    (short_test (nat_lt (length octets) 16) (nat_lt 262144 (captured_in order octets)) (nat_lt (length octets - 16) (captured_in order octets)) at (packet_at order at octets) packet e)

-- what was read is spelled
pub packets_within-found : (order : Order) (most at : ℕ) (octets : List ℕ) (places : List PacketAt) → AreOctets octets → length octets ≤ most
    → packets_within order most at octets ≡ Ok places → FoundIn order at octets places
packets_within-found order zero at octets places o few e =
    record { packets = []; text = nothing octets (omega arith); found = cc; sized = tt }
packets_within-found order (suc most) at octets places o few e =
    elim (within_inverts (length octets == 0) (packet_read order at octets)
    (packets_within order most (at + 16 + captured_in order octets) (drop (16 + captured_in order octets) octets)) places e) [
      | inl ends ↦ record { packets = []; text = nothing octets (eqb-true (length octets) 0 ends.0); found = ends.1; sized = tt }
      | inr on ↦
          found_one order at octets places on.1.behind on.1.packet o (sym on.1.read) (is_short order at octets on.1.packet (sym on.1.read)) on.1.all
          (packets_within-found order most (at + 16 + captured_in order octets) (drop (16 + captured_in order octets) octets) on.1.behind
          (AreOctets-drop (16 + captured_in order octets) octets o) (omega (arith, length-drop {A = ℕ})) on.1.rest)
    ]

-- the header

magic_in-text : (order : Order) (nanos : Bool) (rest : List ℕ) → magic_in (octets_in order 4 (magic_of nanos) ++ rest) ≡ Some (order, nanos)
magic_in-text LowFirst false rest = refl
magic_in-text LowFirst true rest = refl
magic_in-text HighFirst false rest = refl
magic_in-text HighFirst true rest = refl

version_text : (order : Order) (nanos : Bool) (rest : List ℕ)
    → (number_in order 2 (octets_in order 4 (magic_of nanos) ++ (octets_in order 2 2 ++ (octets_in order 2 4 ++ rest))) 4 == 2
    && number_in order 2 (octets_in order 4 (magic_of nanos) ++ (octets_in order 2 2 ++ (octets_in order 2 4 ++ rest))) 6 == 4) ≡ true
version_text LowFirst nanos rest = refl
version_text HighFirst nanos rest = refl

behind_version : (order : Order) (nanos : Bool) (rest : List ℕ)
    → drop 8 (octets_in order 4 (magic_of nanos) ++ (octets_in order 2 2 ++ (octets_in order 2 4 ++ rest))) ≡ rest
behind_version LowFirst nanos rest = refl
behind_version HighFirst nanos rest = refl

drop_four : (order : Order) (v : ℕ) (rest : List ℕ) → drop 4 (octets_in order 4 v ++ rest) ≡ rest
drop_four LowFirst v rest = refl
drop_four HighFirst v rest = refl

number_in-drop' : (order : Order) (n at : ℕ) (octets : List ℕ) → number_in order n octets at ≡ number_in order n (drop at octets) 0
number_in-drop' LowFirst n at octets = refl
number_in-drop' HighFirst n at octets = refl

-- a capture with its parts grouped as they are read
head_behind : (order : Order) (nanos : Bool) (ignored rest : List ℕ) → head_text order nanos ignored ++ rest
    ≡ octets_in order 4 (magic_of nanos) ++ (octets_in order 2 2 ++ (octets_in order 2 4 ++ (ignored ++ (octets_in order 4 1 ++ rest))))
head_behind order nanos ignored rest = simp append_assoc

capture_by-reads : (octets : List ℕ) (order : Order) (nanos : Bool)
    → (number_in order 2 octets 4 == 2 && number_in order 2 octets 6 == 4) ≡ true → number_in order 4 octets 20 ≡ 1
    → capture_by octets (Some (order, nanos)) ≡ capture_of nanos (packets_within order (length octets) 24 (drop 24 octets))
capture_by-reads octets order nanos version link = rw (version, link) refl

-- what is spelled so is read
pub capture_read-only : (octets : List ℕ) (nanos : Bool) (packets : List Packet) → IsCapture octets nanos packets
    → capture_read octets ≡ Ok (record { nanos = nanos; packets = places_of 24 packets })
capture_read-only octets nanos packets c =
    let ps = packets_text c.order packets in
    let e = c.text ∙ head_behind c.order nanos c.ignored (packets_text c.order packets) in
    let magic = ap magic_in e ∙ magic_in-text c.order nanos _ in
    let version = ap (λ (x : List ℕ). number_in c.order 2 x 4 == 2 && number_in c.order 2 x 6 == 4) e ∙ version_text c.order nanos _ in
    let d8 = ap (drop 8) e ∙ behind_version c.order nanos (c.ignored ++ (octets_in c.order 4 1 ++ packets_text c.order packets)) in
    let d20 = sym (drop-drop 12 8 octets) ∙ ap (drop 12) d8 ∙ drop_at c.ignored (octets_in c.order 4 1 ++ packets_text c.order packets) 12 c.twelve in
    let d24 = sym (drop-drop 4 20 octets) ∙ ap (drop 4) d20 ∙ drop_four c.order 1 (packets_text c.order packets) in
    let link = number_in-drop' c.order 4 20 octets ∙ ap (λ (x : List ℕ). number_in c.order 4 x 0) d20 ∙ four_back c.order 1 (packets_text c.order packets) (omega arith) in
    let behind = ap length d20 in
    let all = length-append (octets_in c.order 4 1) (packets_text c.order packets) in
    let four = length-four c.order 1 in
    let left = length-drop 20 octets in
    let long : nat_lt (length octets) 24 ≡ false = le-ltb _ _ (omega arith) in
    let read = packets_within-text c.order (length octets) 24 packets (omega arith) c.sized in
    rw (long, magic) (capture_by-reads octets c.order nanos version link
    ∙ ap (λ (x : List ℕ). capture_of nanos (packets_within c.order (length octets) 24 x)) d24 ∙ ap (capture_of nanos) read)

and_true : (a b : Bool) → (a && b) ≡ true → (a ≡ true) × (b ≡ true)
and_true true true e = (refl, refl)
and_true true false e = cc
and_true false b e = cc

long_test : (short : Bool) (at : ℕ) (r : Result Capture PcapFault) (capture : Capture)
    → (if short then Err (Short at) else r) ≡ Ok capture → (short ≡ false) × (r ≡ Ok capture)
long_test true at r capture e = cc
long_test false at r capture e = (refl, e)

record Tests (version link : Bool) (r : Result (List PacketAt) PcapFault) (nanos : Bool) (capture : Capture) : Type 0 where
  is_version : version ≡ true
  is_link : link ≡ true
  places : r ≡ Ok capture.packets
  same : capture.nanos ≡ nanos

head_tests : (version link : Bool) (r : Result (List PacketAt) PcapFault) (nanos : Bool) (capture : Capture)
    → (if not version then Err Version else if not link then Err LinkType else capture_of nanos r) ≡ Ok capture → Tests version link r nanos capture
head_tests false link r nanos capture e = cc
head_tests true false r nanos capture e = cc
head_tests true true (Err f) nanos capture e = cc
head_tests true true (Ok ps) nanos capture e =
    let same : record { nanos = nanos; packets = ps } ≡ capture = cc in
    record { is_version = refl; is_link = refl; places = ap (λ (c : Capture). Ok c.packets) same; same = ap (λ (c : Capture). c.nanos) (sym same) }

record ByMagic (octets : List ℕ) (capture : Capture) : Type 0 where
  order : Order
  magic : magic_in octets ≡ Some (order, capture.nanos)
  major : number_in order 2 octets 4 ≡ 2
  minor : number_in order 2 octets 6 ≡ 4
  link : number_in order 4 octets 20 ≡ 1
  places : packets_within order (length octets) 24 (drop 24 octets) ≡ Ok capture.packets

by_magic : (octets : List ℕ) (m : Option (Order × Bool)) (capture : Capture) → magic_in octets ≡ m → capture_by octets m ≡ Ok capture → ByMagic octets capture
by_magic octets None capture is e = cc
by_magic octets (Some m) capture is e =
    let t = head_tests (number_in m.0 2 octets 4 == 2 && number_in m.0 2 octets 6 == 4) (number_in m.0 4 octets 20 == 1)
    (packets_within m.0 (length octets) 24 (drop 24 octets)) m.1 capture e in
    let v = and_true (number_in m.0 2 octets 4 == 2) (number_in m.0 2 octets 6 == 4) t.is_version in
    record {
      order = m.0;
      magic = is ∙ ap (λ (n : Bool). Some (m.0, n)) (sym t.same);
      major = eqb-true (number_in m.0 2 octets 4) 2 v.0;
      minor = eqb-true (number_in m.0 2 octets 6) 4 v.1;
      link = eqb-true (number_in m.0 4 octets 20) 1 t.is_link;
      places = t.places;
    }

abbrev known : Order → Bool → Option (Order × Bool)
known order nanos = Some (order, nanos)

pair_same : (p q : Order × Bool) → Some p ≡ Some q → p ≡ q
pair_same p q e = cc

known_same : (o p : Order) (m n : Bool) → known o m ≡ known p n → (p ≡ o) × (n ≡ m)
known_same o p m n e =
    let same = pair_same (o, m) (p, n) e in
    (ap (λ (x : Order × Bool). x.0) (sym same), ap (λ (x : Order × Bool). x.1) (sym same))

magic_cases : (a b c d : Bool) (order : Order) (nanos : Bool)
    → (if a then known LowFirst false else if b then known LowFirst true else if c then known HighFirst false else if d then known HighFirst true else None) ≡ known order nanos
    → ((a ≡ true) × (order ≡ LowFirst) × (nanos ≡ false)) ⊎ (((b ≡ true) × (order ≡ LowFirst) × (nanos ≡ true))
    ⊎ (((c ≡ true) × (order ≡ HighFirst) × (nanos ≡ false)) ⊎ ((d ≡ true) × (order ≡ HighFirst) × (nanos ≡ true))))
magic_cases true b c d order nanos e = let k = known_same LowFirst order false nanos e in inl (refl, k.0, k.1)
magic_cases false true c d order nanos e = let k = known_same LowFirst order true nanos e in inr (inl (refl, k.0, k.1))
magic_cases false false true d order nanos e = let k = known_same HighFirst order false nanos e in inr (inr (inl (refl, k.0, k.1)))
magic_cases false false false true order nanos e = let k = known_same HighFirst order true nanos e in inr (inr (inr (refl, k.0, k.1)))
magic_cases false false false false order nanos e = cc

-- the magic number that was found stands at the head
magic_stands : (octets : List ℕ) (order : Order) (nanos : Bool) → magic_in octets ≡ Some (order, nanos) → number_in order 4 octets 0 ≡ magic_of nanos
magic_stands octets order nanos e =
    elim (magic_cases (number_in LowFirst 4 octets 0 == magic_of false) (number_in LowFirst 4 octets 0 == magic_of true)
    (number_in HighFirst 4 octets 0 == magic_of false) (number_in HighFirst 4 octets 0 == magic_of true) order nanos e) [
      | inl a ↦ rw (a.1, a.2) (eqb-true _ _ a.0)
      | inr x ↦ elim x [
        | inl b ↦ rw (b.1, b.2) (eqb-true _ _ b.0)
        | inr y ↦ elim y [
          | inl c ↦ rw (c.1, c.2) (eqb-true _ _ c.0)
          | inr d ↦ rw (d.1, d.2) (eqb-true _ _ d.0)
        ]
      ]
    ]

head_text-here : (octets : List ℕ) (order : Order) (nanos : Bool) → AreOctets octets → 24 ≤ length octets → number_in order 4 octets 0 ≡ magic_of nanos
    → number_in order 2 octets 4 ≡ 2 → number_in order 2 octets 6 ≡ 4 → number_in order 4 octets 20 ≡ 1
    → octets ≡ head_text order nanos (take 12 (drop 8 octets)) ++ drop 24 octets
head_text-here octets order nanos o long magic major minor link =
    let ignored : drop 8 octets ≡ take 12 (drop 8 octets) ++ drop 20 octets =
    sym (take-append-drop 12 (drop 8 octets)) ∙ ap (λ (x : List ℕ). take 12 (drop 8 octets) ++ x) (drop-drop 12 8 octets) in
    let last = four_here order 20 octets o (omega arith) ∙ ap (λ (v : ℕ). octets_in order 4 v ++ drop 24 octets) link in
    let third = two_here order 6 octets o (omega arith) ∙ ap (λ (v : ℕ). octets_in order 2 v ++ drop 8 octets) minor
    ∙ ap (λ (x : List ℕ). octets_in order 2 4 ++ x) (ignored ∙ ap (λ (x : List ℕ). take 12 (drop 8 octets) ++ x) last) in
    let second = two_here order 4 octets o (omega arith) ∙ ap (λ (v : ℕ). octets_in order 2 v ++ drop 6 octets) major
    ∙ ap (λ (x : List ℕ). octets_in order 2 2 ++ x) third in
    four_here order 0 octets o (omega arith) ∙ ap (λ (v : ℕ). octets_in order 4 v ++ drop 4 octets) magic
    ∙ ap (λ (x : List ℕ). octets_in order 4 (magic_of nanos) ++ x) second
    ∙ sym (head_behind order nanos (take 12 (drop 8 octets)) (drop 24 octets))

-- what was read is spelled
pub capture_read-found : (octets : List ℕ) (capture : Capture) → AreOctets octets → capture_read octets ≡ Ok capture
    → (packets : List Packet) × IsCapture octets capture.nanos packets × (capture.packets ≡ places_of 24 packets)
capture_read-found octets capture o e =
    let t = long_test (nat_lt (length octets) 24) (length octets) (capture_by octets (magic_in octets)) capture e in
    let long = ltb-false (length octets) 24 t.0 in
    let m = by_magic octets (magic_in octets) capture refl t.1 in
    let f = packets_within-found m.order (length octets) 24 (drop 24 octets) capture.packets (AreOctets-drop 24 octets o) (omega (arith, length-drop {A = ℕ})) m.places in (
      f.packets,
      record {
        order = m.order;
        ignored = take 12 (drop 8 octets);
        text = head_text-here octets m.order capture.nanos o long (magic_stands octets m.order capture.nanos m.magic) m.major m.minor m.link
            ∙ ap (λ (x : List ℕ). head_text m.order capture.nanos (take 12 (drop 8 octets)) ++ x) f.text;
        twelve = length-take-le 12 (drop 8 octets) (omega (arith, length-drop {A = ℕ}));
        sized = f.sized;
      },
      f.found,
    )

pub found_in : (octets : List ℕ) (r : Result Capture PcapFault) → AreOctets octets → UnlessNoMemory r (r ≡ capture_read octets)
    → IfOk r (λ capture. (packets : List Packet) × IsCapture octets capture.nanos packets × (capture.packets ≡ places_of 24 packets))
found_in octets (Ok capture) o e = capture_read-found octets capture o (sym e)
found_in octets (Err f) o e = tt

pub only_in : (octets : List ℕ) (r : Result Capture PcapFault) (nanos : Bool) (packets : List Packet) → UnlessNoMemory r (r ≡ capture_read octets)
    → IsCapture octets nanos packets → UnlessNoMemory r (r ≡ Ok (record { nanos = nanos; packets = places_of 24 packets }))
only_in octets (Ok x) nanos packets e c = e ∙ capture_read-only octets nanos packets c
only_in octets (Err (Short at)) nanos packets e c = e ∙ capture_read-only octets nanos packets c
only_in octets (Err Magic) nanos packets e c = e ∙ capture_read-only octets nanos packets c
only_in octets (Err Version) nanos packets e c = e ∙ capture_read-only octets nanos packets c
only_in octets (Err LinkType) nanos packets e c = e ∙ capture_read-only octets nanos packets c
only_in octets (Err (RecordCut at)) nanos packets e c = e ∙ capture_read-only octets nanos packets c
only_in octets (Err (RecordTooLong at)) nanos packets e c = e ∙ capture_read-only octets nanos packets c
only_in octets (Err NoMemory) nanos packets e c = tt

-- a capture that was written reads back as its packets
pub IsCapture-written : (packets : List Packet) → Each IsPacket packets → IsCapture (saved packets) false packets
IsCapture-written packets sized = record {
  order = LowFirst;
  ignored = 0 ∷ 0 ∷ 0 ∷ 0 ∷ 0 ∷ 0 ∷ 0 ∷ 0 ∷ 255 ∷ 255 ∷ 0 ∷ 0 ∷ [];
  text = refl;
  twelve = refl;
  sized = sized;
}

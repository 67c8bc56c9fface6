-- The fragments of a packet, taken in order, give that packet.
use Rattle.std.proofs.Common.{◌≡◌, ℕ, zero, suc, ◌+◌, ◌-◌, ◌*◌, ◌/◌, ◌%◌, ◌<◌, ◌≤◌, true, false, List, [], ◌++◌, length, take, drop, refl, ap, sym, ◌∙◌, arith, take-append-drop, length-take-le, length-drop, length-take, inl, inr}
use Rattle.std.specs.Prelude.{Option, None, Some, nat_le}
use Rattle.std.proofs.lemmas.Bool.{cases_lt, eq-eqb, ne_eqb, le-ltb, lt-ltb, le-leb, lt-leb}
use Rattle.std.proofs.lemmas.List.{take_all, take-take, drop-take}
use Rattle.eoe.specs.declared.joining.Joined.{Joined}
use Rattle.eoe.specs.declared.joining.Joined.TheVariants.{More, Whole}
use Rattle.eoe.specs.declared.joining.Unfinished.{Unfinished}
use Rattle.eoe.specs.Cutting.{blocks_of, fragment_at, fragments_from, fragments_of}
use Rattle.eoe.specs.Joining.{extended, awaited, finished, taken, taken_by, joins, GivesWhole}

-- a packet of which the octets before `at` came, and whose fragment `k` is here
abbrev base : List ℕ → ℕ → ℕ → ℕ → Unfinished
base packet frame k at = record {
  frame = frame;
  number = k;
  blocks = blocks_of (length packet);
  size = at;
  octets = record { items = take at packet };
}

take_join : (packet : List ℕ) (at size : ℕ) → take at packet ++ take size (drop at packet) ≡ take (at + size) packet
take_join packet at size =
    let front = take-take at (at + size) packet (omega arith) in
    ap (λ (x : List ℕ). x ++ take size (drop at packet)) (sym front)
    ∙ ap (λ (x : List ℕ). take at (take (at + size) packet) ++ x) (sym (drop-take at size packet))
    ∙ take-append-drop at (take (at + size) packet)

-- octets that still fit are joined
extend_join : (packet : List ℕ) (frame k at size : ℕ) → length packet ≤ 1514 → at ≤ length packet
    → extended (base packet frame k at) (take size (drop at packet)) ≡ take (at + size) packet
extend_join packet frame k at size greatest inside =
    let part = length-take size (drop at packet) in
    let left = length-drop at packet in
    let fits : nat_le (at + length (take size (drop at packet))) 1514 ≡ true = le-leb _ _ (omega arith) in
    rw fits (take_join packet at size)

-- a packet of a fitting size that has its blocks is whole
is_whole : (packet : List ℕ) (frame k : ℕ) → 14 ≤ length packet → length packet ≤ 1514
    → finished (record { frame = frame; number = k; blocks = blocks_of (length packet); size = length packet; octets = record { items = packet } })
    ≡ Whole (record { items = packet })
is_whole packet frame k least greatest =
    let low : nat_le 14 (length packet) ≡ true = le-leb _ _ least in
    let high : nat_le (length packet) 1514 ≡ true = le-leb _ _ greatest in
    let same = eq-eqb (blocks_of (length packet)) (blocks_of (length packet)) refl in
    rw (low, high, same) refl

-- the last fragment makes the packet whole
last_taken : (s : Option Unfinished) (packet : List ℕ) (size frame k at : ℕ) → 14 ≤ length packet → length packet ≤ 1514
    → at < length packet → length packet ≤ at + size → awaited s (fragment_at packet size frame k at) ≡ Some (base packet frame k at)
    → taken s (fragment_at packet size frame k at) ≡ record { unfinished = None; joined = Whole (record { items = packet }) }
last_taken s packet size frame k at least greatest inside ends e =
    let last : nat_le (length packet) (at + size) ≡ true = le-leb _ _ ends in
    let left = length-drop at packet in
    let bytes = take_all size (drop at packet) (omega arith) in
    let whole : at + length (drop at packet) ≡ length packet = omega arith in
    let size_is : at + length (take size (drop at packet)) ≡ length packet = ap (λ (x : List ℕ). at + length x) bytes ∙ whole in
    let octets_are : extended (base packet frame k at) (take size (drop at packet)) ≡ packet =
    extend_join packet frame k at size greatest (omega arith) ∙ take_all (at + size) packet ends in
    ap (taken_by (fragment_at packet size frame k at)) e
    ∙ rw (last, octets_are, size_is) (ap (λ (j : Joined). record { unfinished = None; joined = j }) (is_whole packet frame k least greatest))

-- another fragment leaves the packet with its octets
more_taken : (s : Option Unfinished) (packet : List ℕ) (size frame k at : ℕ) → length packet ≤ 1514
    → at + size < length packet → awaited s (fragment_at packet size frame k at) ≡ Some (base packet frame k at)
    → taken s (fragment_at packet size frame k at)
    ≡ record { unfinished = Some (record (base packet frame k at) { size = at + size; octets = record { items = take (at + size) packet } }); joined = More }
more_taken s packet size frame k at greatest goes e =
    let more : nat_le (length packet) (at + size) ≡ false = lt-leb _ _ goes in
    let left = length-drop at packet in
    let bytes = length-take-le size (drop at packet) (omega arith) in
    let octets_are = extend_join packet frame k at size greatest (omega arith) in
    ap (taken_by (fragment_at packet size frame k at)) e ∙ rw (more, octets_are, bytes) refl

-- then the next one is awaited
next_awaited : (packet : List ℕ) (size frame k at : ℕ) → (at + size) % 32 ≡ 0
    → awaited (Some (record (base packet frame k at) { size = at + size; octets = record { items = take (at + size) packet } })) (fragment_at packet size frame (k + 1) (at + size))
    ≡ Some (base packet frame (k + 1) (at + size))
next_awaited packet size frame k at blocks =
    let other = ne_eqb (k + 1) 0 (λ z. omega arith) in
    let same = eq-eqb frame frame refl in
    let number = eq-eqb (k + 1) (k + 1) refl in
    let place = eq-eqb (32 * ((at + size) / 32)) (at + size) (omega arith) in
    rw (other, same, number, place) refl

no_more : (most : ℕ) (packet : List ℕ) (size frame k at : ℕ) → length packet ≤ at → fragments_from packet size frame most k at ≡ []
no_more zero packet size frame k at ends = refl
no_more (suc most) packet size frame k at ends =
    let past = le-ltb at (length packet) ends in
    rw past refl

from_here : (most : ℕ) (s : Option Unfinished) (packet : List ℕ) (size frame k at : ℕ) → 14 ≤ length packet → length packet ≤ 1514
    → 32 ≤ size → size % 32 ≡ 0 → at % 32 ≡ 0 → at < length packet → length packet ≤ at + most
    → awaited s (fragment_at packet size frame k at) ≡ Some (base packet frame k at)
    → GivesWhole packet (joins s (fragments_from packet size frame most k at))
from_here zero s packet size frame k at least greatest big whole blocks inside enough e = absurd (omega arith)
from_here (suc most) s packet size frame k at least greatest big whole blocks inside enough e =
    let here = lt-ltb at (length packet) inside in
    elim (cases_lt (at + size) (length packet)) [
      | inl goes ↦
          let step = more_taken s packet size frame k at greatest goes e in
          rw (here, step) (from_here most _ packet size frame (k + 1) (at + size) least greatest big whole (omega arith) goes (omega arith)
          (next_awaited packet size frame k at (omega arith)))
      | inr ends ↦
          let step = last_taken s packet size frame k at least greatest inside ends e in
          let none = no_more most packet size frame (k + 1) (at + size) ends in
          rw (here, step, none) refl
    ]

-- the fragments of every packet of 14 to 1,514 octets, for every size of whole blocks, whatever came before
pub fragments_give_the_packet : (before : Option Unfinished) (packet : List ℕ) (size frame : ℕ) → 14 ≤ length packet → length packet ≤ 1514
    → 32 ≤ size → size % 32 ≡ 0 → GivesWhole packet (joins before (fragments_of packet size frame))
fragments_give_the_packet before packet size frame least greatest big whole =
    from_here (length packet) before packet size frame 0 0 least greatest big whole (omega arith) (omega arith) (omega arith) refl

-- the same for every mailbox area
pub every_area_gives_the_packet : (before : Option Unfinished) (packet : List ℕ) (area frame : ℕ) → 14 ≤ length packet → length packet ≤ 1514
    → 64 ≤ area → GivesWhole packet (joins before (fragments_of packet (32 * ((area - 10) / 32)) frame))
every_area_gives_the_packet before packet area frame least greatest wide =
    fragments_give_the_packet before packet (32 * ((area - 10) / 32)) frame least greatest (omega arith) (omega arith)

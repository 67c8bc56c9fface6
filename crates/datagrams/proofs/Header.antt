-- A frame's header, and the frame behind it.
use Rattle.std.proofs.Common.{◌≡◌, ℕ, zero, suc, ◌+◌, ◌-◌, ◌*◌, ◌^◌, ◌<◌, ◌≤◌, Bool, true, false, List, [], ◌∷◌, ◌++◌, length, take, drop, get_or, refl, ap, sym, ◌∙◌, arith, append_assoc, length-drop, length-append, take-append-drop, length-take-le, lit<}
use Rattle.std.specs.Prelude.{◌==◌, if◌then◌else◌, slice_index, Result, Ok, Err, not, nat_lt, ◌&&◌, IfOk}
use Rattle.std.proofs.lemmas.Bool.{eqb-true, le-ltb, ltb-false}
use Rattle.std.proofs.lemmas.List.{get_or-drop, drop-drop, drop_at}
use Rattle.std.proofs.Math.Seq.{take-append-add}
use Rattle.ec_fields.specs.Fields.{number_at, bits_of}
use Rattle.datagrams.specs.declared.frame.Frame.{Frame}
use Rattle.datagrams.specs.declared.frame.FrameFault.{FrameFault}
use Rattle.datagrams.specs.declared.frame.FrameFault.TheVariants.{Short, NotEtherCat, WrongType, LengthWord}
use Rattle.datagrams.specs.declared.frame.Part.{Part}
use Rattle.datagrams.specs.Datagram.{Datagram}
use Rattle.datagrams.specs.Frame.{text_of, parts_of, parts_within, frame_of, frame_read, header_text, IsFrame}
use Rattle.ec_fields.proofs.Cells.{AreOctets, AreOctets-drop, two_read, next_cell, two_fits}
use Rattle.datagrams.proofs.Spelled.{pair_at}
use Rattle.datagrams.proofs.Grammar.{parts_within-text, parts_within-found, FoundIn}

-- what stands behind the addresses, as the reader looks at it
record HeaderAt (octets : List ℕ) (word : ℕ) (rest : List ℕ) : Type 0 where
  long : length octets ≡ 16 + length rest
  first : slice_index octets 12 ≡ 136
  second : slice_index octets 13 ≡ 164
  is_word : number_at 2 octets 14 ≡ word
  behind : drop 16 octets ≡ rest

header_at : (octets : List ℕ) (word : ℕ) (rest : List ℕ) → word < 2 ^ 16 → drop 12 octets ≡ header_text word ++ rest
    → HeaderAt octets word rest
header_at octets word rest fits e =
    let size = ap length e in
    record {
      long = omega (arith, length-drop 12 octets, size);
      first = sym (get_or-drop 12 octets 0 0) ∙ ap (λ (x : List ℕ). get_or x 0 0) e;
      second = sym (get_or-drop 12 octets 1 0) ∙ ap (λ (x : List ℕ). get_or x 1 0) e;
      is_word = ap (λ (x : List ℕ). number_at 2 x 0) (sym (drop-drop 2 12 octets) ∙ ap (drop 2) e) ∙ two_read word fits;
      behind = sym (drop-drop 4 12 octets) ∙ ap (drop 4) e;
    }

take_over : (n : ℕ) (xs ys : List ℕ) → length xs ≤ n → take n (xs ++ ys) ≡ xs ++ take (n - length xs) ys
take_over n xs ys h =
    let e : n ≡ length xs + (n - length xs) = omega arith in
    ap (λ (k : ℕ). take k (xs ++ ys)) e ∙ take-append-add xs ys (n - length xs)

-- what is spelled so is read
pub frame_read-only : (octets : List ℕ) (ds : List Datagram) → IsFrame octets ds
    → frame_read octets ≡ Ok (record { parts = record { items = parts_of 16 ds } })
frame_read-only octets ds f =
    let one = f.one_bit in
    let eleven = f.eleven_bits in
    let there = f.is_there in
    let h = header_at octets (f.size + 2048 * f.reserved + 4096) (text_of ds ++ f.padding) (omega arith)
    (ap (drop 12) f.text ∙ drop_at f.addresses (header_text (f.size + 2048 * f.reserved + 4096) ++ (text_of ds ++ f.padding)) 12 f.twelve) in
    let long = h.long in
    let behind = length-append (text_of ds) f.padding in
    let typed : bits_of (f.size + 2048 * f.reserved + 4096) 12 4 ≡ 1 = omega arith in
    let size : bits_of (f.size + 2048 * f.reserved + 4096) 0 11 ≡ f.size = omega arith in
    let short : nat_lt (length octets) 16 ≡ false = le-ltb _ _ (omega arith) in
    let enough : nat_lt (length octets - 16) f.size ≡ false = le-ltb _ _ (omega arith) in
    rw (
      short,
      h.first,
      h.second,
      h.is_word,
      typed,
      size,
      enough,
      h.behind,
      take_over f.size (text_of ds) f.padding f.takes_in,
      parts_within-text f.size 16 ds (take (f.size - length (text_of ds)) f.padding) f.takes_in f.datagrams f.chain,
    ) refl

-- the tests of a frame that was read
record Tests (short a b typed long : Bool) (r : Result (List Part) FrameFault) (frame : Frame) : Type 0 where
  is_long : short ≡ false
  first : a ≡ true
  second : b ≡ true
  is_typed : typed ≡ true
  is_there : long ≡ false
  parts : r ≡ Ok frame.parts.items

frame_inverts : (short a b typed long : Bool) (r : Result (List Part) FrameFault) (frame : Frame)
    → (if short then Err Short else if not (a && b) then Err NotEtherCat else if not typed then Err WrongType
    else if long then Err LengthWord else frame_of r) ≡ Ok frame → Tests short a b typed long r frame
frame_inverts true a b typed long r frame e = cc
frame_inverts false false b typed long r frame e = cc
frame_inverts false true false typed long r frame e = cc
frame_inverts false true true false long r frame e = cc
frame_inverts false true true true true r frame e = cc
frame_inverts false true true true false (Err f) frame e = cc
frame_inverts false true true true false (Ok ps) frame e =
    let same : record { parts = record { items = ps } } ≡ frame = cc in
    record {
      is_long = refl;
      first = refl;
      second = refl;
      is_typed = refl;
      is_there = refl;
      parts = ap (λ (x : Frame). Ok x.parts.items) same;
    }

four_behind : (octets : List ℕ) → AreOctets octets → 16 ≤ length octets → get_or octets 12 0 ≡ 136 → get_or octets 13 0 ≡ 164
    → drop 12 octets ≡ header_text (number_at 2 octets 14) ++ drop 16 octets
four_behind octets o long first second =
    next_cell octets _ 12 (omega arith) (next_cell octets _ 13 (omega arith) (next_cell octets _ 14 (omega arith) (next_cell octets _ 15 (omega arith) refl)))
    ∙ rw (first, second) (ap (λ (x : List ℕ). 136 ∷ 164 ∷ (x ++ drop 16 octets)) (sym (pair_at octets 14 o)))

word_typed : (w : ℕ) → w < 2 ^ 16 → bits_of w 12 4 ≡ 1 → w ≡ bits_of w 0 11 + 2048 * bits_of w 11 1 + 4096
word_typed w fits typed = omega arith

AreOctets-take : (n : ℕ) (octets : List ℕ) → AreOctets octets → AreOctets (take n octets)
AreOctets-take zero octets o i = lit< tt
AreOctets-take (suc n) [] o i = lit< tt
AreOctets-take (suc n) (x ∷ xs) o zero = o 0
AreOctets-take (suc n) (x ∷ xs) o (suc i) = AreOctets-take n xs (λ j. o (suc j)) i

-- the frame whose header says `size`, with what was found within it
frame_around : (octets : List ℕ) (size : ℕ) (parts : List Part) → AreOctets octets → 16 ≤ length octets
    → get_or octets 12 0 ≡ 136 → get_or octets 13 0 ≡ 164 → size ≡ bits_of (number_at 2 octets 14) 0 11
    → bits_of (number_at 2 octets 14) 12 4 ≡ 1 → size ≤ length octets - 16
    → (f : FoundIn 16 (take size (drop 16 octets)) parts) → IsFrame octets f.ds
frame_around octets size parts o long first second is_size typed there f =
    let word = word_typed (number_at 2 octets 14) (two_fits octets 14 o) typed in
    let word' : number_at 2 octets 14 ≡ size + 2048 * bits_of (number_at 2 octets 14) 11 1 + 4096 = rw is_size word in
    let rest : drop 16 octets ≡ text_of f.ds ++ (f.padding ++ drop size (drop 16 octets)) =
    sym (take-append-drop size (drop 16 octets)) ∙ ap (λ (x : List ℕ). x ++ drop size (drop 16 octets)) f.text
    ∙ append_assoc (text_of f.ds) f.padding (drop size (drop 16 octets)) in
    let within = ap length f.text in
    let taken = length-take-le size (drop 16 octets) (omega (arith, length-drop {A = ℕ})) in
    let padded = length-append (text_of f.ds) f.padding in
    let behind = length-append f.padding (drop size (drop 16 octets)) in
    record {
      addresses = take 12 octets;
      reserved = bits_of (number_at 2 octets 14) 11 1;
      size = size;
      padding = f.padding ++ drop size (drop 16 octets);
      text = sym (take-append-drop 12 octets) ∙ ap (λ (x : List ℕ). take 12 octets ++ x)
          (four_behind octets o long first second ∙ ap (λ (w : ℕ). header_text w ++ drop 16 octets) word'
          ∙ ap (λ (x : List ℕ). header_text (size + 2048 * bits_of (number_at 2 octets 14) 11 1 + 4096) ++ x) rest);
      twelve = length-take-le 12 octets (omega arith);
      one_bit = omega arith;
      eleven_bits = omega arith;
      takes_in = omega arith;
      is_there = omega arith;
      datagrams = f.each;
      chain = f.chain;
    }

-- what was read is spelled
pub frame_read-found : (octets : List ℕ) (frame : Frame) → AreOctets octets → frame_read octets ≡ Ok frame
    → (ds : List Datagram) × IsFrame octets ds × (frame.parts.items ≡ parts_of 16 ds)
frame_read-found octets frame o e =
    let t = frame_inverts (nat_lt (length octets) 16) (slice_index octets 12 == 136) (slice_index octets 13 == 164)
    (bits_of (number_at 2 octets 14) 12 4 == 1) (nat_lt (length octets - 16) (bits_of (number_at 2 octets 14) 0 11))
    (parts_within (bits_of (number_at 2 octets 14) 0 11) 16 (take (bits_of (number_at 2 octets 14) 0 11) (drop 16 octets))) frame e in
    let f = parts_within-found (bits_of (number_at 2 octets 14) 0 11) 16 (take (bits_of (number_at 2 octets 14) 0 11) (drop 16 octets))
    frame.parts.items (AreOctets-take (bits_of (number_at 2 octets 14) 0 11) (drop 16 octets) (AreOctets-drop 16 octets o)) t.parts in (
      f.ds,
      frame_around octets (bits_of (number_at 2 octets 14) 0 11) frame.parts.items o
          (ltb-false (length octets) 16 t.is_long) (eqb-true (slice_index octets 12) 136 t.first) (eqb-true (slice_index octets 13) 164 t.second) refl
          (eqb-true (bits_of (number_at 2 octets 14) 12 4) 1 t.is_typed)
          (ltb-false (length octets - 16) (bits_of (number_at 2 octets 14) 0 11) t.is_there) f,
      f.found,
    )

pub found_in : (octets : List ℕ) (r : Result Frame FrameFault) → AreOctets octets → r ≡ frame_read octets
    → IfOk r (λ frame. (ds : List Datagram) × IsFrame octets ds × (frame.parts.items ≡ parts_of 16 ds))
found_in octets (Ok frame) o e = frame_read-found octets frame o (sym e)
found_in octets (Err f) o e = tt

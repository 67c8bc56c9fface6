-- Hexadecimal digits: their table, and octets decoded in their place.
use Rattle.std.proofs.Common.{◌≡◌, ◌≢◌, ℕ, ◌+◌, ◌*◌, ◌%◌, ◌<◌, ◌≤◌, nat_le, Bool, true, false, ◌⊎◌, inl, inr, List, [], ◌∷◌, ◌++◌, length, map, take, drop, slice_index, slice_index_or, unwrap_or, Option, Some, None, is_some, Result, Ok, Err, refl, sym, ap, ◌∙◌, arith}
use Rattle.std.specs.Prelude.{is_ok}
use Rattle.std.specs.Result.{result_ok}
use Rattle.std.specs.List.{range_with_len, list_all}
use Rattle.std.proofs.lemmas.List.{append-nil, drop_all}
use Rattle.std.proofs.lemmas.List.Sums.{AllPass-from_list_all, list_all-from_AllPass}
use Rattle.std.proofs.lemmas.List.FromFn.{get_or-map-range_with_len}
use Rattle.hex.specs.Hex.{hex_digit_value, is_hex_digit, digit_or_error, value_at, pair_value, decode_pairs, decode_of}
use Rattle.hex.specs.declared.error.FromHexError.{FromHexError}
use Rattle.hex.proofs.Pairs.{prepend, prepend-cons_byte, cons_byte, drop-pair, decode_pairs-ok_pair, decode_pairs-err_pair, decode_start, decode_err, decode_done}
use Rattle.hex.proofs.HexLemmas.{decode_of-even, decode_of-odd, decode_of-ok, decode_of-digits}

-- the value of a character as a digit, 16 where it is none
abbrev pub value_of : ℕ → ℕ
value_of c = unwrap_or (hex_digit_value c) 16

-- the values of all octets
abbrev pub values : List ℕ
values = map value_of (range_with_len 0 256)

pub value_in : (c : ℕ) → c < 256 → slice_index_or values c 0 ≡ value_of c
value_in c lt = get_or-map-range_with_len value_of 0 256 c c 0 lt (omega arith)

-- a digit that is one
is_digit : (o : Option ℕ) (v : ℕ) → v ≡ unwrap_or o 16 → v ≤ 15 → o ≡ Some v
is_digit (Some w) v e le = ap Some (sym e)
is_digit None v e le = absurd (omega arith)

-- a digit that is none
is_none : (o : Option ℕ) (v : ℕ) → v ≡ unwrap_or o 16 → 15 < v → (o ≡ None) ⊎ ((w : ℕ) × (o ≡ Some w) × (15 < w))
is_none (Some w) v e lt = inr (w, refl, rw (← e) lt)
is_none None v e lt = inl refl

pub pair_read : (a b i h l : ℕ) → h ≡ value_of a → l ≡ value_of b → h ≤ 15 → l ≤ 15 → pair_value a b i ≡ Ok (h * 16 + l)
pair_read a b i h l eh el h15 l15 =
    let va : value_at a i ≡ Ok h = ap (digit_or_error a i) (is_digit (hex_digit_value a) h eh h15) in
    let vb : value_at b (i + 1) ≡ Ok l = ap (digit_or_error b (i + 1)) (is_digit (hex_digit_value b) l el l15) in
    rw (va, vb) refl

hex_small : (c v : ℕ) → hex_digit_value c ≡ Some v → v < 16
hex_small c v h = grind (arith)

-- a character that is no digit
no_digit : (c i v : ℕ) → v ≡ value_of c → 15 < v → (e : FromHexError) × (value_at c i ≡ Err e)
no_digit c i v e lt =
    elim (is_none (hex_digit_value c) v e lt) [
      | inl none ↦ (_, ap (digit_or_error c i) none)
      | inr some ↦ absurd (let small : some.0 < 16 = hex_small c some.0 some.1 in let big : 15 < some.0 = some.2 in omega (arith, small, big))
    ]

value_cases : (a i : ℕ) (r : Result ℕ FromHexError) → value_at a i ≡ r → ((v : ℕ) × (value_at a i ≡ Ok v)) ⊎ ((e : FromHexError) × (value_at a i ≡ Err e))
value_cases a i (Ok v) h = inl (v, h)
value_cases a i (Err e) h = inr (e, h)

-- a pair of which one character is no digit
pub pair_bad : (a b i h l : ℕ) → h ≡ value_of a → l ≡ value_of b → (15 < h) ⊎ (15 < l) → (e : FromHexError) × (pair_value a b i ≡ Err e)
pair_bad a b i h l eh el (inl high) =
    let bad = no_digit a i h eh high in
    let va : value_at a i ≡ Err bad.0 = bad.1 in
    (bad.0, rw va refl)
pair_bad a b i h l eh el (inr low) =
    let bad = no_digit b (i + 1) l el low in
    let vb : value_at b (i + 1) ≡ Err bad.0 = bad.1 in
    elim (value_cases a i (value_at a i) refl) [
      | inl good ↦ (let va : value_at a i ≡ Ok good.0 = good.1 in (bad.0, rw (va, vb) refl))
      | inr worse ↦ (let va : value_at a i ≡ Err worse.0 = worse.1 in (worse.0, rw va refl))
    ]

-- what is decoded of the first i pairs, and what of the rest
abbrev pub Decoded : List ℕ → List ℕ → ℕ → Type 0
Decoded text out i = decode_pairs 0 text ≡ prepend (take i out) (decode_pairs (2 * i) (drop (2 * i) text))

even : (text out : List ℕ) → length text ≡ 2 * length out → decode_of text ≡ decode_pairs 0 text
even text out fits = decode_of-even text (omega (arith, fits))

pub refused : (text out : List ℕ) (i : ℕ) (e : FromHexError) → length text ≡ 2 * length out → i < length out
    → pair_value (slice_index text (2 * i)) (slice_index text (2 * i + 1)) (2 * i) ≡ Err e → Decoded text out i
    → result_ok (decode_of text) ≡ None
refused text out i e fits lt bad h =
    ap result_ok (even text out fits ∙ decode_err text out i e (omega (arith, fits)) bad h)

pub whole : (text out : List ℕ) (i : ℕ) → length text ≡ 2 * length out → length out ≤ i → Decoded text out i
    → result_ok (decode_of text) ≡ Some out
whole text out i fits le h =
    ap result_ok (even text out fits ∙ decode_done text out i le (omega (arith, fits)) h)

-- a text of an odd number of characters writes no octets
pub odd : (text : List ℕ) → length text % 2 ≢ 0 → result_ok (decode_of text) ≡ None
odd text h = grind (arith)

-- a digit by its value
pub digit_told : (o : Option ℕ) (v : ℕ) → v ≡ unwrap_or o 16 → ((w : ℕ) → o ≡ Some w → w < 16) → nat_le v 15 ≡ is_some o
digit_told (Some w) v e small = let lt : w < 16 = small w refl in let same : v ≡ w = e in rw same (grind (arith))
digit_told None v e small = let same : v ≡ 16 = e in rw same refl

even_told : (text : List ℕ) (b : Bool) (r : Result (List ℕ) FromHexError) → list_all is_hex_digit text ≡ b → decode_of text ≡ r → length text % 2 ≡ 0 → b ≡ is_ok r
even_told text true r hb hr ev = let d = decode_of-digits text ev (AllPass-from_list_all is_hex_digit text hb) in ap is_ok (sym d.1 ∙ hr)
even_told text false (Ok bytes) hb hr ev = let all = list_all-from_AllPass is_hex_digit text (decode_of-ok text bytes hr).1 in cc (all, hb)
even_told text false (Err e) hb hr ev = refl

-- a text of an even number of characters writes octets where all of them are digits
pub digits_told : (text : List ℕ) → length text % 2 ≡ 0 → list_all is_hex_digit text ≡ is_ok (decode_of text)
digits_told text even = even_told text (list_all is_hex_digit text) (decode_of text) refl refl even

pub odd_told : (text : List ℕ) → length text % 2 ≢ 0 → is_ok (decode_of text) ≡ false
odd_told text h = ap is_ok (decode_of-odd text (omega (arith, h)))

-- what is decoded of the first i pairs into a list of just these octets, and what of the rest
abbrev pub Begun : List ℕ → List ℕ → ℕ → Type 0
Begun text octets i = decode_pairs 0 text ≡ prepend octets (decode_pairs (2 * i) (drop (2 * i) text))

pub begun : (text : List ℕ) → Begun text [] 0
begun text = decode_start text []

pub goes_on : (text octets : List ℕ) (i v : ℕ) → 2 * i + 1 < length text
    → pair_value (slice_index text (2 * i)) (slice_index text (2 * i + 1)) (2 * i) ≡ Ok v
    → Begun text octets i → Begun text (octets ++ v ∷ []) (i + 1)
goes_on text octets i v fits ok before =
    let rest : List ℕ = drop (2 * (i + 1)) text in
    let two : 2 * i + 2 ≡ 2 * (i + 1) = omega arith in
    let pair = ap (decode_pairs (2 * i)) (drop-pair text i fits) ∙ decode_pairs-ok_pair (2 * i) _ _ v rest ok
    ∙ ap (λ (k : ℕ). cons_byte v (decode_pairs k rest)) two in
    before ∙ ap (prepend octets) pair ∙ prepend-cons_byte octets v _

pub stops : (text octets : List ℕ) (i : ℕ) (e : FromHexError) → length text % 2 ≡ 0 → 2 * i + 1 < length text
    → pair_value (slice_index text (2 * i)) (slice_index text (2 * i + 1)) (2 * i) ≡ Err e
    → Begun text octets i → result_ok (decode_of text) ≡ None
stops text octets i e even fits bad before =
    ap result_ok (decode_of-even text even ∙ before ∙ ap (prepend octets) (ap (decode_pairs (2 * i)) (drop-pair text i fits) ∙ decode_pairs-err_pair (2 * i) _ _ e _ bad))

pub ends : (text octets : List ℕ) (i : ℕ) → length text % 2 ≡ 0 → length text ≤ 2 * i → Begun text octets i
    → result_ok (decode_of text) ≡ Some octets
unfolding decode_pairs
ends text octets i even le before =
    ap result_ok (decode_of-even text even ∙ before ∙ ap (prepend octets) (ap (decode_pairs (2 * i)) (drop_all (2 * i) text le)) ∙ ap Ok (append-nil octets))

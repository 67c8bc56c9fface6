-- Requests whose header and octets are there.
use Rattle.std.proofs.Common.{◌≡◌, refl, ℕ, ◌+◌, ◌-◌, ◌≤◌, ◌<◌, ◌⊎◌, inl, inr, Bool, true, false, nat_lt, if◌then◌else◌, List, [], ◌∷◌, ◌++◌, length, Some, None, arith}
use Rattle.std.proofs.lemmas.List.{length-append}
use Rattle.gateway_stream.specs.Cutting.{whole_of, is_header, missing, is_full, is_whole}

pub either : (b : Bool) → (b ≡ true) ⊎ (b ≡ false)
either true = inl refl
either false = inr refl

-- a header is the same, whatever stands behind it
pub header_same : (a b : List ℕ) → 2 ≤ length a → (is_header (a ++ b) ≡ is_header a) × (whole_of (a ++ b) ≡ whole_of a)
header_same [] b two = absurd (grind arith)
header_same (x ∷ []) b two = absurd (grind arith)
header_same (x ∷ y ∷ r) b two = (refl, refl)

-- a whole request stands at the front
pub record Whole (octets : List ℕ) : Type 0 where
  pub two : 2 ≤ length octets
  pub ok : is_header octets ≡ true
  pub fits : whole_of octets ≤ length octets

full_is :
    (short ok : Bool) (few left : ℕ) → is_full (if short then Some few else if ok then Some left else None) ≡ true
    → ((short ≡ true) × (few ≡ 0)) ⊎ ((short ≡ false) × (ok ≡ true) × (left ≡ 0))
full_is true ok few left e = inl (refl, grind arith)
full_is false true few left e = inr (refl, refl, grind arith)
full_is false false few left e = absurd (cc)

pub whole_is : (octets : List ℕ) → is_whole octets ≡ true → Whole octets
whole_is octets e =
    elim (full_is (nat_lt (length octets) 2) (is_header octets) (2 - length octets) (whole_of octets - length octets) e) [
      | inl w ↦ absurd (grind arith)
      | inr w ↦ record { two = grind arith; ok = w.1; fits = omega (arith, w.2) }
    ]

full_when : (short ok : Bool) (few left : ℕ) → short ≡ false → ok ≡ true → left ≡ 0 → is_full (if short then Some few else if ok then Some left else None) ≡ true
full_when short ok few left s o l = rw (s, o, l) refl

pub is_whole_when : (octets : List ℕ) → Whole octets → is_whole octets ≡ true
is_whole_when octets w =
    let two : 2 ≤ length octets = w.two in
    let fits : whole_of octets ≤ length octets = w.fits in
    full_when (nat_lt (length octets) 2) (is_header octets) (2 - length octets) (whole_of octets - length octets) (grind arith) w.ok
    (omega (arith, fits))

-- what was asked for
pub record Asked (kept : List ℕ) (most : ℕ) : Type 0 where
  pub cases : ((length kept < 2) × (most ≡ 2 - length kept)) ⊎ ((2 ≤ length kept) × (is_header kept ≡ true) × (most ≡ whole_of kept - length kept))

asked_by :
    (short ok : Bool) (few left most : ℕ) → (if short then Some few else if ok then Some left else None) ≡ Some most
    → ((short ≡ true) × (most ≡ few)) ⊎ ((short ≡ false) × (ok ≡ true) × (most ≡ left))
asked_by true ok few left most e = inl (refl, cc)
asked_by false true few left most e = inr (refl, refl, cc)
asked_by false false few left most e = absurd (cc)

pub asked : (kept : List ℕ) (most : ℕ) → missing kept ≡ Some most → Asked kept most
asked kept most e =
    elim (asked_by (nat_lt (length kept) 2) (is_header kept) (2 - length kept) (whole_of kept - length kept) most e) [
      | inl w ↦ record { cases = inl (grind arith, w.1) }
      | inr w ↦ record { cases = inr (grind arith, w.1, w.2) }
    ]

-- octets that were asked for
pub record Extends (kept piece : List ℕ) : Type 0 where
  pub most : ℕ
  pub asked : missing kept ≡ Some most
  pub some : 1 ≤ length piece
  pub few : length piece ≤ most

-- behind a whole request of octets that were asked for there is nothing
pub whole_exact : (kept piece : List ℕ) → Extends kept piece → is_whole (kept ++ piece) ≡ true → whole_of (kept ++ piece) ≡ length (kept ++ piece)
whole_exact kept piece x e =
    let w : Whole (kept ++ piece) = whole_is (kept ++ piece) e in
    let fits : whole_of (kept ++ piece) ≤ length (kept ++ piece) = w.fits in
    let two : 2 ≤ length (kept ++ piece) = w.two in
    let few : length piece ≤ x.most = x.few in
    let some : 1 ≤ length piece = x.some in
    let long : length (kept ++ piece) ≡ length kept + length piece = length-append kept piece in
    elim (asked kept x.most x.asked).cases [
      | inl a ↦
          let short : length kept < 2 = a.0 in
          let most : x.most ≡ 2 - length kept = a.1 in
          omega (arith, fits, two, few, long, short, most)
      | inr a ↦
          let most : x.most ≡ whole_of kept - length kept = a.2 in
          let same : whole_of (kept ++ piece) ≡ whole_of kept = (header_same kept piece a.0).1 in
          omega (arith, fits, few, some, long, most, same)
    ]

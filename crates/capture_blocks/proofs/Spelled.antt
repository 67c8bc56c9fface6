-- Numbers as octets, and what octets read as.
use Rattle.std.proofs.Common.{◌≡◌, ℕ, ◌+◌, ◌*◌, ◌/◌, ◌%◌, ◌^◌, ◌<◌, ◌≤◌, List, [], ◌∷◌, ◌++◌, length, drop, get_or, refl, ap, sym, ◌∙◌, arith, length-drop}
use Rattle.std.proofs.lemmas.List.{drop-drop}
use Rattle.byteorder.specs.Endian.{big_bytes}
use Rattle.byteorder.specs.Numbers.{little_number-reads_back, big_number-reads_back}
use Rattle.ec_fields.proofs.Cells.{AreOctets, AreOctets-drop, two_cells, four_cells, two_first as low_first_two, four_first as low_first, four_fits as low_fits}
use Rattle.capture_blocks.specs.declared.order.Order.{Order}
use Rattle.capture_blocks.specs.declared.order.Order.TheVariants.{LowFirst, HighFirst}
use Rattle.capture_blocks.specs.Order.{number_in, octets_in}

-- a number that was written is read
pub four_back : (order : Order) (v : ℕ) (rest : List ℕ) → v < 2 ^ 32 → number_in order 4 (octets_in order 4 v ++ rest) 0 ≡ v
four_back LowFirst v rest h = little_number-reads_back 4 v rest h
four_back HighFirst v rest h = big_number-reads_back 4 v rest h

pub length-four : (order : Order) (v : ℕ) → length (octets_in order 4 v) ≡ 4
length-four LowFirst v = refl
length-four HighFirst v = refl

pub length-two : (order : Order) (v : ℕ) → length (octets_in order 2 v) ≡ 2
length-two LowFirst v = refl
length-two HighFirst v = refl

-- a number at a place is that of the octets from there on
pub number_in-drop : (order : Order) (n at : ℕ) (octets : List ℕ) → number_in order n octets at ≡ number_in order n (drop at octets) 0
number_in-drop LowFirst n at octets = refl
number_in-drop HighFirst n at octets = refl

high_four : (a b c d : ℕ) → a < 256 → b < 256 → c < 256 → d < 256
    → big_bytes 4 (a * 16777216 + (b * 65536 + (c * 256 + (d * 1 + 0)))) ≡ a ∷ b ∷ c ∷ d ∷ []
high_four a b c d ha hb hc hd =
    let e0 : (a * 16777216 + (b * 65536 + (c * 256 + (d * 1 + 0)))) / 16777216 % 256 ≡ a = omega arith in
    let e1 : (a * 16777216 + (b * 65536 + (c * 256 + (d * 1 + 0)))) / 65536 % 256 ≡ b = omega arith in
    let e2 : (a * 16777216 + (b * 65536 + (c * 256 + (d * 1 + 0)))) / 256 % 256 ≡ c = omega arith in
    let e3 : (a * 16777216 + (b * 65536 + (c * 256 + (d * 1 + 0)))) % 256 ≡ d = omega arith in
    rw (e0, e1, e2, e3) refl

high_two : (a b : ℕ) → a < 256 → b < 256 → big_bytes 2 (a * 256 + (b * 1 + 0)) ≡ a ∷ b ∷ []
high_two a b ha hb =
    let e0 : (a * 256 + (b * 1 + 0)) / 256 % 256 ≡ a = omega arith in
    let e1 : (a * 256 + (b * 1 + 0)) % 256 ≡ b = omega arith in
    rw (e0, e1) refl

four_first : (order : Order) (octets : List ℕ) → AreOctets octets → 4 ≤ length octets
    → octets ≡ octets_in order 4 (number_in order 4 octets 0) ++ drop 4 octets
four_first LowFirst octets o h = low_first octets o h
four_first HighFirst octets o h =
    four_cells octets h ∙ ap (λ (x : List ℕ). x ++ drop 4 octets)
    (sym (high_four (get_or octets 0 0) (get_or octets 1 0) (get_or octets 2 0) (get_or octets 3 0) (o 0) (o 1) (o 2) (o 3)))

two_first : (order : Order) (octets : List ℕ) → AreOctets octets → 2 ≤ length octets
    → octets ≡ octets_in order 2 (number_in order 2 octets 0) ++ drop 2 octets
two_first LowFirst octets o h = low_first_two octets o h
two_first HighFirst octets o h =
    two_cells octets h ∙ ap (λ (x : List ℕ). x ++ drop 2 octets) (sym (high_two (get_or octets 0 0) (get_or octets 1 0) (o 0) (o 1)))

-- octets from a place on are those of their number, and what is behind
pub four_here : (order : Order) (at : ℕ) (octets : List ℕ) → AreOctets octets → at + 4 ≤ length octets
    → drop at octets ≡ octets_in order 4 (number_in order 4 octets at) ++ drop (at + 4) octets
four_here order at octets o h =
    four_first order (drop at octets) (AreOctets-drop at octets o) (omega (arith, length-drop {A = ℕ}))
    ∙ ap (λ (v : ℕ). octets_in order 4 v ++ drop 4 (drop at octets)) (sym (number_in-drop order 4 at octets))
    ∙ ap (λ (x : List ℕ). octets_in order 4 (number_in order 4 octets at) ++ x) (drop-drop 4 at octets)

pub two_here : (order : Order) (at : ℕ) (octets : List ℕ) → AreOctets octets → at + 2 ≤ length octets
    → drop at octets ≡ octets_in order 2 (number_in order 2 octets at) ++ drop (at + 2) octets
two_here order at octets o h =
    two_first order (drop at octets) (AreOctets-drop at octets o) (omega (arith, length-drop {A = ℕ}))
    ∙ ap (λ (v : ℕ). octets_in order 2 v ++ drop 2 (drop at octets)) (sym (number_in-drop order 2 at octets))
    ∙ ap (λ (x : List ℕ). octets_in order 2 (number_in order 2 octets at) ++ x) (drop-drop 2 at octets)

high_fits : (a b c d : ℕ) → a < 256 → b < 256 → c < 256 → d < 256 → a * 16777216 + (b * 65536 + (c * 256 + (d * 1 + 0))) < 2 ^ 32
high_fits a b c d ha hb hc hd = omega arith

pub four_fits : (order : Order) (at : ℕ) (octets : List ℕ) → AreOctets octets → number_in order 4 octets at < 2 ^ 32
four_fits LowFirst at octets o = low_fits octets at o
four_fits HighFirst at octets o =
    let p = AreOctets-drop at octets o in
    high_fits (get_or (drop at octets) 0 0) (get_or (drop at octets) 1 0) (get_or (drop at octets) 2 0) (get_or (drop at octets) 3 0) (p 0) (p 1) (p 2) (p 3)

-- Octets and the numbers in them, for the proofs of formats.
use Rattle.std.proofs.Common.{◌≡◌, ℕ, ◌+◌, ◌*◌, ◌/◌, ◌%◌, ◌^◌, ◌<◌, ◌≤◌, List, [], ◌∷◌, ◌++◌, length, drop, get_or, refl, ap, sym, ◌∙◌, arith, length-drop}
use Rattle.std.proofs.lemmas.List.{get_or-drop, drop_more, drop-drop}
use Rattle.byteorder.specs.Endian.{little_bytes}
use Rattle.ec_fields.specs.Fields.{number_at}

-- each is below 256
abbrev pub AreOctets : List ℕ → Type 0
AreOctets octets = (i : ℕ) → get_or octets i 0 < 256

pub AreOctets-drop : (n : ℕ) (octets : List ℕ) → AreOctets octets → AreOctets (drop n octets)
AreOctets-drop n octets o i = rw get_or-drop (o (n + i))

-- the octet at a place, in front of those behind it
pub next_cell : (octets rest : List ℕ) (i : ℕ) → i < length octets → drop (i + 1) octets ≡ rest → drop i octets ≡ get_or octets i 0 ∷ rest
next_cell octets rest i h e = drop_more octets i 0 h ∙ ap (λ (x : List ℕ). get_or octets i 0 ∷ x) e

-- two octets are those of their number
pub two_bytes : (a b : ℕ) → a < 256 → b < 256 → little_bytes 2 (a + 256 * (b + 256 * 0)) ≡ a ∷ b ∷ []
two_bytes a b ha hb =
    let low : (a + 256 * (b + 256 * 0)) % 256 ≡ a = omega arith in
    let high : (a + 256 * (b + 256 * 0)) / 256 % 256 ≡ b = omega arith in
    rw (low, high) refl

-- and so are four
pub four_bytes : (a b c d : ℕ) → a < 256 → b < 256 → c < 256 → d < 256
    → little_bytes 4 (a + 256 * (b + 256 * (c + 256 * (d + 256 * 0)))) ≡ a ∷ b ∷ c ∷ d ∷ []
four_bytes a b c d ha hb hc hd =
    let n : ℕ = a + 256 * (b + 256 * (c + 256 * (d + 256 * 0))) in
    let first : n % 256 ≡ a = omega arith in
    let second : n / 256 % 256 ≡ b = omega arith in
    let third : n / 65536 % 256 ≡ c = omega arith in
    let fourth : n / 16777216 % 256 ≡ d = omega arith in
    rw (first, second, third, fourth) refl

-- the number of two octets has 16 bits
pub fits_two : (a b : ℕ) → a < 256 → b < 256 → a + 256 * (b + 256 * 0) < 2 ^ 16
fits_two a b ha hb = omega arith

-- that of four has 32
pub fits_four : (a b c d : ℕ) → a < 256 → b < 256 → c < 256 → d < 256 → a + 256 * (b + 256 * (c + 256 * (d + 256 * 0))) < 2 ^ 32
fits_four a b c d ha hb hc hd = omega arith

pub two_cells : (octets : List ℕ) → 2 ≤ length octets → octets ≡ get_or octets 0 0 ∷ get_or octets 1 0 ∷ drop 2 octets
two_cells octets h = next_cell octets _ 0 (omega arith) (next_cell octets _ 1 (omega arith) refl)

pub four_cells : (octets : List ℕ) → 4 ≤ length octets → octets ≡ get_or octets 0 0 ∷ get_or octets 1 0 ∷ get_or octets 2 0 ∷ get_or octets 3 0 ∷ drop 4 octets
four_cells octets h =
    next_cell octets _ 0 (omega arith) (next_cell octets _ 1 (omega arith) (next_cell octets _ 2 (omega arith) (next_cell octets _ 3 (omega arith) refl)))

-- octets begin with those of their first number
pub two_first : (octets : List ℕ) → AreOctets octets → 2 ≤ length octets → octets ≡ little_bytes 2 (number_at 2 octets 0) ++ drop 2 octets
two_first octets o h =
    two_cells octets h ∙ ap (λ (x : List ℕ). x ++ drop 2 octets) (sym (two_bytes (get_or octets 0 0) (get_or octets 1 0) (o 0) (o 1)))

pub four_first : (octets : List ℕ) → AreOctets octets → 4 ≤ length octets → octets ≡ little_bytes 4 (number_at 4 octets 0) ++ drop 4 octets
four_first octets o h =
    four_cells octets h ∙ ap (λ (x : List ℕ). x ++ drop 4 octets)
    (sym (four_bytes (get_or octets 0 0) (get_or octets 1 0) (get_or octets 2 0) (get_or octets 3 0) (o 0) (o 1) (o 2) (o 3)))

-- octets from a place on are those of the number there, and what is behind
pub two_here : (octets : List ℕ) (at : ℕ) → AreOctets octets → at + 2 ≤ length octets
    → drop at octets ≡ little_bytes 2 (number_at 2 octets at) ++ drop (at + 2) octets
two_here octets at o h =
    two_first (drop at octets) (AreOctets-drop at octets o) (omega (arith, length-drop {A = ℕ}))
    ∙ ap (λ (x : List ℕ). little_bytes 2 (number_at 2 octets at) ++ x) (drop-drop 2 at octets)

pub four_here : (octets : List ℕ) (at : ℕ) → AreOctets octets → at + 4 ≤ length octets
    → drop at octets ≡ little_bytes 4 (number_at 4 octets at) ++ drop (at + 4) octets
four_here octets at o h =
    four_first (drop at octets) (AreOctets-drop at octets o) (omega (arith, length-drop {A = ℕ}))
    ∙ ap (λ (x : List ℕ). little_bytes 4 (number_at 4 octets at) ++ x) (drop-drop 4 at octets)

-- the number at a place has 16 bits
pub two_fits : (octets : List ℕ) (at : ℕ) → AreOctets octets → number_at 2 octets at < 2 ^ 16
two_fits octets at o =
    let p = AreOctets-drop at octets o in
    fits_two (get_or (drop at octets) 0 0) (get_or (drop at octets) 1 0) (p 0) (p 1)

-- that of four octets has 32
pub four_fits : (octets : List ℕ) (at : ℕ) → AreOctets octets → number_at 4 octets at < 2 ^ 32
four_fits octets at o =
    let p = AreOctets-drop at octets o in
    fits_four (get_or (drop at octets) 0 0) (get_or (drop at octets) 1 0) (get_or (drop at octets) 2 0) (get_or (drop at octets) 3 0) (p 0) (p 1) (p 2) (p 3)

-- two words, and the octets behind them
pub words_here : (octets : List ℕ) → AreOctets octets → 4 ≤ length octets
    → octets ≡ little_bytes 2 (number_at 2 octets 0) ++ (little_bytes 2 (number_at 2 octets 2) ++ drop 4 octets)
words_here octets o long =
    two_first octets o (omega arith)
    ∙ ap (λ (x : List ℕ). little_bytes 2 (number_at 2 octets 0) ++ x) (two_here octets 2 o long)

-- a number of two octets reads as itself
pub two_read : (n : ℕ) → n < 65536 → n % 256 + 256 * (n / 256 % 256 + 0) ≡ n
two_read n small = omega arith

-- and so does one of four
pub four_read : (n : ℕ) → n < 4294967296 → number_at 4 (little_bytes 4 n) 0 ≡ n
four_read n small = omega arith

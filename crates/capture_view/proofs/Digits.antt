-- The hexadecimal digits of a word are those of its two octets.
use Rattle.std.specs.Prelude.{false}
use Rattle.std.proofs.Common.{◌≡◌, ◌≤◌, ◌<◌, ℕ, ◌/◌, ◌%◌, inl, inr, List, [], ◌∷◌, ◌++◌, sym, ap, ◌∙◌, append_assoc, arith}
use Rattle.std.specs.Fmt.{digits, digit_glyph, padded_integral, char_count}
use Rattle.std.proofs.lemmas.Fmt.{hex_one_digit, hex_two_digits, hex_byte}
use Rattle.std.proofs.lemmas.Bool.{cases_lt}
use Rattle.std.proofs.DigitsParse.{digits_onto-nil, digits_onto_last, digits_onto_step}
use Rattle.capture_view.specs.Numbers.{hex_of}

three : (n : ℕ) → 256 ≤ n → n < 4096 → digits 16 false n ≡ digit_glyph false (n / 256) ∷ digit_glyph false (n / 16 % 16) ∷ digit_glyph false (n % 16) ∷ []
three n large small =
    let same : n / 16 / 16 % 16 ≡ n / 256 = omega arith in
    sym (digits_onto-nil 16 false n) ∙ digits_onto_step 16 false n [] 64 (omega arith) (omega arith)
    ∙ digits_onto_step 16 false (n / 16) (digit_glyph false (n % 16) ∷ []) 63 (omega arith) (omega arith)
    ∙ digits_onto_last 16 false (n / 16 / 16) (digit_glyph false (n / 16 % 16) ∷ digit_glyph false (n % 16) ∷ []) 62 (omega arith) (omega arith)
    ∙ ap (λ d. digit_glyph false d ∷ digit_glyph false (n / 16 % 16) ∷ digit_glyph false (n % 16) ∷ []) same

four : (n : ℕ) → 4096 ≤ n → n < 65536 → digits 16 false n ≡ digit_glyph false (n / 4096) ∷ digit_glyph false (n / 256 % 16) ∷ digit_glyph false (n / 16 % 16) ∷ digit_glyph false (n % 16) ∷ []
four n large small =
    let third : n / 16 / 16 % 16 ≡ n / 256 % 16 = omega arith in
    let fourth : n / 16 / 16 / 16 % 16 ≡ n / 4096 = omega arith in
    sym (digits_onto-nil 16 false n) ∙ digits_onto_step 16 false n [] 64 (omega arith) (omega arith)
    ∙ digits_onto_step 16 false (n / 16) (digit_glyph false (n % 16) ∷ []) 63 (omega arith) (omega arith)
    ∙ digits_onto_step 16 false (n / 16 / 16) (digit_glyph false (n / 16 % 16) ∷ digit_glyph false (n % 16) ∷ []) 62 (omega arith) (omega arith)
    ∙ digits_onto_last 16 false (n / 16 / 16 / 16) (digit_glyph false (n / 16 / 16 % 16) ∷ digit_glyph false (n / 16 % 16) ∷ digit_glyph false (n % 16) ∷ []) 61 (omega arith) (omega arith)
    ∙ ap (λ d. digit_glyph false d ∷ digit_glyph false (n / 16 / 16 % 16) ∷ digit_glyph false (n / 16 % 16) ∷ digit_glyph false (n % 16) ∷ []) fourth
    ∙ ap (λ d. digit_glyph false (n / 4096) ∷ digit_glyph false d ∷ digit_glyph false (n / 16 % 16) ∷ digit_glyph false (n % 16) ∷ []) third

-- the four digits of a word, zeros in front
hex_digits : (n : ℕ) → n < 65536 → hex_of 4 n ≡ digit_glyph false (n / 4096) ∷ digit_glyph false (n / 256 % 16) ∷ digit_glyph false (n / 16 % 16) ∷ digit_glyph false (n % 16) ∷ []
unfolding padded_integral char_count
hex_digits n small = elim (cases_lt n 16) [
  | inl one ↦
      let a : n / 4096 ≡ 0 = omega arith in
      let b : n / 256 % 16 ≡ 0 = omega arith in
      let c : n / 16 % 16 ≡ 0 = omega arith in
      let d : n % 16 ≡ n = omega arith in
      rw (hex_one_digit false n one, a, b, c, d)
  | inr more ↦ elim (cases_lt n 256) [
    | inl two ↦
        let a : n / 4096 ≡ 0 = omega arith in
        let b : n / 256 % 16 ≡ 0 = omega arith in
        let c : n / 16 % 16 ≡ n / 16 = omega arith in
        rw (hex_two_digits false n more two, a, b, c)
    | inr most ↦ elim (cases_lt n 4096) [
      | inl within ↦
          let a : n / 4096 ≡ 0 = omega arith in
          let b : n / 256 % 16 ≡ n / 256 = omega arith in
          rw (three n most within, a, b)
      | inr over ↦ rw (four n over small)
    ]
  ]
]

-- the two digits of an octet behind other text, a zero in front
pub octet_behind : (front : List ℕ) (n : ℕ) → n < 256 → (front ++ digit_glyph false (n / 16) ∷ []) ++ digit_glyph false (n % 16) ∷ [] ≡ front ++ hex_of 2 n
octet_behind front n small =
    append_assoc front (digit_glyph false (n / 16) ∷ []) (digit_glyph false (n % 16) ∷ []) ∙ ap (λ l. front ++ l) (sym (hex_byte false n small))

-- what `{:04x}` writes of a word is what `{:02x}` writes of its two octets
hex_word : (n : ℕ) → n < 65536 → hex_of 4 n ≡ hex_of 2 (n / 256) ++ hex_of 2 (n % 256)
hex_word n small =
    let a : n / 256 / 16 ≡ n / 4096 = omega arith in
    let b : n % 256 / 16 ≡ n / 16 % 16 = omega arith in
    let c : n % 256 % 16 ≡ n % 16 = omega arith in
    hex_digits n small ∙ sym (rw (hex_byte false (n / 256) (omega arith), hex_byte false (n % 256) (omega arith), a, b, c))

-- the same behind other text
pub word_behind : (front : List ℕ) (n : ℕ) → n < 65536 → (front ++ hex_of 2 (n / 256)) ++ hex_of 2 (n % 256) ≡ front ++ hex_of 4 n
word_behind front n small = append_assoc front (hex_of 2 (n / 256)) (hex_of 2 (n % 256)) ∙ ap (λ l. front ++ l) (sym (hex_word n small))

-- a datagram's address and what follows it
pub address_behind : (front index adp ado counts : List ℕ)
    → (front ++ 32 ∷ (index ++ 32 ∷ (adp ++ 58 ∷ ado))) ++ counts ≡ front ++ 32 ∷ (index ++ 32 ∷ (adp ++ 58 ∷ (ado ++ counts)))
address_behind front index adp ado counts =
    append_assoc front (32 ∷ (index ++ 32 ∷ (adp ++ 58 ∷ ado))) counts
    ∙ ap (λ l. front ++ 32 ∷ l) (append_assoc index (32 ∷ (adp ++ 58 ∷ ado)) counts)
    ∙ ap (λ l. front ++ 32 ∷ (index ++ 32 ∷ l)) (append_assoc adp (58 ∷ ado) counts)

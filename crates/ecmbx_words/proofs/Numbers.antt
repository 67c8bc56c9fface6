-- Numbers in words.
use Rattle.std.proofs.Common.{◌≡◌, ◌≢◌, ℕ, ◌<◌, ◌^◌, List, Some, None, Result, Ok, refl, sym, ap, ◌∙◌, arith, true, false, nat_lt, Bool, ◌&&◌, if◌then◌else◌}
use Rattle.std.proofs.lemmas.Bool.{lt-ltb, ltb-true}
use Rattle.std.proofs.lemmas.Slice.Eq.{bytes_eq-Decides}
use Rattle.std.specs.Str.Parse.{ParsesUnsigned, IsNumeral, without_leading_plus, digits_value, AllDigits}
use Rattle.std.proofs.lemmas.Result.{OkIff-at_ok}
use Rattle.std.specs.Fmt.{decimal}
use Rattle.std.specs.Str.{bytes_eq}
use Rattle.std.proofs.lemmas.Str.Parse.{IsNumeralModel}
use Rattle.std.proofs.lemmas.Fmt.{digits_value-decimal, parse-decimal}
use Rattle.ecmbx_words.specs.Form.{number_in}

own : IsNumeralModel (AllDigits 10) (digits_value 10)
own = record { to = λ ds h. h; from = λ ds h. h; same = λ ds h. refl }

-- the digits of a number have its value
pub value_of_decimal : (n : ℕ) → n < 2 ^ 32 → digits_value 10 (decimal n) ≡ n
value_of_decimal n lt = digits_value-decimal own n (omega (arith, lt))

-- the spelling of a number below 2 to the power 32 is a number
pub number_is : (word : List ℕ) (n : ℕ) → n < 2 ^ 32 → word ≡ decimal n → Some n ≡ number_in word
number_is word n lt is =
    let value : digits_value 10 word ≡ n = ap (digits_value 10) is ∙ value_of_decimal n lt in
    let same : bytes_eq word (decimal (digits_value 10 word)) ≡ true = (bytes_eq-Decides word (decimal (digits_value 10 word))).1 (is ∙ ap decimal (sym value)) in
    let low : nat_lt (digits_value 10 word) (2 ^ 32) ≡ true = lt-ltb (digits_value 10 word) (2 ^ 32) (rw value lt) in
    rw (same, low) (ap Some (sym value))

none_by : (word : List ℕ) (same low : Bool) → (same ≡ true → low ≡ true → ⊥) → None ≡ (if same && low then Some (digits_value 10 word) else None)
none_by word true true never = absurd (never refl refl)
none_by word true false never = refl
none_by word false low never = refl

-- any other word is none
pub number_none : (word : List ℕ) → (word ≡ decimal (digits_value 10 word) → digits_value 10 word < 2 ^ 32 → ⊥) → None ≡ number_in word
number_none word never =
    none_by word (bytes_eq word (decimal (digits_value 10 word))) (nat_lt (digits_value 10 word) (2 ^ 32)) (λ e l. never ((bytes_eq-Decides word (decimal (digits_value 10 word))).0 e) (ltb-true (digits_value 10 word) (2 ^ 32) l))

-- a word that doesn't parse is none
pub none_parsed : {E : Type 0} (word : List ℕ) (r : Result ℕ E) → ParsesUnsigned 32 10 word r → ((n : ℕ) → r ≢ Ok n) → None ≡ number_in word
none_parsed word r parses failed = number_none word (λ is lt. failed (digits_value 10 word) (parse-decimal 32 (digits_value 10 word) word r lt (omega (arith, lt)) is parses))

-- one that parses and is spelled otherwise is none
pub none_spelled : {E : Type 0} (word : List ℕ) (n : ℕ) (r : Result ℕ E) → ParsesUnsigned 32 10 word r → r ≡ Ok n → word ≢ decimal n → None ≡ number_in word
none_spelled word n r parses is other =
    number_none word (λ spelled lt.
    let same : r ≡ Ok (digits_value 10 word) = parse-decimal 32 (digits_value 10 word) word r lt (omega (arith, lt)) spelled parses in
    let equal : digits_value 10 word ≡ n = cc in
    other (spelled ∙ ap decimal equal))

-- a number that was read fits its type
pub parsed_fits : {E : Type 0} (word : List ℕ) (n : ℕ) (r : Result ℕ E) → ParsesUnsigned 32 10 word r → r ≡ Ok n → n < 2 ^ 32
parsed_fits word n r parses is =
    let found = OkIff-at_ok r (IsNumeral 10 (without_leading_plus word) × (digits_value 10 (without_leading_plus word) < 2 ^ 32)) (digits_value 10 (without_leading_plus word)) n parses is in
    rw found.1 found.0.1

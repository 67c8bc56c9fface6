-- An echo isn't sent back again.
use Rattle.std.proofs.Common.{◌≡◌, ℕ, ◌+◌, ◌≤◌, ◌==◌, Bool, true, false, Some, None, List, ◌∷◌, ◌++◌, length, take, drop, get_or, refl, ap, ◌∙◌, subst, arith, if◌then◌else◌, length-append, length-drop}
use Rattle.std.specs.Prelude.{◌&&◌, ◌||◌, nat_le, slice_index}
use Rattle.std.specs.Str.{bytes_eq}
use Rattle.std.proofs.lemmas.Bool.{leb-true}
use Rattle.std.proofs.lemmas.List.{get_or-append-add, length-take-le}
use Rattle.life_counts.specs.of_protocol_models.Echo.{everyone, is_echo, echo_of}
use Rattle.run_work.specs.Packets.{may_echo}

first_true : (a b : Bool) → (a && b) ≡ true → a ≡ true
first_true true b e = refl
first_true false b e = absurd (cc)

second_true : (a b : Bool) → (a && b) ≡ true → b ≡ true
second_true true b e = e
second_true false b e = absurd (cc)

long_enough : (mac octets : List ℕ) → is_echo mac octets ≡ true → 14 ≤ length octets
long_enough mac octets e =
    let rest = slice_index octets 12 == 0x88 && (slice_index octets 13 == 0xB5 && (bytes_eq (take 6 octets) mac || bytes_eq (take 6 octets) everyone)) in
    leb-true 14 (length octets) (first_true (nat_le 14 (length octets)) rest (second_true (nat_le (length octets) 1514) (nat_le 14 (length octets) && rest) e))

-- the octet behind the two addresses and 88
kind : (a mac rest : List ℕ) → length a ≡ 6 → length mac ≡ 6 → get_or (a ++ (mac ++ 0x88 ∷ 0xB6 ∷ rest)) 13 0 ≡ 0xB6
kind a mac rest e f =
    let n : 13 ≡ length a + (length mac + 1) = omega (arith, e, f) in
    ap (λ z. get_or (a ++ (mac ++ 0x88 ∷ 0xB6 ∷ rest)) z 0) n ∙ get_or-append-add a (mac ++ 0x88 ∷ 0xB6 ∷ rest) (length mac + 1) 0 ∙ get_or-append-add mac (0x88 ∷ 0xB6 ∷ rest) 1 0

not_again : (a mac rest : List ℕ) → length a ≡ 6 → length mac ≡ 6 → may_echo (a ++ (mac ++ 0x88 ∷ 0xB6 ∷ rest)) ≡ false
not_again a mac rest e f =
    let octets = a ++ (mac ++ 0x88 ∷ 0xB6 ∷ rest) in
    ap (λ z. slice_index octets 12 == 0x88 && z == 0xB5) (kind a mac rest e f) ∙ neither (slice_index octets 12 == 0x88)
  where
    neither : (b : Bool) → (b && false) ≡ false
    neither true = refl
    neither false = refl

source : (octets : List ℕ) → 14 ≤ length octets → length (take 6 (drop 6 octets)) ≡ 6
source octets l = length-take-le 6 (drop 6 octets) (omega (arith, l, length-drop 6 octets))

same_length : (octets mac : List ℕ) → 14 ≤ length octets → length mac ≡ 6 → length (take 6 (drop 6 octets) ++ (mac ++ 0x88 ∷ 0xB6 ∷ drop 14 octets)) ≡ length octets
same_length octets mac l m =
    omega (arith, l, m, length-append (take 6 (drop 6 octets)) (mac ++ 0x88 ∷ 0xB6 ∷ drop 14 octets), length-append mac (0x88 ∷ 0xB6 ∷ drop 14 octets), length-drop 14 octets, source octets l)

echo_is : (octets mac echo : List ℕ) (b : Bool) → is_echo mac octets ≡ b → length mac ≡ 6 → (if b then Some (take 6 (drop 6 octets) ++ (mac ++ 0x88 ∷ 0xB6 ∷ drop 14 octets)) else None) ≡ Some echo → (may_echo echo ≡ false) × (length echo ≡ length octets)
echo_is octets mac echo false is m e = absurd (cc)
echo_is octets mac echo true is m e =
    let same : take 6 (drop 6 octets) ++ (mac ++ 0x88 ∷ 0xB6 ∷ drop 14 octets) ≡ echo = cc in
    let l = long_enough mac octets is in
    subst (λ z. (may_echo z ≡ false) × (length z ≡ length octets)) same (not_again (take 6 (drop 6 octets)) mac (drop 14 octets) (source octets l) m, same_length octets mac l m)

pub echo_law : (mac octets echo : List ℕ) → length mac ≡ 6 → echo_of mac octets ≡ Some echo → (may_echo echo ≡ false) × (length echo ≡ length octets)
echo_law mac octets echo m e = echo_is octets mac echo (is_echo mac octets) refl m e

-- and it is one of a packet that may come back
both_are : (a b c d e : Bool) → (a && (b && (c && (d && e)))) ≡ true → (c && d) ≡ true
both_are true true true true e f = refl
both_are true true true false e f = absurd (cc)
both_are true true false d e f = absurd (cc)
both_are true false c d e f = absurd (cc)
both_are false b c d e f = absurd (cc)

may_be : (octets mac echo : List ℕ) (b : Bool) → is_echo mac octets ≡ b → (if b then Some (take 6 (drop 6 octets) ++ (mac ++ 0x88 ∷ 0xB6 ∷ drop 14 octets)) else None) ≡ Some echo → may_echo octets ≡ true
may_be octets mac echo false is e = absurd (cc)
may_be octets mac echo true is e =
    both_are (nat_le (length octets) 1514) (nat_le 14 (length octets)) (slice_index octets 12 == 0x88) (slice_index octets 13 == 0xB5) (bytes_eq (take 6 octets) mac || bytes_eq (take 6 octets) everyone) is

pub of_echo : (mac octets echo : List ℕ) → echo_of mac octets ≡ Some echo → may_echo octets ≡ true
of_echo mac octets echo e = may_be octets mac echo (is_echo mac octets) refl e

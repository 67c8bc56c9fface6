-- The test of an address block finds exactly the blocks.
use Rattle.std.proofs.Common.{◌≡◌, ℕ, zero, suc, ◌-◌, ◌^◌, ◌≤◌, Bool, true, false, List, [], ◌∷◌, length, take, refl, sym, subst, arith, le-leb, eq-eqb}
use Rattle.std.specs.Prelude.{◌==◌, ◌&&◌, ◌↔◌, nat_le, if◌then◌else◌, IsTrue, Option, None, Some}
use Rattle.std.proofs.lemmas.Bool.{eqb-true}
use Rattle.eoe.specs.Address.{field_sizes, total, IsBlock, fields_size, is_size, is_block}

-- flags of this many octets are those of the first fields
abbrev Named : ℕ → ℕ → Type 0
Named flags size = (count : ℕ) × (count ≤ 6) × (flags ≡ 2 ^ count - 1) × (total (take count field_sizes) ≡ size)

one_of : (b : Bool) (wanted : ℕ) (rest : Option ℕ) (size : ℕ) (P : Type 0) → is_size (if b then Some wanted else rest) size ≡ true →
    (b ≡ true → wanted ≡ size → P) → (is_size rest size ≡ true → P) → P
one_of true wanted rest size P e here more = here refl (eqb-true wanted size e)
one_of false wanted rest size P e here more = more e

named : (flags size : ℕ) → is_size (fields_size flags) size ≡ true → Named flags size
named flags size e =
    one_of (flags == 0x00) 0 _ size (Named flags size) e (λ b s. (0, omega arith, eqb-true flags 0x00 b, s))
    (λ e. one_of (flags == 0x01) 6 _ size (Named flags size) e (λ b s. (1, omega arith, eqb-true flags 0x01 b, s))
    (λ e. one_of (flags == 0x03) 10 _ size (Named flags size) e (λ b s. (2, omega arith, eqb-true flags 0x03 b, s))
    (λ e. one_of (flags == 0x07) 14 _ size (Named flags size) e (λ b s. (3, omega arith, eqb-true flags 0x07 b, s))
    (λ e. one_of (flags == 0x0F) 18 _ size (Named flags size) e (λ b s. (4, omega arith, eqb-true flags 0x0F b, s))
    (λ e. one_of (flags == 0x1F) 22 _ size (Named flags size) e (λ b s. (5, omega arith, eqb-true flags 0x1F b, s))
    (λ e. one_of (flags == 0x3F) 54 None size (Named flags size) e (λ b s. (6, omega arith, eqb-true flags 0x3F b, s))
    (λ e. absurd (cc))))))))

all_of : (a b c d e : Bool) → (a && b && c && d && e) ≡ true → (b ≡ true) × (c ≡ true) × (d ≡ true) × (e ≡ true)
all_of true true true true e h = (refl, refl, refl, h)
all_of false b c d e h = absurd (cc)
all_of true false c d e h = absurd (cc)
all_of true true false d e h = absurd (cc)
all_of true true true false e h = absurd (cc)

found : (octets : List ℕ) → is_block octets ≡ true → IsBlock octets
found [] h = absurd (cc)
found (f ∷ []) h = absurd (cc)
found (f ∷ a ∷ []) h = absurd (cc)
found (f ∷ a ∷ b ∷ []) h = absurd (cc)
found (f ∷ a ∷ b ∷ c ∷ fields) h =
    let octets = f ∷ a ∷ b ∷ c ∷ fields in
    let size = length octets - 4 in
    let all = all_of (nat_le 4 (length octets)) (a == 0) (b == 0) (c == 0) (is_size (fields_size f) size) h in
    let first = eqb-true a 0 all.0 in
    let second = eqb-true b 0 all.1 in
    let third = eqb-true c 0 all.2 in
    let n = named f size all.3 in
    let flags : f ≡ 2 ^ n.0 - 1 = n.2 in
    record { count = n.0; fields = fields; most = n.1; text = cc; size = omega (arith, n.3) }

block_of : (flags wanted : ℕ) (fields : List ℕ) → fields_size flags ≡ Some wanted → wanted ≡ length fields → is_block (flags ∷ 0 ∷ 0 ∷ 0 ∷ fields) ≡ true
block_of flags wanted fields named size =
    let long : nat_le 4 (length (flags ∷ 0 ∷ 0 ∷ 0 ∷ fields)) ≡ true = le-leb _ _ (omega arith) in
    let same : wanted == (length (flags ∷ 0 ∷ 0 ∷ 0 ∷ fields) - 4) ≡ true = eq-eqb _ _ (omega (arith, size)) in
    rw (long, named, same) refl

tested : (count : ℕ) (fields : List ℕ) → count ≤ 6 → total (take count field_sizes) ≡ length fields → is_block ((2 ^ count - 1) ∷ 0 ∷ 0 ∷ 0 ∷ fields) ≡ true
tested zero fields most size = block_of 0x00 0 fields refl size
tested (suc zero) fields most size = block_of 0x01 6 fields refl size
tested (suc (suc zero)) fields most size = block_of 0x03 10 fields refl size
tested (suc (suc (suc zero))) fields most size = block_of 0x07 14 fields refl size
tested (suc (suc (suc (suc zero)))) fields most size = block_of 0x0F 18 fields refl size
tested (suc (suc (suc (suc (suc zero))))) fields most size = block_of 0x1F 22 fields refl size
tested (suc (suc (suc (suc (suc (suc zero)))))) fields most size = block_of 0x3F 54 fields refl size
tested (suc (suc (suc (suc (suc (suc (suc n))))))) fields most size = absurd (omega arith)

pub is_block-exact : (octets : List ℕ) → IsTrue (is_block octets) ↔ IsBlock octets
is_block-exact octets = ((λ t. found octets t), λ b. subst (λ l. is_block l ≡ true) (sym b.text) (tested b.count b.fields b.most b.size))

-- Counters, places and words.
use Rattle.std.proofs.Common.{◌≡◌, ◌⊎◌, inl, inr, ℕ, suc, ◌+◌, ◌-◌, ◌%◌, ◌<◌, ◌≤◌, ◌==◌, Bool, true, false, List, ◌∷◌, ◌++◌, refl, ap, sym, subst, ◌∙◌, arith}
use Rattle.std.specs.Prelude.{if◌then◌else◌, nat_le}
use Rattle.std.proofs.lemmas.Bool.{eq-eqb, eqb-true, eqb-false, ne_eqb, le-leb, lt-leb}
use Rattle.frame_view.specs.of_segment_model.Slaves.{Address, Registers, is_meant, address_behind}
use Rattle.frame_view.specs.View.{place_of}
use Rattle.byteorder.specs.Endian.{little_bytes}
use Rattle.frame_view.specs.of_ec_fields.Fields.{number_at}

pub counted_is : (c : ℕ) → c + 1 < 65536 → (c + 1) % 65536 ≡ suc c
counted_is c room = omega arith

pub counted_some : (c : ℕ) → c + 1 < 65536 → ((c + 1) % 65536 == 0) ≡ false
counted_some c room = ne_eqb ((c + 1) % 65536) 0 (λ (e : (c + 1) % 65536 ≡ 0). omega arith)

pub counted_not : (c : ℕ) → c + 1 < 65536 → (c + 0) % 65536 ≡ c
counted_not c room = omega arith

pub same_number : (a : ℕ) → (a == a) ≡ true
same_number a = eq-eqb a a refl

-- two numbers are the same, or the tests both ways say that they aren't
pub decided : (a b : ℕ) → (a ≡ b) ⊎ (((a == b) ≡ false) × ((b == a) ≡ false))
decided a b = go (a == b) refl
  where
    go : (t : Bool) → (a == b) ≡ t → (a ≡ b) ⊎ (((a == b) ≡ false) × ((b == a) ≡ false))
    go true is = inl (eqb-true a b is)
    go false not_ = inr (not_, ne_eqb b a (λ (e : b ≡ a). eqb-false a b not_ (sym e)))

pub either : {X : Type 0} (b : Bool) (x : X) → (if b then x else x) ≡ x
either true x = refl
either false x = refl

-- a word of 16 bits is read from its octets, whatever stands behind
pub word_back : (x : ℕ) (rest : List ℕ) → x < 65536 → number_at 2 (little_bytes 2 x ++ rest) 0 ≡ x
word_back x rest few = omega arith

pub code_back : (x y : ℕ) → y < 65536 → number_at 2 (little_bytes 2 x ++ (0 ∷ 0 ∷ little_bytes 2 y)) 4 ≡ y
code_back x y few = omega arith

-- a place goes on by one, and means nobody but where it is 0
pub record Moves (adp : ℕ) (r : Registers) : Type 0 where
  pub goes : place_of ((adp + 1) % 65536) ≡ address_behind (place_of adp)
  pub apart : is_meant r (place_of adp) ≡ false

ahead : (adp n : ℕ) (r : Registers) → place_of adp ≡ Address.Place (suc n) → place_of ((adp + 1) % 65536) ≡ Address.Place n → Moves adp r
ahead adp n r here there = record { goes = there ∙ sym (ap address_behind here); apart = ap (is_meant r) here }

pub place_moves : (adp : ℕ) (r : Registers) → adp < 65536 → (adp + 1 ≤ 32767) ⊎ (32768 ≤ adp) → (adp == 0) ≡ false → Moves adp r
place_moves adp r small (inl near) some_ =
    let zero_ : ((adp + 1) % 65536 == 0) ≡ false = ne_eqb ((adp + 1) % 65536) 0 (λ (e : (adp + 1) % 65536 ≡ 0). omega arith) in
    let below : nat_le 32768 ((adp + 1) % 65536) ≡ false = lt-leb 32768 ((adp + 1) % 65536) (omega arith) in
    let here : nat_le 32768 adp ≡ false = lt-leb 32768 adp (omega arith) in
    record { goes = rw (zero_, below, some_, here) refl; apart = rw (some_, here) refl }
place_moves adp r small (inr far) some_ = go (decided adp 65535)
  where
    go : (adp ≡ 65535) ⊎ (((adp == 65535) ≡ false) × ((65535 == adp) ≡ false)) → Moves adp r
    go (inl last) = subst (λ n. Moves n r) (sym last) (ahead 65535 0 r refl refl)
    go (inr more) =
        let least : adp < 65535 = omega (arith, eqb-false adp 65535 more.0) in
        let zero_ : ((adp + 1) % 65536 == 0) ≡ false = ne_eqb ((adp + 1) % 65536) 0 (λ (e : (adp + 1) % 65536 ≡ 0). omega arith) in
        let above : nat_le 32768 ((adp + 1) % 65536) ≡ true = le-leb 32768 ((adp + 1) % 65536) (omega arith) in
        let here : nat_le 32768 adp ≡ true = le-leb 32768 adp far in
        let next : 65536 - adp ≡ suc (65536 - (adp + 1) % 65536) = omega arith in
        ahead adp (65536 - (adp + 1) % 65536) r (rw (some_, here) (ap Address.Place next)) (rw (zero_, above) refl)

-- Where EtherCAT stands: it lies in the packet, and is found behind tags.
use Rattle.std.proofs.Common.{◌≡◌, ℕ, suc, ◌+◌, ◌*◌, ◌<◌, ◌≤◌, Bool, true, false, List, [], ◌∷◌, ◌++◌, length, drop, refl, ap, sym, ◌∙◌, arith, length-drop, subst, ◌⊎◌, inl, inr}
use Rattle.std.specs.Prelude.{Option, None, Some, nat_lt, min, max, ◌==◌, ◌||◌, if◌then◌else◌, IfSome}
use Rattle.std.proofs.lemmas.Bool.{le-ltb, ltb-false, eqb-true}
use Rattle.std.proofs.lemmas.List.{drop-drop, drop_at}
use Rattle.byteorder.specs.Endian.{big_bytes, big_number}
use Rattle.byteorder.specs.Numbers.{big_number-reads_back}
use Rattle.ethercat_places.specs.declared.place.Place.{Place}
use Rattle.ethercat_places.specs.Place.{word_at, is_tag, behind_tag, type_place, udp_place, place_behind, place_at, place_of, Tag, tags_text, AreTags, IsTagged}

-- a place in a packet
abbrev pub IsInside : List ℕ → Place → Type 0
IsInside octets p = (p.from ≤ p.to) × (p.to ≤ length octets)

one_test : (short port : Bool) (octets : List ℕ) (from to : ℕ) → (short ≡ false → (from ≤ to) × (to ≤ length octets))
    → IfSome (if short then None else if port then Some (record { from = from; to = to }) else None) (IsInside octets)
one_test true port octets from to h = tt
one_test false true octets from to h = h refl
one_test false false octets from to h = tt

inside_behind : (octets : List ℕ) (udp : Option ℕ) → IfSome (place_behind octets udp) (IsInside octets)
inside_behind octets None = tt
inside_behind octets (Some udp) =
    one_test (nat_lt (length octets) (udp + 8)) (word_at octets udp == 34980 || word_at octets (udp + 2) == 34980) octets (udp + 8)
    (min (length octets) (max (udp + 8) (udp + word_at octets (udp + 4))))
    (λ e. let h = ltb-false (length octets) (udp + 8) e in (omega arith, omega arith))

two_tests : (short cat ip : Bool) (octets : List ℕ) (from to : ℕ) (behind : Option Place) → (short ≡ false → (from ≤ to) × (to ≤ length octets))
    → IfSome behind (IsInside octets)
    → IfSome (if short then None else if cat then Some (record { from = from; to = to }) else if ip then behind else None) (IsInside octets)
two_tests true cat ip octets from to behind h b = tt
two_tests false true ip octets from to behind h b = h refl
two_tests false false true octets from to behind h b = b
two_tests false false false octets from to behind h b = tt

inside_at : (octets : List ℕ) (at : ℕ) → IfSome (place_at octets at) (IsInside octets)
inside_at octets at =
    two_tests (nat_lt (length octets) (at + 2)) (word_at octets at == 34980) (word_at octets at == 2048) octets (at + 2) (length octets)
    (place_behind octets (udp_place octets (at + 2))) (λ e. let h = ltb-false (length octets) (at + 2) e in (omega arith, omega arith))
    (inside_behind octets (udp_place octets (at + 2)))

-- what was found lies in the packet
pub inside_of : (octets : List ℕ) (r : Option Place) → r ≡ place_of octets → IfSome r (IsInside octets)
inside_of octets r e = subst (λ (o : Option Place). IfSome o (IsInside octets)) (sym e) (inside_at octets (type_place octets))

-- two octets of a number, in front of others

two_back : (n : ℕ) (rest : List ℕ) → n < 65536 → big_number 2 (big_bytes 2 n ++ rest) ≡ n
two_back n rest h = big_number-reads_back 2 n rest h

three : (a b c : Bool) → (a || b || c) ≡ true → (a ≡ true) ⊎ ((b ≡ true) ⊎ (c ≡ true))
three true b c e = inl refl
three false true c e = inr (inl refl)
three false false true e = inr (inr refl)
three false false false e = cc

same : (b : Bool) (at : ℕ) → (if b then at else at) ≡ at
same true at = refl
same false at = refl

-- a tag's EtherType has two octets
tag_fits : (n : ℕ) → is_tag n ≡ true → n < 65536
tag_fits n e = elim (three (n == 33024) (n == 34984) (n == 37120) e) [
  | inl a ↦ let h = eqb-true n 33024 a in omega arith
  | inr more ↦ elim more [
    | inl b ↦ let h = eqb-true n 34984 b in omega arith
    | inr c ↦ let h = eqb-true n 37120 c in omega arith
  ]
]

-- octets from a place on where a tag stands
tag_passed : (octets rest : List ℕ) (at : ℕ) (t : Tag) → drop at octets ≡ big_bytes 2 t.ether_type ++ (big_bytes 2 t.control ++ rest) → is_tag t.ether_type ≡ true
    → (behind_tag octets at ≡ at + 4) × (drop (at + 4) octets ≡ rest)
tag_passed octets rest at t e named =
    let read : word_at octets at ≡ t.ether_type = ap (big_number 2) e ∙ two_back t.ether_type (big_bytes 2 t.control ++ rest) (tag_fits t.ether_type named) in
    let long : length (drop at octets) ≡ suc (suc (suc (suc (length rest)))) = ap length e in
    let left = length-drop at octets in
    let fits : nat_lt (length octets) (at + 4) ≡ false = le-ltb _ _ (omega arith) in
    let tagged : is_tag (word_at octets at) ≡ true = ap is_tag read ∙ named in
    (rw (fits, tagged) refl, sym (drop-drop 4 at octets) ∙ ap (drop 4) e)

-- behind the tags stands EtherType 88A4
tag_ended : (octets payload : List ℕ) (at : ℕ) → drop at octets ≡ 136 ∷ 164 ∷ payload → behind_tag octets at ≡ at
tag_ended octets payload at e =
    let tagged : is_tag (word_at octets at) ≡ false = ap (λ (x : List ℕ). is_tag (big_number 2 x)) e in
    rw tagged (same (nat_lt (length octets) (at + 4)) at)

place_found : (octets payload : List ℕ) (at : ℕ) → drop at octets ≡ 136 ∷ 164 ∷ payload
    → place_at octets at ≡ Some (record { from = at + 2; to = length octets })
place_found octets payload at e =
    let long : length (drop at octets) ≡ suc (suc (length payload)) = ap length e in
    let left = length-drop at octets in
    let fits : nat_lt (length octets) (at + 2) ≡ false = le-ltb _ _ (omega arith) in
    let ether : (word_at octets at == 34980) ≡ true = ap (λ (x : List ℕ). big_number 2 x == 34980) e in
    rw (fits, ether) refl

-- the EtherType behind tags, of which there are at most two
type_found : (octets payload : List ℕ) (tags : List Tag) → drop 12 octets ≡ tags_text tags ++ (136 ∷ 164 ∷ payload) → AreTags tags → length tags ≤ 2
    → (type_place octets ≡ 12 + 4 * length tags) × (drop (12 + 4 * length tags) octets ≡ 136 ∷ 164 ∷ payload)
type_found octets payload [] e named few =
    let none = tag_ended octets payload 12 e in
    (ap (behind_tag octets) none ∙ none, e)
type_found octets payload (t ∷ []) e named few =
    let one = tag_passed octets (136 ∷ 164 ∷ payload) 12 t e named.0 in
    (ap (behind_tag octets) one.0 ∙ tag_ended octets payload 16 one.1, one.1)
type_found octets payload (t ∷ u ∷ []) e named few =
    let one = tag_passed octets (big_bytes 2 u.ether_type ++ (big_bytes 2 u.control ++ (136 ∷ 164 ∷ payload))) 12 t e named.0 in
    let two = tag_passed octets (136 ∷ 164 ∷ payload) 16 u one.1 named.1.0 in
    (ap (behind_tag octets) one.0 ∙ two.0, two.1)
type_found octets payload (t ∷ u ∷ v ∷ vs) e named few = absurd (omega arith)

-- what is spelled with tags is found
pub tagged_found : (octets payload : List ℕ) (tags : List Tag) → IsTagged octets tags payload
    → place_of octets ≡ Some (record { from = 14 + 4 * length tags; to = length octets })
tagged_found octets payload tags is =
    let begins = ap (drop 12) is.text ∙ drop_at is.addresses (tags_text tags ++ (136 ∷ 164 ∷ payload)) 12 is.twelve in
    let f = type_found octets payload tags begins is.named is.two in
    let sum : (12 + 4 * length tags) + 2 ≡ 14 + 4 * length tags = omega arith in
    ap (place_at octets) f.0 ∙ place_found octets payload (12 + 4 * length tags) f.1
    ∙ ap (λ (n : ℕ). Some (record { from = n; to = length octets })) sum

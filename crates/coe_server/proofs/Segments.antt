-- A segment's answer is what stands before its octets, those octets, and the unused ones of a short one.
use Rattle.std.proofs.Common.{◌≡◌, ◌≤◌, ◌<◌, ◌&&◌, nat_lt, nat_le, true, ℕ, ◌+◌, ◌-◌, ◌*◌, Bool, List, [], ◌∷◌, ◌++◌, length, take, replicate, sym, ap, ◌∙◌, subst, arith, append_assoc}
use Rattle.std.proofs.lemmas.Bool.Decides.{nat_tests}
use Rattle.std.proofs.lemmas.List.{take-replicate}
use Rattle.protocol_models.specs.of_coe_codec.Coe.{IsCoe}
use Rattle.protocol_models.specs.of_coe_codec.Fields.{bit}
use Rattle.protocol_models.specs.of_coe_codec.Writing.{coe_text, head_of}
use Rattle.protocol_models.proofs.of_coe_codec.Spelled.{write-spelled}
use Rattle.coe_server.specs.Serving.{segment_answer, IsWritten}

segment_text : (toggle last : Bool) (bytes : List ℕ) (unused command : ℕ) → unused ≡ 7 - length bytes → command ≡ bit last + 2 * unused + 16 * bit toggle →
    ((0 ∷ 48 ∷ command ∷ []) ++ bytes) ++ take unused (replicate 7 0) ≡ coe_text (segment_answer toggle last bytes)
segment_text toggle last bytes unused command u d =
    let front = head_of (segment_answer toggle last bytes) in
    let n = 7 - length bytes in
    let within : 7 - length bytes ≤ 7 = omega arith in
    let zeros : take unused (replicate 7 0) ≡ replicate n 0 = ap (λ k. take k (replicate 7 0)) u ∙ take-replicate {X = ℕ} n 7 0 within in
    let head : (0 ∷ 48 ∷ command ∷ []) ≡ front = ap (λ k. 0 ∷ 48 ∷ k ∷ []) (d ∙ ap (λ k. bit last + 2 * k + 16 * bit toggle) u) in
    ap (λ h. (h ++ bytes) ++ take unused (replicate 7 0)) head ∙ ap (λ z. (front ++ bytes) ++ z) zeros ∙ append_assoc front bytes (replicate n 0)

pub segment_written : (room : ℕ) (toggle last : Bool) (bytes octets : List ℕ) (unused command : ℕ) → unused ≡ 7 - length bytes → command ≡ bit last + 2 * unused + 16 * bit toggle →
    octets ≡ ((0 ∷ 48 ∷ command ∷ []) ++ bytes) ++ take unused (replicate 7 0) → 1 ≤ length bytes → length bytes ≤ room - 9 → IsWritten room (segment_answer toggle last bytes) octets
segment_written room toggle last bytes octets unused command u d e some short =
    let text = e ∙ segment_text toggle last bytes unused command u d in
    record {
      text = text;
      spelled = subst (λ l. IsCoe l (segment_answer toggle last bytes)) (sym text) (write-spelled (segment_answer toggle last bytes) some tt tt);
      short = short;
    }

-- a part that is to be told begins within its value
pub part_is : (from len : ℕ) → nat_lt from len ≡ true → from < len
part_is from len is = grind (arith, nat_tests)

-- and a last part fits a mail besides
pub last_is : (from len most : ℕ) → (nat_lt from len && nat_le (len - from) most) ≡ true → (from < len) × (len - from ≤ most)
last_is from len most is = grind (arith, nat_tests)

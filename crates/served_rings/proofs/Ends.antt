-- Which mails go on but the last: the parts of an information and the fragments of an element.
use Rattle.std.proofs.Common.{◌≡◌, inl, inr, ℕ, zero, suc, ◌<◌, not, Bool, true, false, List, [], ◌∷◌, map, drop, length, refl, ap, ◌∙◌, arith, length-drop, le-leb, if◌then◌else◌}
use Rattle.std.proofs.lemmas.Bool.{cases_lt, lt-leb}
use Rattle.run_work.specs.of_protocol_models.CoeMails.{CoeMail, mail, Information}
use Rattle.run_work.specs.of_protocol_models.CoeServer.{information_parts}
use Rattle.served_places.specs.of_serving_model.Passing.{ends_told}
use Rattle.run_work.specs.of_protocol_models.Elements.{Target}
use Rattle.run_work.specs.of_protocol_models.SoeMails as Soe

-- one more in front
pub goes_on : {M : Type 0} (more : M → Bool) (m : M) (ms : List M) → more m ≡ true → ends_told more ms ≡ true → ends_told more (m ∷ ms) ≡ true
goes_on more m [] e last = absurd (cc)
goes_on more m (n ∷ ms) e last = ap (λ (b : Bool). if b then ends_told more (n ∷ ms) else false) e ∙ last

-- the same of what they are written as
pub ends_mapped : {M N : Type 0} (write : M → N) (more : N → Bool) (ms : List M) → ends_told more (map write ms) ≡ ends_told (λ m. more (write m)) ms
ends_mapped write more [] = refl
ends_mapped write more (m ∷ []) = refl
ends_mapped write more (m ∷ (n ∷ ms)) = ap (λ (b : Bool). if more (write m) then b else false) (ends_mapped write more (n ∷ ms))

-- CoE, by whatever tells that an information goes on
module _ (more : CoeMail → Bool) (opcode : ℕ) (last : (bytes : List ℕ) → more (mail (Information opcode false 0 (record { items = bytes }))) ≡ false)
    (onward : (left : ℕ) (bytes : List ℕ) → more (mail (Information opcode true left (record { items = bytes }))) ≡ true) where
  pub parts_told : (fuel part : ℕ) (bytes : List ℕ) → 0 < part → length bytes < fuel → ends_told more (information_parts fuel opcode part bytes) ≡ true
  parts_told zero part bytes some enough = absurd (omega arith)
  parts_told (suc fuel) part bytes some enough = elim (cases_lt part (length bytes)) [
    | inr ends ↦ rw (le-leb (length bytes) part ends) (ap not (last bytes))
    | inl goes ↦
        let rest = parts_told fuel part (drop part bytes) some (omega (arith, length-drop part bytes)) in
        rw (lt-leb (length bytes) part goes) (goes_on more _ (information_parts fuel opcode part (drop part bytes)) (onward _ _) rest)
  ]

-- SoE, by whatever tells that a message goes on
module _ (more : Soe.SoeMail → Bool) (opcode : ℕ) (t : Target) (last : (bytes : List ℕ) → more (Soe.mail (Soe.message opcode false t t.idn bytes)) ≡ false)
    (onward : (left : ℕ) (bytes : List ℕ) → more (Soe.mail (Soe.message opcode true t left bytes)) ≡ true) where
  pub fragments_told : (fuel part : ℕ) (bytes : List ℕ) → 0 < part → length bytes < fuel → ends_told more (Soe.fragments fuel opcode t part bytes) ≡ true
  fragments_told zero part bytes some enough = absurd (omega arith)
  fragments_told (suc fuel) part bytes some enough = elim (cases_lt part (length bytes)) [
    | inr ends ↦ rw (le-leb (length bytes) part ends) (ap not (last bytes))
    | inl goes ↦
        let rest = fragments_told fuel part (drop part bytes) some (omega (arith, length-drop part bytes)) in
        rw (lt-leb (length bytes) part goes) (goes_on more _ (Soe.fragments fuel opcode t part (drop part bytes)) (onward _ _) rest)
  ]

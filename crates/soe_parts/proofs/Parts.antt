-- The fragments of an element that are left, one by one.
use Rattle.std.proofs.Common.{◌≡◌, inl, inr, ℕ, zero, suc, ◌+◌, ◌-◌, ◌<◌, ◌≤◌, true, false, List, [], ◌∷◌, length, take, drop, refl, sym, ap, ◌∙◌, arith, length-drop, drop-drop, le-leb}
use Rattle.std.proofs.lemmas.Bool.{cases_lt, lt-leb}
use Rattle.protocol_models.specs.Elements.{Target}
use Rattle.protocol_models.specs.SoeMails.{mail, message, parts_of, fragments}

-- more fuel makes no other fragments
pub parts_fuel : (f g opcode : ℕ) (t : Target) (part : ℕ) (bytes : List ℕ) → 0 < part → length bytes < f → length bytes < g → fragments f opcode t part bytes ≡ fragments g opcode t part bytes
parts_fuel zero g opcode t part bytes some a b = absurd (omega (arith, a))
parts_fuel (suc f) zero opcode t part bytes some a b = absurd (omega (arith, b))
parts_fuel (suc f) (suc g) opcode t part bytes some a b = elim (cases_lt part (length bytes)) [
  | inr fits ↦ rw (le-leb (length bytes) part fits) refl
  | inl more ↦
      let same = parts_fuel f g opcode t part (drop part bytes) some (omega (arith, length-drop part bytes, some, more, a)) (omega (arith, length-drop part bytes, some, more, b)) in
      rw (lt-leb (length bytes) part more) (ap (λ l. mail (message opcode true t (parts_of part (length bytes - part)) (take part bytes)) ∷ l) same)
]

more_part : (f opcode : ℕ) (t : Target) (part : ℕ) (bytes : List ℕ) → part < length bytes →
    fragments (suc f) opcode t part bytes ≡ mail (message opcode true t (parts_of part (length bytes - part)) (take part bytes)) ∷ fragments f opcode t part (drop part bytes)
more_part f opcode t part bytes more = rw (lt-leb (length bytes) part more) refl

-- the first fragment of the octets from a place on, and those behind it
pub part_given : (room opcode : ℕ) (t : Target) (at : ℕ) (whole rest items : List ℕ) → rest ≡ drop at whole → items ≡ take (room - 10) rest → 64 ≤ room → room - 10 < length rest →
    fragments (suc (length whole)) opcode t (room - 10) (drop at whole)
    ≡ mail (message opcode true t (parts_of (room - 10) (length rest - (room - 10))) items) ∷ fragments (suc (length whole)) opcode t (room - 10) (drop (at + (room - 10)) whole)
part_given room opcode t at whole rest items is taken least more =
    let part = room - 10 in
    let on : drop part rest ≡ drop (at + part) whole = ap (drop part) is ∙ drop-drop part at whole in
    let long : length rest ≡ length whole - at = ap length is ∙ length-drop at whole in
    ap (fragments (suc (length whole)) opcode t part) (sym is)
    ∙ more_part (length whole) opcode t part rest more
    ∙ ap (λ i. mail (message opcode true t (parts_of part (length rest - part)) i) ∷ fragments (length whole) opcode t part (drop part rest)) (sym taken)
    ∙ ap (λ l. mail (message opcode true t (parts_of part (length rest - part)) items) ∷ l)
    (parts_fuel (length whole) (suc (length whole)) opcode t part (drop part rest) (omega (arith, least)) (omega (arith, length-drop part rest, long, least, more)) (omega (arith, length-drop part rest, long, least, more))
    ∙ ap (fragments (suc (length whole)) opcode t part) on)

-- a last fragment
pub last_given : (room opcode : ℕ) (t : Target) (at : ℕ) (whole rest : List ℕ) → rest ≡ drop at whole → length rest ≤ room - 10 →
    fragments (suc (length whole)) opcode t (room - 10) (drop at whole) ≡ mail (message opcode false t t.idn rest) ∷ []
last_given room opcode t at whole rest is fits =
    ap (fragments (suc (length whole)) opcode t (room - 10)) (sym is) ∙ rw (le-leb (length rest) (room - 10) fits) refl

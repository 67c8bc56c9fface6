-- What a body reads as is spelled by it, and what is written spells its message.
use Rattle.std.proofs.Common.{◌≡◌, ℕ, ◌+◌, ◌/◌, ◌%◌, ◌^◌, ◌<◌, ◌≤◌, Bool, true, false, List, ◌∷◌, ◌++◌, length, drop, get_or, refl, ap, sym, ◌∙◌, subst, arith, le-leb}
use Rattle.std.specs.Prelude.{Result, Ok, Err, IfOk, ◌==◌, nat_lt, if◌then◌else◌}
use Rattle.std.proofs.lemmas.Bool.{eqb-true, ltb-false}
use Rattle.byteorder.specs.Endian.{little_bytes}
use Rattle.ec_fields.specs.Fields.{number_at}
use Rattle.ec_fields.proofs.Cells.{AreOctets, next_cell, four_here, four_fits}
use Rattle.foe_codec.specs.declared.message.Foe.{Foe}
use Rattle.foe_codec.specs.declared.message.Foe.TheVariants.{Read, Write, Data, Ack, Error, Busy}
use Rattle.foe_codec.specs.declared.message.FoeFault.{FoeFault}
use Rattle.foe_codec.specs.declared.message.FoeFault.TheVariants.{Short, Opcode, Name}
use Rattle.foe_codec.specs.Message.{is_name, Says, IsFoe, message_in, foe_read, opcode_of, field_of, octets_of, foe_text, IsSpellable, IsRanged}
use Rattle.foe_codec.specs.View.{foe_seen, seen, IsCapped}
use Rattle.foe_codec.specs.declared.viewing.FoeView.{FoeView}
use Rattle.foe_codec.specs.declared.viewing.FoeView.TheVariants.{Read as VRead, Write as VWrite, Data as VData, Ack as VAck, Error as VError, Busy as VBusy}

-- opcode, reserved octet, field and the octets behind them
parts_here : (body : List ℕ) → AreOctets body → 6 ≤ length body
    → body ≡ get_or body 0 0 ∷ get_or body 1 0 ∷ (little_bytes 4 (number_at 4 body 2) ++ drop 6 body)
parts_here body o long =
    next_cell body _ 0 (omega arith) (next_cell body _ 1 (omega arith) refl)
    ∙ ap (λ (x : List ℕ). get_or body 0 0 ∷ get_or body 1 0 ∷ x) (four_here body 2 o long)

abbrev ok_foe : Foe → Result Foe FoeFault
ok_foe f = Ok f

ok_same : (x y : Foe) → ok_foe x ≡ ok_foe y → x ≡ y
ok_same x y e = cc

named_inverts : (P : Foe → Type 0) (fits : Bool) (x f : Foe) → (if fits then ok_foe x else Err Name) ≡ Ok f → (fits ≡ true → P x) → P f
named_inverts P true x f h p = subst P (ok_same x f h) (p refl)
named_inverts P false x f h p = cc

says_inverts : (P : Foe → Type 0) (fits t1 t2 t3 t4 t5 t6 : Bool) (x1 x2 x3 x4 x5 x6 f : Foe)
    → (if t1 then (if fits then ok_foe x1 else Err Name) else if t2 then (if fits then Ok x2 else Err Name) else if t3 then Ok x3
    else if t4 then Ok x4 else if t5 then Ok x5 else if t6 then Ok x6 else Err Opcode) ≡ Ok f
    → (t1 ≡ true → fits ≡ true → P x1) → (t2 ≡ true → fits ≡ true → P x2) → (t3 ≡ true → P x3)
    → (t4 ≡ true → P x4) → (t5 ≡ true → P x5) → (t6 ≡ true → P x6) → P f
says_inverts P fits true t2 t3 t4 t5 t6 x1 x2 x3 x4 x5 x6 f h p1 p2 p3 p4 p5 p6 = named_inverts P fits x1 f h (p1 refl)
says_inverts P fits false true t3 t4 t5 t6 x1 x2 x3 x4 x5 x6 f h p1 p2 p3 p4 p5 p6 = named_inverts P fits x2 f h (p2 refl)
says_inverts P fits false false true t4 t5 t6 x1 x2 x3 x4 x5 x6 f h p1 p2 p3 p4 p5 p6 = subst P (ok_same x3 f h) (p3 refl)
says_inverts P fits false false false true t5 t6 x1 x2 x3 x4 x5 x6 f h p1 p2 p3 p4 p5 p6 = subst P (ok_same x4 f h) (p4 refl)
says_inverts P fits false false false false true t6 x1 x2 x3 x4 x5 x6 f h p1 p2 p3 p4 p5 p6 = subst P (ok_same x5 f h) (p5 refl)
says_inverts P fits false false false false false true x1 x2 x3 x4 x5 x6 f h p1 p2 p3 p4 p5 p6 = subst P (ok_same x6 f h) (p6 refl)
says_inverts P fits false false false false false false x1 x2 x3 x4 x5 x6 f h p1 p2 p3 p4 p5 p6 = cc

message_says : (opcode field : ℕ) (rest : List ℕ) (f : Foe) → message_in opcode field rest ≡ Ok f → Says opcode field rest f
message_says opcode field rest f h =
    says_inverts (Says opcode field rest) (is_name rest) (opcode == 1) (opcode == 2) (opcode == 3) (opcode == 4) (opcode == 5) (opcode == 6)
    (Read field (record { items = rest })) (Write field (record { items = rest })) (Data field (record { items = rest })) (Ack field) (Error field)
    (Busy (field % 65536) (field / 65536)) f h
    (λ t fits. (eqb-true opcode 1 t, refl, refl, fits)) (λ t fits. (eqb-true opcode 2 t, refl, refl, fits)) (λ t. (eqb-true opcode 3 t, refl, refl))
    (λ t. (eqb-true opcode 4 t, refl)) (λ t. (eqb-true opcode 5 t, refl)) (λ t. (eqb-true opcode 6 t, refl, refl))

long_test : (short : Bool) (r : Result Foe FoeFault) (f : Foe) → (if short then Err Short else r) ≡ Ok f → (short ≡ false) × (r ≡ Ok f)
long_test true r f h = cc
long_test false r f h = (refl, h)

-- what was read is spelled
pub foe_read-found : (body : List ℕ) (f : Foe) → AreOctets body → foe_read body ≡ Ok f → IsFoe body f
foe_read-found body f o h =
    let t = long_test (nat_lt (length body) 6) (message_in (get_or body 0 0) (number_at 4 body 2) (drop 6 body)) f h in
    let long = ltb-false (length body) 6 t.0 in
    record {
      opcode = get_or body 0 0;
      reserved = get_or body 1 0;
      field = number_at 4 body 2;
      rest = drop 6 body;
      text = parts_here body o long;
      field_fits = four_fits body 2 o;
      says = message_says (get_or body 0 0) (number_at 4 body 2) (drop 6 body) f t.1;
    }

pub found_in : (body : List ℕ) (r : Result FoeView FoeFault) → AreOctets body → seen r ≡ foe_read body → IfOk r (λ v. IsFoe body (foe_seen v))
found_in body (Ok v) o h = foe_read-found body (foe_seen v) o (sym h)
found_in body (Err fault) o h = tt

fits_name : (octets : List ℕ) → 1 ≤ length octets → length octets ≤ 32 → is_name octets ≡ true
fits_name octets some few = rw (le-leb 1 (length octets) some, le-leb (length octets) 32 few) refl

text_says : (v : FoeView) → IsSpellable (foe_seen v) → IsRanged (foe_seen v) → IsCapped v
    → Says (opcode_of (foe_seen v)) (field_of (foe_seen v)) (octets_of (foe_seen v)) (foe_seen v)
text_says (VRead pass name) s r n = (refl, refl, refl, fits_name name.now s n)
text_says (VWrite pass name) s r n = (refl, refl, refl, fits_name name.now s n)
text_says (VData packet bytes) s r n = (refl, refl, refl)
text_says (VAck packet) s r n = (refl, refl)
text_says (VError code) s r n = (refl, refl)
text_says (VBusy done entire) s r n = (refl, omega (arith, r.0), omega (arith, r.0))

field_fits : (f : Foe) → IsRanged f → field_of f < 2 ^ 32
field_fits (Read pass name) r = r
field_fits (Write pass name) r = r
field_fits (Data packet bytes) r = r
field_fits (Ack packet) r = r
field_fits (Error code) r = r
field_fits (Busy done entire) r = omega (arith, r.0, r.1)

-- what is written is spelled
pub text_spelled : (v : FoeView) → IsSpellable (foe_seen v) → IsRanged (foe_seen v) → IsCapped v → IsFoe (foe_text (foe_seen v)) (foe_seen v)
text_spelled v s r n =
    let f : Foe = foe_seen v in
    record { opcode = opcode_of f; reserved = 0; field = field_of f; rest = octets_of f; text = refl; field_fits = field_fits f r; says = text_says v s r n }

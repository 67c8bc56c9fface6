-- What a body reads as is spelled by it.
use Rattle.std.proofs.Common.{◌≡◌, ℕ, ◌%◌, Bool, true, false, List, length, drop, refl, sym, subst}
use Rattle.std.specs.Prelude.{Result, Ok, Err, IfOk, not, ◌&&◌, ◌==◌, nat_lt, if◌then◌else◌}
use Rattle.std.proofs.lemmas.Bool.{eqb-true, ltb-false}
use Rattle.arrayvec.specs.ArrayVec.{ArrayVec}
use Rattle.ec_fields.specs.Fields.{number_at, bits_of}
use Rattle.ec_fields.proofs.Cells.{AreOctets, words_here, two_fits}
use Rattle.eoe.specs.declared.message.Eoe.{Eoe}
use Rattle.eoe.specs.declared.message.Eoe.TheVariants.{Fragment as Part, SetIp, SetIpAnswer, GetIp, GetIpAnswer}
use Rattle.eoe.specs.declared.message.EoeFault.{EoeFault}
use Rattle.eoe.specs.declared.message.EoeFault.TheVariants.{Short, WrongType, Offset}
use Rattle.eoe.specs.declared.message.Fragment.{Fragment}
use Rattle.eoe.specs.Message.{IsWhole, Says, IsEoe, fragment_in, message_in, eoe_read}
use Rattle.eoe.specs.View.{eoe_seen, seen}
use Rattle.eoe.specs.declared.viewing.EoeView.{EoeView}

twice : (b : Bool) → (true && not b) ≡ false → b ≡ true
twice true e = refl
twice false e = cc

abbrev ok_eoe : Eoe → Result Eoe EoeFault
ok_eoe e = Ok e

ok_same : (x y : Eoe) → ok_eoe x ≡ ok_eoe y → x ≡ y
ok_same x y e = cc

whole_of : (last : Bool) (n : ℕ) → (not last && not (n % 32 == 0)) ≡ false → IsWhole last n
whole_of true n e = tt
whole_of false n e = eqb-true (n % 32) 0 (twice (n % 32 == 0) e)

says_inverts : (P : Eoe → Type 0) (t0 bad t2 t3 t6 t7 : Bool) (f : Fragment) (b : ArrayVec ℕ) (second : ℕ) (e : Eoe)
    → (if t0 then (if bad then Err Offset else Ok (Part f)) else if t2 then Ok (SetIp b) else if t3 then Ok (SetIpAnswer second)
    else if t6 then Ok GetIp else if t7 then Ok (GetIpAnswer second b) else Err WrongType) ≡ Ok e
    → (t0 ≡ true → bad ≡ false → P (Part f)) → (t2 ≡ true → P (SetIp b)) → (t3 ≡ true → P (SetIpAnswer second))
    → (t6 ≡ true → P GetIp) → (t7 ≡ true → P (GetIpAnswer second b)) → P e
says_inverts P true true t2 t3 t6 t7 f b second e h p0 p2 p3 p6 p7 = cc
says_inverts P true false t2 t3 t6 t7 f b second e h p0 p2 p3 p6 p7 = subst P (ok_same (Part f) e h) (p0 refl refl)
says_inverts P false bad true t3 t6 t7 f b second e h p0 p2 p3 p6 p7 = subst P (ok_same (SetIp b) e h) (p2 refl)
says_inverts P false bad false true t6 t7 f b second e h p0 p2 p3 p6 p7 = subst P (ok_same (SetIpAnswer second) e h) (p3 refl)
says_inverts P false bad false false true t7 f b second e h p0 p2 p3 p6 p7 = subst P (ok_same GetIp e h) (p6 refl)
says_inverts P false bad false false false true f b second e h p0 p2 p3 p6 p7 = subst P (ok_same (GetIpAnswer second b) e h) (p7 refl)
says_inverts P false bad false false false false f b second e h p0 p2 p3 p6 p7 = cc

message_says : (first second : ℕ) (rest : List ℕ) (e : Eoe) → message_in first second rest ≡ Ok e → Says first second rest e
message_says first second rest e h =
    says_inverts (Says first second rest) (bits_of first 0 4 == 0) (not (bits_of first 8 1 == 1) && not (length rest % 32 == 0))
    (bits_of first 0 4 == 2) (bits_of first 0 4 == 3) (bits_of first 0 4 == 6) (bits_of first 0 4 == 7)
    (fragment_in first second rest) (record { items = rest }) second e h
    (λ t bad. (
      eqb-true (bits_of first 0 4) 0 t,
      record {
        last = refl;
        stamped = refl;
        number = refl;
        offset = refl;
        frame = refl;
        octets = refl;
        whole = whole_of (bits_of first 8 1 == 1) (length rest) bad;
      },
    ))
    (λ t. (eqb-true (bits_of first 0 4) 2 t, refl))
    (λ t. (eqb-true (bits_of first 0 4) 3 t, refl))
    (λ t. eqb-true (bits_of first 0 4) 6 t)
    (λ t. (eqb-true (bits_of first 0 4) 7 t, refl, refl))

long_test : (short : Bool) (r : Result Eoe EoeFault) (e : Eoe) → (if short then Err Short else r) ≡ Ok e → (short ≡ false) × (r ≡ Ok e)
long_test true r e h = cc
long_test false r e h = (refl, h)

-- what was read is spelled
pub eoe_read-found : (body : List ℕ) (e : Eoe) → AreOctets body → eoe_read body ≡ Ok e → IsEoe body e
eoe_read-found body e o h =
    let t = long_test (nat_lt (length body) 4) (message_in (number_at 2 body 0) (number_at 2 body 2) (drop 4 body)) e h in
    let long = ltb-false (length body) 4 t.0 in
    record {
      first = number_at 2 body 0;
      second = number_at 2 body 2;
      rest = drop 4 body;
      text = words_here body o long;
      first_fits = two_fits body 0 o;
      second_fits = two_fits body 2 o;
      says = message_says (number_at 2 body 0) (number_at 2 body 2) (drop 4 body) e t.1;
    }

pub found_in : (body : List ℕ) (r : Result EoeView EoeFault) → AreOctets body → seen r ≡ eoe_read body → IfOk r (λ v. IsEoe body (eoe_seen v))
found_in body (Ok v) o h = eoe_read-found body (eoe_seen v) o (sym h)
found_in body (Err f) o h = tt

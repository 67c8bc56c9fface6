-- What a body reads as is spelled by it.
use Rattle.std.proofs.Common.{◌≡◌, ℕ, ◌^◌, ◌<◌, Bool, true, false, List, length, drop, refl, sym, subst, arith}
use Rattle.std.specs.Prelude.{Result, Ok, Err, IfOk, not, ◌&&◌, ◌==◌, nat_lt, if◌then◌else◌}
use Rattle.std.proofs.lemmas.Bool.{ltb-false}
use Rattle.ec_fields.specs.Fields.{number_at, bits_of}
use Rattle.ec_fields.proofs.Cells.{AreOctets, words_here, two_fits}
use Rattle.soe_codec.specs.declared.message.Soe.{Soe}
use Rattle.soe_codec.specs.declared.message.SoeFault.{SoeFault}
use Rattle.soe_codec.specs.declared.message.SoeFault.TheVariants.{Short, Opcode, Incomplete}
use Rattle.soe_codec.specs.Message.{IsSoe, IsSpellable, is_opcode, has_fragments, message_in, soe_read}
use Rattle.soe_codec.specs.View.{soe_seen, seen}
use Rattle.soe_codec.specs.declared.viewing.SoeView.{SoeView}

abbrev ok_soe : Soe → Result Soe SoeFault
ok_soe e = Ok e

ok_same : (x y : Soe) → ok_soe x ≡ ok_soe y → x ≡ y
ok_same x y e = cc

not_true : (b : Bool) → not b ≡ false → b ≡ true
not_true true e = refl
not_true false e = absurd (cc)

both_bad : (a b : Bool) → (a && not b) ≡ false → a ≡ true → b ≡ true
both_bad a true e set = refl
both_bad true false e set = absurd (cc)
both_bad false false e set = absurd (cc)

-- a message that was made passed both tests
inverts : (bad lone : Bool) (s e : Soe) → (if bad then Err Opcode else if lone then Err Incomplete else Ok s) ≡ Ok e → (bad ≡ false) × (lone ≡ false) × (s ≡ e)
inverts true lone s e h = absurd (cc)
inverts false true s e h = absurd (cc)
inverts false false s e h = (refl, refl, ok_same s e h)

long_test : (short : Bool) (r : Result Soe SoeFault) (e : Soe) → (if short then Err Short else r) ≡ Ok e → (short ≡ false) × (r ≡ Ok e)
long_test true r e h = absurd (cc)
long_test false r e h = (refl, h)

-- the message of a word, a field and octets
abbrev said_in : ℕ → ℕ → List ℕ → Soe
said_in word field rest = record {
  opcode = bits_of word 0 3;
  incomplete = bits_of word 3 1 == 1;
  error = bits_of word 4 1 == 1;
  drive = bits_of word 5 3;
  elements = bits_of word 8 8;
  field = field;
  bytes = record { items = rest };
}

-- what was read is spelled
pub soe_read-found : (body : List ℕ) (e : Soe) → AreOctets body → soe_read body ≡ Ok e → IsSoe body e
soe_read-found body e o h =
    let word = number_at 2 body 0 in
    let t = long_test (nat_lt (length body) 4) (message_in word (number_at 2 body 2) (drop 4 body)) e h in
    let long = ltb-false (length body) 4 t.0 in
    let made = inverts (not (is_opcode (bits_of word 0 3))) (bits_of word 3 1 == 1 && not (has_fragments (bits_of word 0 3)))
    (said_in word (number_at 2 body 2) (drop 4 body)) e t.1 in
    subst (IsSoe body) made.2 (record {
      word = word;
      text = words_here body o long;
      word_fits = two_fits body 0 o;
      field_fits = two_fits body 2 o;
      says = record { opcode = refl; incomplete = refl; error = refl; drive = refl; elements = refl };
      kind = record {
        opcode = not_true (is_opcode (bits_of word 0 3)) made.0;
        fragments = both_bad (bits_of word 3 1 == 1) (has_fragments (bits_of word 0 3)) made.1;
      };
    })

pub found_in : (body : List ℕ) (r : Result SoeView SoeFault) → AreOctets body → seen r ≡ soe_read body → IfOk r (λ v. IsSoe body (soe_seen v))
found_in body (Ok v) o h = soe_read-found body (soe_seen v) o (sym h)
found_in body (Err f) o h = tt

-- and has a spelling
pub spellable_from : (body : List ℕ) (r : Result SoeView SoeFault) → IfOk r (λ v. IsSoe body (soe_seen v)) → IfOk r (λ v. IsSpellable (soe_seen v))
spellable_from body (Ok v) h = record { kind = h.kind; drive = subst (λ d. d < 2 ^ 3) h.says.drive (low_three h.word) }
  where
    low_three : (word : ℕ) → bits_of word 5 3 < 2 ^ 3
    low_three word = omega arith
spellable_from body (Err f) h = tt

-- Which messages of SoE tell that others follow, in their octets: those with the incomplete bit, whatever their drive and their flags are.
use Rattle.std.proofs.Common.{◌≡◌, ℕ, ◌+◌, ◌*◌, ◌/◌, ◌%◌, ◌<◌, ◌==◌, ◌&&◌, not, nat_lt, Bool, true, false, List, length, drop, Result, Err, refl, ap, ◌∙◌, arith, le-ltb, if◌then◌else◌}
use Rattle.run_work.specs.of_ec_fields.Fields.{number_at, bits_of}
use Rattle.served_places.specs.of_soe_codec.Message.{is_opcode, has_fragments, word_of, message_in, soe_text}
use Rattle.run_work.specs.of_protocol_models.SoeClient.{is_incomplete}
use Rattle.run_work.specs.of_protocol_models.Elements.{Target}
use Rattle.run_work.specs.of_protocol_models.SoeMails.{Soe, SoeFault, Short, message, refusal}
use Rattle.run_work.specs.of_protocol_models.SoeOctets.{heard, body_heard}

-- the word that is read of two octets
abbrev read_word : ℕ → ℕ
read_word w = w % 256 + 256 * (w / 256 % 256 + 256 * 0)

same_bit : (w : ℕ) → read_word w / 8 % 2 ≡ w / 8 % 2
same_bit w = omega arith

same_opcode : (w : ℕ) → read_word w / 1 % 8 ≡ w % 8
same_opcode w = omega arith

either : (body : List ℕ) (answer b : Bool) (r s : Result Soe SoeFault) → is_incomplete (heard body r) ≡ answer → is_incomplete (heard body s) ≡ answer → is_incomplete (heard body (if b then r else s)) ≡ answer
either body answer true r s p q = p
either body answer false r s p q = q

long_enough : (body : List ℕ) (answer b : Bool) (r s : Result Soe SoeFault) → b ≡ false → is_incomplete (heard body s) ≡ answer → is_incomplete (heard body (if b then r else s)) ≡ answer
long_enough body answer true r s e p = absurd (cc)
long_enough body answer false r s e p = p

-- a word without the bit
ends_in : (body : List ℕ) (w field : ℕ) (rest : List ℕ) → bits_of w 3 1 ≡ 0 → is_incomplete (heard body (message_in w field rest)) ≡ false
ends_in body w field rest e = either body false (not (is_opcode (bits_of w 0 3))) _ _ refl (either body false (bits_of w 3 1 == 1 && not (has_fragments (bits_of w 0 3))) _ _ refl (ap (λ n. n == 1) e))

-- a word with it, of an answer to a read
goes_in : (body : List ℕ) (w field : ℕ) (rest : List ℕ) → bits_of w 0 3 ≡ 2 → bits_of w 3 1 ≡ 1 → is_incomplete (heard body (message_in w field rest)) ≡ true
goes_in body w field rest a b = rw (a, b) refl

unmarked : (opcode error drive elements : ℕ) → opcode < 8 → (opcode + 0 + 16 * error + 32 * drive + 256 * elements) / 8 % 2 ≡ 0
unmarked opcode error drive elements low = omega (arith, low)

marked : (drive elements : ℕ) → (2 + 8 + 0 + 32 * drive + 256 * elements) / 8 % 2 ≡ 1
marked drive elements = omega arith

answers_read : (drive elements : ℕ) → (2 + 8 + 0 + 32 * drive + 256 * elements) % 8 ≡ 2
answers_read drive elements = omega arith

-- what is read of a body with such a word
read_ends : (body : List ℕ) → bits_of (number_at 2 body 0) 3 1 ≡ 0 → is_incomplete (body_heard body) ≡ false
read_ends body e =
    either body false (nat_lt (length body) 4) (Err Short) (message_in (number_at 2 body 0) (number_at 2 body 2) (drop 4 body)) refl
    (ends_in body (number_at 2 body 0) (number_at 2 body 2) (drop 4 body) e)

read_goes : (body : List ℕ) → nat_lt (length body) 4 ≡ false → bits_of (number_at 2 body 0) 0 3 ≡ 2 → bits_of (number_at 2 body 0) 3 1 ≡ 1 → is_incomplete (body_heard body) ≡ true
read_goes body long a b =
    long_enough body true (nat_lt (length body) 4) (Err Short) (message_in (number_at 2 body 0) (number_at 2 body 2) (drop 4 body)) long
    (goes_in body (number_at 2 body 0) (number_at 2 body 2) (drop 4 body) a b)

-- a complete message is the last
pub complete_ends : (opcode field : ℕ) (t : Target) (bytes : List ℕ) → opcode < 8 → is_incomplete (body_heard (soe_text (message opcode false t field bytes))) ≡ false
complete_ends opcode field t bytes low =
    let s = message opcode false t field bytes in
    read_ends (soe_text s) (same_bit (word_of s) ∙ unmarked opcode 0 t.drive t.elements low)

-- a refusal is too
pub refusal_ends : (opcode code : ℕ) (t : Target) → opcode < 8 → is_incomplete (body_heard (soe_text (refusal opcode t code))) ≡ false
refusal_ends opcode code t low =
    let s = refusal opcode t code in
    read_ends (soe_text s) (same_bit (word_of s) ∙ unmarked opcode 1 t.drive t.elements low)

-- a fragment of an element goes on
pub fragment_goes : (left : ℕ) (t : Target) (bytes : List ℕ) → is_incomplete (body_heard (soe_text (message 2 true t left bytes))) ≡ true
fragment_goes left t bytes =
    let s = message 2 true t left bytes in
    read_goes (soe_text s) (le-ltb _ _ (omega arith)) (same_opcode (word_of s) ∙ answers_read t.drive t.elements) (same_bit (word_of s) ∙ marked t.drive t.elements)

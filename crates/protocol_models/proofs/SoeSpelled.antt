-- The mails of an SoE service, from client and server, have spellings, from which they are read back.
use Rattle.std.proofs.Common.{◌≡◌, inl, inr, ℕ, zero, suc, ◌+◌, ◌-◌, ◌*◌, ◌/◌, ◌%◌, ◌<◌, ◌≤◌, Bool, true, false, ◌&&◌, nat_lt, nat_le, List, [], ◌∷◌, ◌++◌, length, drop, Result, Ok, Err, refl, sym, ap, ◌∙◌, subst, arith, length-drop, leb-true, ltb-true, le-leb, le-ltb}
use Rattle.std.specs.Prelude.{if◌then◌else◌, is_none}
use Rattle.std.proofs.lemmas.Bool.{cases_lt, lt-leb}
use Rattle.std.proofs.Math.Nat.{div-le_of_le-mul}
use Rattle.byteorder.specs.Endian.{little_bytes}
use Rattle.coe_codec.specs.of_ec_fields.Fields.{bits_of}
use Rattle.soe_codec.specs.Message.{is_opcode, has_fragments, word_of, message_in, soe_read, soe_text}
use Rattle.exchange_model.specs.Areas.{Areas, AreMailboxes}
use Rattle.exchange_model.specs.Lifted.{EachOf, ReadsBack, Spells}
use Rattle.protocol_models.specs.Elements.{Target, Elements, AreLawful}
use Rattle.protocol_models.specs.SoeMails.{Soe, SoeMail, mail, refusal, parts_of, fragments}
use Rattle.protocol_models.specs.SoeServer.{Server, most}
use Rattle.protocol_models.specs.SoeClient.{Service, read, write, is_target, is_service, mails_of}
use Rattle.protocol_models.specs.SoeModel.{is_ready, soe_exchange}
use Rattle.protocol_models.specs.SoeOctets.{heard, soe_mail_heard, soe_mail_written}
use Rattle.protocol_models.proofs.SoeCarries.{answer_to}
use Rattle.protocol_models.proofs.SoeLaw.{kept, gives, answer_to_read, both_are}

-- a word, a field and octets behind them are read by these
read_words : (word field : ℕ) (rest : List ℕ) → word < 65536 → field < 65536 →
    soe_read (little_bytes 2 word ++ (little_bytes 2 field ++ rest)) ≡ message_in word field rest
read_words word field rest one two =
    let long : nat_lt (length (little_bytes 2 word ++ (little_bytes 2 field ++ rest))) 4 ≡ false = le-ltb _ _ (omega arith) in
    let front : word % 256 + 256 * (word / 256 % 256 + 256 * 0) ≡ word = omega arith in
    let back : field % 256 + 256 * (field / 256 % 256 + 256 * 0) ≡ field = omega arith in
    rw (long, front, back) refl

-- a message whose numbers fit
pub record Fits (s : Soe) : Type 0 where
  pub low : 1 ≤ s.opcode
  pub high : s.opcode ≤ 4
  pub fragments : s.incomplete ≡ true → has_fragments s.opcode ≡ true
  pub drive : s.drive < 8
  pub elements : s.elements < 256
  pub field : s.field < 65536

-- the word of a message
abbrev word_with : ℕ → ℕ → ℕ → ℕ → ℕ → ℕ
word_with opcode incomplete error drive elements = opcode + incomplete + error + 32 * drive + 256 * elements

abbrev said : ℕ → Bool → Bool → ℕ → ℕ → ℕ → List ℕ → Soe
said opcode incomplete error drive elements field bytes =
    record { opcode = opcode; incomplete = incomplete; error = error; drive = drive; elements = elements; field = field; bytes = record { items = bytes } }

module _ (opcode incomplete error drive elements : ℕ) (low : opcode < 8) (near : drive < 8) (flags : elements < 256) where
  opcode_back : incomplete ≤ 1 → error ≤ 1 → bits_of (word_with opcode (8 * incomplete) (16 * error) drive elements) 0 3 ≡ opcode
  opcode_back one two = omega (arith, low, near, flags)

  incomplete_back : incomplete ≤ 1 → error ≤ 1 → bits_of (word_with opcode (8 * incomplete) (16 * error) drive elements) 3 1 ≡ incomplete
  incomplete_back one two = omega (arith, low, near, flags)

  error_back : incomplete ≤ 1 → error ≤ 1 → bits_of (word_with opcode (8 * incomplete) (16 * error) drive elements) 4 1 ≡ error
  error_back one two = omega (arith, low, near, flags)

  drive_back : incomplete ≤ 1 → error ≤ 1 → bits_of (word_with opcode (8 * incomplete) (16 * error) drive elements) 5 3 ≡ drive
  drive_back one two = omega (arith, low, near, flags)

  elements_back : incomplete ≤ 1 → error ≤ 1 → bits_of (word_with opcode (8 * incomplete) (16 * error) drive elements) 8 8 ≡ elements
  elements_back one two = omega (arith, low, near, flags)

is_opcode_of : (opcode : ℕ) → 1 ≤ opcode → opcode ≤ 4 → is_opcode opcode ≡ true
is_opcode_of opcode low high = let a = le-leb 1 opcode low in let b = le-leb opcode 4 high in rw (a, b) refl

message_back : (opcode : ℕ) (incomplete error : Bool) (drive elements field : ℕ) (bytes : List ℕ) → 1 ≤ opcode → opcode ≤ 4 → (incomplete ≡ true → has_fragments opcode ≡ true) → drive < 8 → elements < 256 →
    message_in (word_of (said opcode incomplete error drive elements field bytes)) field bytes ≡ Ok (said opcode incomplete error drive elements field bytes)
message_back opcode true true drive elements field bytes low high parts near flags =
    let few : opcode < 8 = omega (arith, high) in
    let is = is_opcode_of opcode low high in
    let has = parts refl in
    let a = opcode_back opcode 1 1 drive elements few near flags (omega arith) (omega arith) in
    let b = incomplete_back opcode 1 1 drive elements few near flags (omega arith) (omega arith) in
    let c = error_back opcode 1 1 drive elements few near flags (omega arith) (omega arith) in
    let d = drive_back opcode 1 1 drive elements few near flags (omega arith) (omega arith) in
    let e = elements_back opcode 1 1 drive elements few near flags (omega arith) (omega arith) in
    rw (a, b, c, d, e, is, has) refl
message_back opcode true false drive elements field bytes low high parts near flags =
    let few : opcode < 8 = omega (arith, high) in
    let is = is_opcode_of opcode low high in
    let has = parts refl in
    let a = opcode_back opcode 1 0 drive elements few near flags (omega arith) (omega arith) in
    let b = incomplete_back opcode 1 0 drive elements few near flags (omega arith) (omega arith) in
    let c = error_back opcode 1 0 drive elements few near flags (omega arith) (omega arith) in
    let d = drive_back opcode 1 0 drive elements few near flags (omega arith) (omega arith) in
    let e = elements_back opcode 1 0 drive elements few near flags (omega arith) (omega arith) in
    rw (a, b, c, d, e, is, has) refl
message_back opcode false true drive elements field bytes low high parts near flags =
    let few : opcode < 8 = omega (arith, high) in
    let is = is_opcode_of opcode low high in
    let a = opcode_back opcode 0 1 drive elements few near flags (omega arith) (omega arith) in
    let b = incomplete_back opcode 0 1 drive elements few near flags (omega arith) (omega arith) in
    let c = error_back opcode 0 1 drive elements few near flags (omega arith) (omega arith) in
    let d = drive_back opcode 0 1 drive elements few near flags (omega arith) (omega arith) in
    let e = elements_back opcode 0 1 drive elements few near flags (omega arith) (omega arith) in
    rw (a, b, c, d, e, is) refl
message_back opcode false false drive elements field bytes low high parts near flags =
    let few : opcode < 8 = omega (arith, high) in
    let is = is_opcode_of opcode low high in
    let a = opcode_back opcode 0 0 drive elements few near flags (omega arith) (omega arith) in
    let b = incomplete_back opcode 0 0 drive elements few near flags (omega arith) (omega arith) in
    let c = error_back opcode 0 0 drive elements few near flags (omega arith) (omega arith) in
    let d = drive_back opcode 0 0 drive elements few near flags (omega arith) (omega arith) in
    let e = elements_back opcode 0 0 drive elements few near flags (omega arith) (omega arith) in
    rw (a, b, c, d, e, is) refl

marks_fit : (opcode drive elements : ℕ) (incomplete error : Bool) → opcode ≤ 4 → drive < 8 → elements < 256 →
    opcode + (if incomplete then 8 else 0) + (if error then 16 else 0) + 32 * drive + 256 * elements < 65536
marks_fit opcode drive elements true true high near flags = omega (arith, high, near, flags)
marks_fit opcode drive elements true false high near flags = omega (arith, high, near, flags)
marks_fit opcode drive elements false true high near flags = omega (arith, high, near, flags)
marks_fit opcode drive elements false false high near flags = omega (arith, high, near, flags)

-- such a message is read from its spelling
pub text_read : (s : Soe) → Fits s → soe_read (soe_text s) ≡ Ok s
text_read s f =
    read_words (word_of s) s.field s.bytes.items (marks_fit s.opcode s.drive s.elements s.incomplete s.error f.high f.drive f.elements) f.field
    ∙ message_back s.opcode s.incomplete s.error s.drive s.elements s.field s.bytes.items f.low f.high f.fragments f.drive f.elements

abbrev HasSpelling : SoeMail → Type 0
HasSpelling (mail s) = Fits s
HasSpelling _ = ⊥

reads_back : (m : SoeMail) → HasSpelling m → ReadsBack soe_mail_heard soe_mail_written m
reads_back (mail s) f = ap (heard (soe_text s)) (text_read s f)
reads_back _ f = absurd f

all_read_back : (ms : List SoeMail) → EachOf HasSpelling ms → EachOf (ReadsBack soe_mail_heard soe_mail_written) ms
all_read_back [] all = tt
all_read_back (m ∷ ms) all = (reads_back m all.0, all_read_back ms all.1)

-- a target whose numbers fit
pub record IsNear (t : Target) : Type 0 where
  pub drive : t.drive < 8
  pub idn : t.idn < 65536
  pub elements : t.elements < 256

near_of : (t : Target) → is_target t ≡ true → IsNear t
near_of t valid =
    let first = both_three (nat_lt t.drive 8) (nat_lt t.idn 65536) (nat_lt t.elements 256) valid in
    record { drive = ltb-true t.drive 8 first.0; idn = ltb-true t.idn 65536 first.1; elements = ltb-true t.elements 256 first.2 }
  where
    both_three : (a b c : Bool) → (a && b && c) ≡ true → (a ≡ true) × (b ≡ true) × (c ≡ true)
    both_three true true true e = (refl, refl, refl)
    both_three true true false e = absurd (cc)
    both_three true false c e = absurd (cc)
    both_three false b c e = absurd (cc)

enough : (part octets : ℕ) → 54 ≤ part → octets ≤ 16384 → octets + part - 1 ≤ part * 16384
enough part octets least short = omega (arith, least, short)

few_parts : (part octets : ℕ) → 54 ≤ part → octets ≤ 16384 → parts_of part octets < 65536
few_parts part octets least short = omega (arith, div-le_of_le-mul part (enough part octets least short))

-- the fragments of an element have spellings
fragments_spelled : (fuel opcode : ℕ) (t : Target) (part : ℕ) (bytes : List ℕ) → 1 ≤ opcode → opcode ≤ 4 → has_fragments opcode ≡ true → IsNear t → 54 ≤ part → length bytes ≤ 16384 →
    EachOf HasSpelling (fragments fuel opcode t part bytes)
fragments_spelled zero opcode t part bytes low high has near least few = tt
fragments_spelled (suc fuel) opcode t part bytes low high has near least few = elim (cases_lt part (length bytes)) [
  | inr ends ↦ rw (le-leb (length bytes) part ends) (record { low = low; high = high; fragments = λ e. has; drive = near.drive; elements = near.elements; field = near.idn }, tt)
  | inl more ↦ rw (lt-leb (length bytes) part more) (
    record { low = low; high = high; fragments = λ e. has; drive = near.drive; elements = near.elements; field = few_parts part (length bytes - part) least (omega (arith, few)) },
    fragments_spelled fuel opcode t part (drop part bytes) low high has near least (omega (arith, length-drop part bytes, few)),
  )
]

module _ {S : Type 0} (o : Elements S) (lawful : AreLawful o) (areas : Areas) (sized : AreMailboxes areas) where
  -- each mail of a service has a spelling
  pub told : (q : Service) → is_service q ≡ true → EachOf HasSpelling (mails_of areas.out q)
  told (read t) valid =
      let near = near_of t valid in
      (record { low = omega arith; high = omega arith; fragments = λ e. absurd (cc); drive = near.drive; elements = near.elements; field = near.idn }, tt)
  told (write t bytes) valid =
      let size = both_are (is_target t) (nat_le (length bytes) most) valid in
      fragments_spelled (suc (length bytes)) 3 t (areas.out - 10) bytes (omega arith) (omega arith) refl (near_of t size.0) (omega (arith, sized.out_least)) (leb-true (length bytes) 16384 size.1)

  refusal_spelled : (opcode : ℕ) (t : Target) (code : ℕ) → 1 ≤ opcode → opcode ≤ 4 → IsNear t → HasSpelling (mail (refusal opcode t code))
  refusal_spelled opcode t code low high near =
      record { low = low; high = high; fragments = λ e. absurd (cc); drive = near.drive; elements = near.elements; field = near.idn }

  read_spelled : (app : S) (t : Target) (r : Result (List ℕ) ℕ) → o.valid app ≡ true → IsNear t → o.read app t ≡ r → EachOf HasSpelling (answer_to_read o lawful areas sized t r)
  read_spelled app t (Ok bytes) fine near is =
      fragments_spelled (suc (length bytes)) 2 t (areas.back - 10) bytes (omega arith) (omega arith) refl near (omega (arith, sized.back_least)) (lawful.short app t bytes fine is)
  read_spelled app t (Err code) fine near is = (refusal_spelled 2 t code (omega arith) (omega arith) near, tt)

  write_spelled : (t : Target) (r : Result S ℕ) → IsNear t → EachOf HasSpelling (answer_to t r)
  write_spelled t (Ok changed) near =
      (record { low = omega arith; high = omega arith; fragments = λ e. absurd (cc); drive = near.drive; elements = near.elements; field = near.idn }, tt)
  write_spelled t (Err code) near = (refusal_spelled 4 t code (omega arith) (omega arith) near, tt)

  answered : (v : Server S) (q : Service) → is_ready o v ≡ true → is_service q ≡ true → EachOf HasSpelling (gives o lawful areas sized v q)
  answered v (read t) ready valid =
      read_spelled v.app t (o.read v.app t) (both_are (o.valid v.app) (is_none v.join) ready).0 (near_of t valid) refl
  answered v (write t bytes) ready valid =
      let size = both_are (is_target t) (nat_le (length bytes) most) valid in
      write_spelled t (o.write v.app t bytes) (near_of t size.0)

  pub soe_spells : Spells (soe_exchange o areas) soe_mail_heard soe_mail_written
  soe_spells = record {
    told = λ v q ready valid. all_read_back (mails_of areas.out q) (told q valid);
    answered = λ v q ready valid. subst (EachOf (ReadsBack soe_mail_heard soe_mail_written)) (sym (kept o lawful areas sized v q ready valid).given)
        (all_read_back (gives o lawful areas sized v q) (answered v q ready valid));
  }

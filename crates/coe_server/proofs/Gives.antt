-- The mails that a server gives are those that wait, in order.
use Rattle.std.proofs.Common.{◌≡◌, inl, inr, ℕ, zero, suc, ◌+◌, ◌-◌, ◌<◌, ◌≤◌, nat_le, Bool, true, false, if◌then◌else◌, List, [], ◌∷◌, ◌++◌, length, take, drop, None, Some, refl, sym, ap, ◌∙◌, arith, length-drop, drop-drop, le-leb}
use Rattle.std.proofs.lemmas.Bool.{cases_lt, lt-leb}
use Rattle.protocol_models.specs.CoeMails.{CoeMail, mail, failed, Information}
use Rattle.protocol_models.specs.CoeServer.{information_parts, parts_of}
use Rattle.coe_server.specs.declared.state.Pending.{Pending}
use Rattle.coe_server.specs.declared.state.Emitted.{Emitted}
use Rattle.coe_server.specs.Serving.{Serving, pending_mails, answers_of, waiting_mails, emergencies, has_message, failure_in, first_part, first_message, pending_behind}

pub given_next : (old new : Serving) (m : CoeMail) → answers_of old ≡ m ∷ answers_of new → new ≡ record old { pending = new.pending } → waiting_mails old ≡ m ∷ waiting_mails new
given_next old new m first same =
    ap (λ l. l ++ emergencies old.emitted old.octets) first ∙ ap (λ e. m ∷ answers_of new ++ e) (sym (ap (λ (s : Serving). emergencies s.emitted s.octets) same))

-- more fuel makes no other parts
parts_fuel : (f g opcode part : ℕ) (bytes : List ℕ) → 0 < part → length bytes < f → length bytes < g → information_parts f opcode part bytes ≡ information_parts g opcode part bytes
parts_fuel zero g opcode part bytes some a b = absurd (omega arith)
parts_fuel (suc f) zero opcode part bytes some a b = absurd (omega arith)
parts_fuel (suc f) (suc g) opcode part bytes some a b = elim (cases_lt part (length bytes)) [
  | inr fits ↦ rw (le-leb (length bytes) part fits) refl
  | inl more ↦
      let same = parts_fuel f g opcode part (drop part bytes) some (omega (arith, length-drop part bytes)) (omega (arith, length-drop part bytes)) in
      rw (lt-leb (length bytes) part more) (ap (λ l. mail (Information opcode true (parts_of part (length bytes - part)) (record { items = take part bytes })) ∷ l) same)
]

more_part : (f opcode part : ℕ) (bytes : List ℕ) → part < length bytes →
    information_parts (suc f) opcode part bytes ≡ mail (Information opcode true (parts_of part (length bytes - part)) (record { items = take part bytes })) ∷ information_parts f opcode part (drop part bytes)
more_part f opcode part bytes more = rw (lt-leb (length bytes) part more) refl

-- the first part of an information answer, and those behind it
parts_first : (room opcode at : ℕ) (told : List ℕ) → 64 ≤ room →
    information_parts (suc (length told)) opcode (room - 12) (drop at told)
    ≡ mail (first_part (room - 12) opcode (drop at told)) ∷ pending_mails room [] told (pending_behind room told (Pending.Parts opcode at))
parts_first room opcode at told least =
    let part = room - 12 in
    let left = drop at told in
    let long : length left ≡ length told - at = length-drop at told in
    elim (cases_lt part (length left)) [
      | inr fits ↦ let few = le-leb (length left) part fits in
          rw (few, sym (ap (λ n. nat_le n part) long) ∙ few) refl
      | inl more ↦ let many = lt-leb (length left) part more in
          more_part (length told) opcode part left more
          ∙ rw (many, sym (ap (λ n. nat_le n part) long) ∙ many)
          (ap (λ l. mail (Information opcode true (parts_of part (length left - part)) (record { items = take part left })) ∷ l)
          (parts_fuel (length told) (suc (length told)) opcode part (drop part left) (omega arith) (omega (arith, length-drop part left, long)) (omega (arith, length-drop part left, long))
          ∙ ap (information_parts (suc (length told)) opcode part) (drop-drop part at told)))
    ]

-- what is to be told begins with its first message
pub first_given : (room : ℕ) (value told : List ℕ) (p : Pending) → 64 ≤ room → has_message p ≡ true →
    pending_mails room value told p ≡ mail (first_message room value told p) ∷ pending_mails room value told (pending_behind room told p)
first_given room value told Pending.Nothing least has = absurd (cc)
first_given room value told (Pending.DownloadAnswer t) least has = refl
first_given room value told (Pending.SegmentAnswer toggle) least has = refl
first_given room value told (Pending.Abort t code) least has = refl
first_given room value told (Pending.Error code) least has = refl
first_given room value told (Pending.Failed detail) least has = absurd (cc)
first_given room value told (Pending.Whole t) least has = refl
first_given room value told (Pending.First t upto) least has = refl
first_given room value told (Pending.Part from toggle) least has = refl
first_given room value told (Pending.Last from toggle) least has = refl
first_given room value told (Pending.Parts opcode from) least has = parts_first room opcode from told least ∙ by (nat_le (length told - from) (room - 12))
  where
    by : (b : Bool) → mail (first_part (room - 12) opcode (drop from told)) ∷ pending_mails room [] told (if b then Pending.Nothing else Pending.Parts opcode (from + (room - 12)))
        ≡ mail (first_part (room - 12) opcode (drop from told)) ∷ pending_mails room value told (if b then Pending.Nothing else Pending.Parts opcode (from + (room - 12)))
    by true = refl
    by false = refl

-- a mailbox error that is to be told is all that is
pub failed_given : (room : ℕ) (value told : List ℕ) (p : Pending) (detail : ℕ) → failure_in p ≡ Some detail → pending_mails room value told p ≡ failed detail ∷ []
failed_given room value told Pending.Nothing detail is = absurd (cc)
failed_given room value told (Pending.DownloadAnswer t) detail is = absurd (cc)
failed_given room value told (Pending.SegmentAnswer toggle) detail is = absurd (cc)
failed_given room value told (Pending.Abort t code) detail is = absurd (cc)
failed_given room value told (Pending.Error code) detail is = absurd (cc)
failed_given room value told (Pending.Failed other) detail is = let same : other ≡ detail = cc in ap (λ n. failed n ∷ []) same
failed_given room value told (Pending.Whole t) detail is = absurd (cc)
failed_given room value told (Pending.First t upto) detail is = absurd (cc)
failed_given room value told (Pending.Part from toggle) detail is = absurd (cc)
failed_given room value told (Pending.Last from toggle) detail is = absurd (cc)
failed_given room value told (Pending.Parts opcode from) detail is = absurd (cc)

-- no answer is to be told where there is neither a message nor a mailbox error
pub none_given : (room : ℕ) (value told : List ℕ) (p : Pending) → has_message p ≡ false → failure_in p ≡ None → pending_mails room value told p ≡ []
none_given room value told Pending.Nothing has is = refl
none_given room value told (Pending.DownloadAnswer t) has is = absurd (cc)
none_given room value told (Pending.SegmentAnswer toggle) has is = absurd (cc)
none_given room value told (Pending.Abort t code) has is = absurd (cc)
none_given room value told (Pending.Error code) has is = absurd (cc)
none_given room value told (Pending.Failed detail) has is = absurd (cc)
none_given room value told (Pending.Whole t) has is = absurd (cc)
none_given room value told (Pending.First t upto) has is = absurd (cc)
none_given room value told (Pending.Part from toggle) has is = absurd (cc)
none_given room value told (Pending.Last from toggle) has is = absurd (cc)
none_given room value told (Pending.Parts opcode from) has is = absurd (cc)

-- an emergency that waits was emitted
pub emergency_left : (emitted : Emitted) (octets : List ℕ) → (emergencies emitted octets ≡ [] → ⊥) → emitted ≡ Emitted.Emergency
emergency_left Emitted.Nothing octets some = absurd (some refl)
emergency_left Emitted.Emergency octets some = refl
emergency_left Emitted.Packet octets some = absurd (some refl)

-- What the client makes of a mail is what the mail is to it.
use Rattle.std.proofs.Common.{◌≡◌, ℕ, zero, suc, ◌+◌, ◌-◌, ◌<◌, ◌≤◌, Bool, true, false, not, ◌&&◌, ◌||◌, nat_lt, ◌==◌, List, [], ◌∷◌, ◌++◌, length, if◌then◌else◌, None, Some, refl, sym, ap, ◌∙◌, arith, eqb-true, ltb-true, ltb-false, lt-ltb, le-ltb}
use Rattle.std.proofs.lemmas.Bool.{eqb-false}
use Rattle.arrayvec.specs.ArrayVec.{ArrayVec}
use Rattle.protocol_models.specs.of_mailbox_mail.declared.outcome.ReplyKind.{ReplyKind}
use Rattle.protocol_models.specs.of_mailbox_mail.declared.outcome.Took.{Took}
use Rattle.protocol_models.specs.CoeMails.{Coe, CoeMail, mail, unread, failed, fragment, other, Emergency, Expedited, First, Upload, DownloadAnswer, ExpeditedAnswer, FirstAnswer, Segment, SegmentAnswer, UploadSegment, UploadSegmentAnswer, Abort, ListRequest, ObjectRequest, EntryRequest, Information, InformationError}
use Rattle.protocol_models.specs.Tables.{Target}
use Rattle.protocol_models.specs.CoeServer.{same}
use Rattle.protocol_models.specs.CoeClient.{is_download_answer, is_part, is_information, information_refused, value_begins, is_of, most, at_end, segments_end, is_segment_answer, sdo_refused, parts_end, upload_ends, information_ends}
use Rattle.coe_client.specs.declared.state.Task.{Task}
use Rattle.coe_client.specs.declared.state.Unsent.{Unsent}
use Rattle.coe_client.specs.declared.state.Awaits.{Awaits}
use Rattle.coe_client.specs.Talk.{Talking, target_of, sending, later, awaited, lets_go, goes_on, is_sound, is_left, is_paced}
use Rattle.coe_client.proofs.Paced.{accepted_whole, answered_whole}
use Rattle.coe_client.specs.Hear.{Heard, TookIs, foreign, onward, refused, valued, answered, parted, hear_acceptance, hear_segment, hear_whole, hear_first, hear_part, hear_information, hear_abort, hear_error, hear_failed, hear_message, hear_mail}

no_length : (xs : List ℕ) → (length xs == 0) ≡ true → xs ≡ []
no_length [] e = refl
no_length (x ∷ xs) e = absurd (omega (arith, eqb-true (length (x ∷ xs)) 0 e))

both_left : (a b : Bool) → (a && b) ≡ true → a ≡ true
both_left true b e = refl
both_left false b e = absurd (cc)

both_right : (a b : Bool) → (a && b) ≡ true → b ≡ true
both_right true b e = e
both_right false b e = absurd (cc)

not_true : (b : Bool) → not b ≡ true → b ≡ false
not_true true e = absurd (cc)
not_true false e = refl

not_false : (b : Bool) → not b ≡ false → b ≡ true
not_false true e = refl
not_false false e = absurd (cc)

or_right : (a b : Bool) → (a || b) ≡ false → b ≡ false
or_right true b e = absurd (cc)
or_right false b e = e

shorter : (a b : ℕ) → nat_lt b a ≡ false → (a == b) ≡ false → a < b
shorter a b few apart = let apart_is : a ≡ b → ⊥ = eqb-false a b apart in omega (arith, ltb-false b a few)

-- a mail behind which the numbers of mails agree
onward_sum : (going : Bool) (quota : ℕ) (m : CoeMail) (hs : List CoeMail) → lets_go m ≡ true → (if going then quota + 1 else quota) + goes_on going hs ≡ quota + goes_on going (m ∷ hs)
onward_sum true quota m hs go = rw go (omega arith)
onward_sum false quota m hs go = refl

halt_sum : (going : Bool) (quota : ℕ) (m : CoeMail) (hs : List CoeMail) → lets_go m ≡ false → quota + goes_on false hs ≡ quota + goes_on going (m ∷ hs)
halt_sum true quota m hs halt = rw halt refl
halt_sum false quota m hs halt = refl

-- a mail that lets none go leaves the number of mails
halted : (going : Bool) (quota : ℕ) (m : CoeMail) (hs : List CoeMail) → lets_go m ≡ false → quota + goes_on going (m ∷ hs) ≡ quota + goes_on going []
halted true quota m hs halt = rw halt refl
halted false quota m hs halt = refl

-- a mail that completes and continues nothing
record IsUnawaited (m : CoeMail) : Type 0 where
  download : (t : Target) → is_download_answer t m ≡ false
  segment : (toggle : Bool) → is_segment_answer toggle m ≡ false
  sdo : (ms : List CoeMail) → sdo_refused m ms ≡ None
  value : (t : Target) (ms : List CoeMail) → value_begins t m ms ≡ None
  part : (toggle : Bool) → is_part toggle m ≡ false
  information : (opcode : ℕ) → is_information opcode m ≡ false
  error : (ms : List CoeMail) → information_refused m ms ≡ None

module _ (room : ℕ) (task : Task) (bytes : List ℕ) (unsent : Unsent) (quota : ℕ) (going : Bool) (value : List ℕ) (least : 64 ≤ room) (unsent_left : is_left unsent bytes ≡ true) where
  -- the client, by what it awaits
  abbrev at : Awaits → Talking
  at a = record { room = room; task = task; bytes = bytes; unsent = unsent; quota = quota; going = going; awaits = a; value = value }

  abbrev Is : Awaits → CoeMail → Heard → Type 0
  Is a m h = TookIs h.0 (at a) m h.1

  choose : (a : Awaits) (m : CoeMail) (b : Bool) (x y : Heard) → (b ≡ true → Is a m x) → (b ≡ false → Is a m y) → Is a m (if b then x else y)
  choose a m true x y p q = p refl
  choose a m false x y p q = q refl

  is_foreign : (a : Awaits) (m : CoeMail) → ((ms : List CoeMail) → awaited (at a) (m ∷ ms) ≡ None) → Is a m (foreign (at a))
  is_foreign a m none = (none, refl)

  -- a mail that lets one more go, or none
  mails_onward : (m : CoeMail) → lets_go m ≡ true → (hs : List CoeMail) → sending room task bytes unsent (onward (at Awaits.Nothing) + goes_on going hs) ≡ sending room task bytes unsent (quota + goes_on going (m ∷ hs))
  mails_onward m go hs = ap (sending room task bytes unsent) (onward_sum going quota m hs go)

  mails_halt : (m : CoeMail) → lets_go m ≡ false → (hs : List CoeMail) → sending room task bytes unsent (quota + goes_on false hs) ≡ sending room task bytes unsent (quota + goes_on going (m ∷ hs))
  mails_halt m halt hs = ap (sending room task bytes unsent) (halt_sum going quota m hs halt)

  mails_sent : (m : CoeMail) → lets_go m ≡ false → later (at Awaits.Nothing) [] ≡ [] → (hs : List CoeMail) → [] ≡ sending room task bytes unsent (quota + goes_on going (m ∷ hs))
  mails_sent m halt sent hs = sym (ap (sending room task bytes unsent) (halted going quota m hs halt) ∙ sent)

  not_none : (left : ℕ) → (left == 0) ≡ false → 0 < left
  not_none left e = let apart : left ≡ 0 → ⊥ = eqb-false left 0 e in omega arith

  some_yet : (left : ℕ) (toggle : Bool) → 0 < left → segments_end left toggle [] ≡ None
  some_yet zero toggle some = absurd (omega arith)
  some_yet (suc left) toggle some = refl

  some_open : (left : ℕ) (toggle : Bool) → 0 < left → (detail : ℕ) → segments_end left toggle (failed detail ∷ []) ≡ Some (ReplyKind.MailboxError detail, [])
  some_open zero toggle some detail = absurd (omega arith)
  some_open (suc left) toggle some detail = refl

  -- whether none is unsent where no mail may go
  abbrev AllSent : Type 0
  AllSent = later (at Awaits.Nothing) [] ≡ [] → unsent ≡ Unsent.Nothing

  is_answered : (a : Awaits) (m : CoeMail) (left : ℕ) (toggle : Bool) → lets_go m ≡ true → value ≡ [] → (left ≡ 0 → AllSent) → ((ms : List CoeMail) → segments_end left toggle ms ≡ awaited (at a) (m ∷ ms)) → Is a m (answered (at a) left toggle)
  is_answered a m left toggle go empty all reads = choose a m (left == 0) _ _
      (λ e. record {
        replies = λ ms. ap (λ v. at_end ms (ReplyKind.Done, v)) empty ∙ ap (λ n. segments_end n toggle ms) (sym (eqb-true left 0 e)) ∙ reads ms;
        over = refl;
        none = λ hs. refl;
        mails = λ sent hs. sym (ap (λ u. sending room task bytes u (quota + goes_on going (m ∷ hs))) (all (eqb-true left 0 e) sent));
        room = refl;
      })
      (λ e. (record { replies = reads; mails = mails_onward m go; room = refl }, record { over = refl; yet = some_yet left toggle (not_none left e); open_to = some_open left toggle (not_none left e) }))

  took_acceptance : (a : Awaits) → is_sound a value ≡ true → is_paced room task bytes unsent quota going a ≡ true → (index sub : ℕ) → Is a (mail (DownloadAnswer index sub)) (hear_acceptance (at a) a index sub)
  took_acceptance Awaits.Nothing sound paced index sub = is_foreign Awaits.Nothing (mail (DownloadAnswer index sub)) (λ ms. refl)
  took_acceptance Awaits.Acceptance sound paced index sub = choose Awaits.Acceptance (mail (DownloadAnswer index sub)) (is_of (target_of task) index sub) _ _
      (λ e. is_answered Awaits.Acceptance (mail (DownloadAnswer index sub)) _ false refl (no_length value sound)
      (λ none. accepted_whole room task bytes unsent quota going least unsent_left none paced) (λ ms. rw e refl))
      (λ e. is_foreign Awaits.Acceptance (mail (DownloadAnswer index sub)) (λ ms. rw e refl))
  took_acceptance (Awaits.SegmentAnswers left toggle) sound paced index sub = is_foreign (Awaits.SegmentAnswers left toggle) (mail (DownloadAnswer index sub)) (none left)
    where
      none : (left : ℕ) (ms : List CoeMail) → segments_end left toggle (mail (DownloadAnswer index sub) ∷ ms) ≡ None
      none zero ms = refl
      none (suc left) ms = refl
  took_acceptance Awaits.FirstAnswer sound paced index sub = is_foreign Awaits.FirstAnswer (mail (DownloadAnswer index sub)) (λ ms. refl)
  took_acceptance (Awaits.Parts size toggle) sound paced index sub = is_foreign (Awaits.Parts size toggle) (mail (DownloadAnswer index sub)) (λ ms. refl)
  took_acceptance (Awaits.Information opcode) sound paced index sub = is_foreign (Awaits.Information opcode) (mail (DownloadAnswer index sub)) (λ ms. refl)
  took_acceptance (Awaits.Over kind) sound paced index sub = is_foreign (Awaits.Over kind) (mail (DownloadAnswer index sub)) (λ ms. refl)

  -- a state with segments to be answered has at least one
  some_left : (left : ℕ) (toggle : Bool) → (nat_lt 0 left && length value == 0) ≡ true → 0 < left
  some_left left toggle sound = ltb-true 0 left (both_left (nat_lt 0 left) (length value == 0) sound)

  empty_value : (left : ℕ) → (nat_lt 0 left && length value == 0) ≡ true → value ≡ []
  empty_value left sound = no_length value (both_right (nat_lt 0 left) (length value == 0) sound)

  one_answered : (left : ℕ) (toggle : Bool) (m : CoeMail) (ms : List CoeMail) → 0 < left → is_segment_answer toggle m ≡ true → segments_end (left - 1) (not toggle) ms ≡ segments_end left toggle (m ∷ ms)
  one_answered zero toggle m ms some is = absurd (omega arith)
  one_answered (suc left) toggle m ms some is =
      let back : suc left - 1 ≡ left = omega arith in
      let whole : segments_end (suc left) toggle (m ∷ ms) ≡ segments_end left (not toggle) ms = rw is refl in
      ap (λ n. segments_end n (not toggle) ms) back ∙ sym whole

  not_answered : (left : ℕ) (toggle : Bool) (m : CoeMail) (ms : List CoeMail) → is_segment_answer toggle m ≡ false → sdo_refused m ms ≡ None → segments_end left toggle (m ∷ ms) ≡ None
  not_answered zero toggle m ms is none = refl
  not_answered (suc left) toggle m ms is none = rw is none

  took_segment : (a : Awaits) → is_sound a value ≡ true → is_paced room task bytes unsent quota going a ≡ true → (came : Bool) → Is a (mail (SegmentAnswer came)) (hear_segment (at a) a came)
  took_segment Awaits.Nothing sound paced came = is_foreign Awaits.Nothing (mail (SegmentAnswer came)) (λ ms. refl)
  took_segment Awaits.Acceptance sound paced came = is_foreign Awaits.Acceptance (mail (SegmentAnswer came)) (λ ms. refl)
  took_segment (Awaits.SegmentAnswers left toggle) sound paced came = choose (Awaits.SegmentAnswers left toggle) (mail (SegmentAnswer came)) (same toggle came) _ _
      (λ e. is_answered (Awaits.SegmentAnswers left toggle) (mail (SegmentAnswer came)) (left - 1) (not toggle) refl (empty_value left sound)
      (λ none. answered_whole room task bytes unsent quota going left toggle least unsent_left none paced)
      (λ ms. one_answered left toggle (mail (SegmentAnswer came)) ms (some_left left toggle sound) e))
      (λ e. is_foreign (Awaits.SegmentAnswers left toggle) (mail (SegmentAnswer came)) (λ ms. not_answered left toggle (mail (SegmentAnswer came)) ms e refl))
  took_segment Awaits.FirstAnswer sound paced came = is_foreign Awaits.FirstAnswer (mail (SegmentAnswer came)) (λ ms. refl)
  took_segment (Awaits.Parts size toggle) sound paced came = is_foreign (Awaits.Parts size toggle) (mail (SegmentAnswer came)) (λ ms. refl)
  took_segment (Awaits.Information opcode) sound paced came = is_foreign (Awaits.Information opcode) (mail (SegmentAnswer came)) (λ ms. refl)
  took_segment (Awaits.Over kind) sound paced came = is_foreign (Awaits.Over kind) (mail (SegmentAnswer came)) (λ ms. refl)

  -- a mail that ends the service with a value, and one that refuses it
  is_valued : (a : Awaits) (m : CoeMail) (octets : List ℕ) → lets_go m ≡ false → ((ms : List CoeMail) → at_end ms (ReplyKind.Value, value ++ octets) ≡ awaited (at a) (m ∷ ms)) → Is a m (valued (at a) octets)
  is_valued a m octets halt reads = record { replies = reads; over = refl; none = λ hs. refl; mails = mails_sent m halt; room = refl }

  is_refused : (a : Awaits) (m : CoeMail) (kind : ReplyKind) → lets_go m ≡ false → ((ms : List CoeMail) → at_end ms (kind, []) ≡ awaited (at a) (m ∷ ms)) → Is a m (refused (at a) kind)
  is_refused a m kind halt reads = record { replies = reads; over = refl; none = λ hs. refl; mails = mails_sent m halt; room = refl }

  is_parted : (a : Awaits) (m : CoeMail) (size : ℕ) (toggle : Bool) (octets : List ℕ) → lets_go m ≡ true → ((ms : List CoeMail) → parts_end size (value ++ octets) toggle ms ≡ awaited (at a) (m ∷ ms)) →
      Is a m (parted (at a) size toggle octets)
  is_parted a m size toggle octets go reads = (record { replies = reads; mails = mails_onward m go; room = refl }, record { over = refl; yet = refl; open_to = λ detail. refl })

  took_whole : (a : Awaits) → is_sound a value ≡ true → (index sub : ℕ) (octets : ArrayVec ℕ) → Is a (mail (ExpeditedAnswer index sub octets)) (hear_whole (at a) a index sub octets.items)
  took_whole Awaits.Nothing sound index sub octets = is_foreign Awaits.Nothing (mail (ExpeditedAnswer index sub octets)) (λ ms. refl)
  took_whole Awaits.Acceptance sound index sub octets = is_foreign Awaits.Acceptance (mail (ExpeditedAnswer index sub octets)) (λ ms. refl)
  took_whole (Awaits.SegmentAnswers left toggle) sound index sub octets = is_foreign (Awaits.SegmentAnswers left toggle) (mail (ExpeditedAnswer index sub octets))
      (λ ms. not_answered left toggle (mail (ExpeditedAnswer index sub octets)) ms refl refl)
  took_whole Awaits.FirstAnswer sound index sub octets = choose Awaits.FirstAnswer (mail (ExpeditedAnswer index sub octets)) (is_of (target_of task) index sub) _ _
      (λ e. is_valued Awaits.FirstAnswer (mail (ExpeditedAnswer index sub octets)) octets.items refl
      (λ ms.
      let whole : upload_ends (target_of task) (mail (ExpeditedAnswer index sub octets) ∷ ms) ≡ at_end ms (ReplyKind.Value, octets.items) = rw e refl in
      ap (λ v. at_end ms (ReplyKind.Value, v ++ octets.items)) (no_length value sound) ∙ sym whole))
      (λ e. is_foreign Awaits.FirstAnswer (mail (ExpeditedAnswer index sub octets)) (λ ms. rw e refl))
  took_whole (Awaits.Parts size toggle) sound index sub octets = is_foreign (Awaits.Parts size toggle) (mail (ExpeditedAnswer index sub octets)) (λ ms. refl)
  took_whole (Awaits.Information opcode) sound index sub octets = is_foreign (Awaits.Information opcode) (mail (ExpeditedAnswer index sub octets)) (λ ms. refl)
  took_whole (Awaits.Over kind) sound index sub octets = is_foreign (Awaits.Over kind) (mail (ExpeditedAnswer index sub octets)) (λ ms. refl)

  -- a first answer, behind no octets
  first_as : (index sub size : ℕ) (octets : ArrayVec ℕ) (ms : List CoeMail) → is_of (target_of task) index sub ≡ true → (nat_lt most size || nat_lt size (length octets.items)) ≡ false →
      upload_ends (target_of task) (mail (FirstAnswer index sub size octets) ∷ ms) ≡ (if length octets.items == size then at_end ms (ReplyKind.Value, octets.items) else parts_end size octets.items false ms)
  first_as index sub size octets ms mine fits = rw (mine, fits) refl

  took_first : (a : Awaits) → is_sound a value ≡ true → (index sub size : ℕ) (octets : ArrayVec ℕ) → Is a (mail (FirstAnswer index sub size octets)) (hear_first (at a) a index sub size octets.items)
  took_first Awaits.Nothing sound index sub size octets = is_foreign Awaits.Nothing (mail (FirstAnswer index sub size octets)) (λ ms. refl)
  took_first Awaits.Acceptance sound index sub size octets = is_foreign Awaits.Acceptance (mail (FirstAnswer index sub size octets)) (λ ms. refl)
  took_first (Awaits.SegmentAnswers left toggle) sound index sub size octets = is_foreign (Awaits.SegmentAnswers left toggle) (mail (FirstAnswer index sub size octets))
      (λ ms. not_answered left toggle (mail (FirstAnswer index sub size octets)) ms refl refl)
  took_first Awaits.FirstAnswer sound index sub size octets =
      let m = mail (FirstAnswer index sub size octets) in
      let empty = no_length value sound in
      choose Awaits.FirstAnswer m (not (is_of (target_of task) index sub)) _ _
      (λ e. is_foreign Awaits.FirstAnswer m (λ ms. let no = not_true (is_of (target_of task) index sub) e in rw no refl))
      (λ mine. choose Awaits.FirstAnswer m (nat_lt most size || nat_lt size (length octets.items)) _ _
      (λ e. is_foreign Awaits.FirstAnswer m (λ ms. let yes = not_false (is_of (target_of task) index sub) mine in rw (yes, e) refl))
      (λ fits. let yes = not_false (is_of (target_of task) index sub) mine in choose Awaits.FirstAnswer m (length octets.items == size) _ _
      (λ e.
      let halt : lets_go m ≡ false = let same = eqb-true (length octets.items) size e in rw (le-ltb (length octets.items) size (omega (arith, same))) refl in
      is_valued Awaits.FirstAnswer m octets.items halt (λ ms.
      let whole : upload_ends (target_of task) (m ∷ ms) ≡ at_end ms (ReplyKind.Value, octets.items) = first_as index sub size octets ms yes fits ∙ rw e refl in
      ap (λ v. at_end ms (ReplyKind.Value, v ++ octets.items)) empty ∙ sym whole))
      (λ e.
      let less : length octets.items < size = shorter (length octets.items) size (or_right (nat_lt most size) (nat_lt size (length octets.items)) fits) e in
      let go : lets_go m ≡ true = rw (lt-ltb (length octets.items) size less) refl in
      is_parted Awaits.FirstAnswer m size false octets.items go (λ ms.
      let whole : upload_ends (target_of task) (m ∷ ms) ≡ parts_end size octets.items false ms = first_as index sub size octets ms yes fits ∙ rw e refl in
      ap (λ v. parts_end size (v ++ octets.items) false ms) empty ∙ sym whole))))
  took_first (Awaits.Parts size toggle) sound index sub whole octets = is_foreign (Awaits.Parts size toggle) (mail (FirstAnswer index sub whole octets)) (λ ms. refl)
  took_first (Awaits.Information opcode) sound index sub size octets = is_foreign (Awaits.Information opcode) (mail (FirstAnswer index sub size octets)) (λ ms. refl)
  took_first (Awaits.Over kind) sound index sub size octets = is_foreign (Awaits.Over kind) (mail (FirstAnswer index sub size octets)) (λ ms. refl)

  took_part : (a : Awaits) → is_sound a value ≡ true → (came last : Bool) (octets : ArrayVec ℕ) → Is a (mail (UploadSegmentAnswer came last octets)) (hear_part (at a) a came last octets.items)
  took_part Awaits.Nothing sound came last octets = is_foreign Awaits.Nothing (mail (UploadSegmentAnswer came last octets)) (λ ms. refl)
  took_part Awaits.Acceptance sound came last octets = is_foreign Awaits.Acceptance (mail (UploadSegmentAnswer came last octets)) (λ ms. refl)
  took_part (Awaits.SegmentAnswers left toggle) sound came last octets = is_foreign (Awaits.SegmentAnswers left toggle) (mail (UploadSegmentAnswer came last octets))
      (λ ms. not_answered left toggle (mail (UploadSegmentAnswer came last octets)) ms refl refl)
  took_part Awaits.FirstAnswer sound came last octets = is_foreign Awaits.FirstAnswer (mail (UploadSegmentAnswer came last octets)) (λ ms. refl)
  took_part (Awaits.Parts size toggle) sound came last octets =
      let m = mail (UploadSegmentAnswer came last octets) in
      choose (Awaits.Parts size toggle) m (not (same toggle came)) _ _
      (λ e. is_foreign (Awaits.Parts size toggle) m (λ ms. rw e refl))
      (λ turned. choose (Awaits.Parts size toggle) m (nat_lt size (length (value ++ octets.items))) _ _
      (λ e. is_foreign (Awaits.Parts size toggle) m (λ ms. rw (turned, e) refl))
      (λ fits. by_last m came last octets size toggle turned fits))
    where
      by_last : (m : CoeMail) (came last : Bool) (octets : ArrayVec ℕ) (size : ℕ) (toggle : Bool) → not (same toggle came) ≡ false → nat_lt size (length (value ++ octets.items)) ≡ false →
          Is (Awaits.Parts size toggle) (mail (UploadSegmentAnswer came last octets))
          (if last then (if length (value ++ octets.items) == size then valued (at (Awaits.Parts size toggle)) octets.items else foreign (at (Awaits.Parts size toggle))) else parted (at (Awaits.Parts size toggle)) size (not toggle) octets.items)
      by_last m came true octets size toggle turned fits = choose (Awaits.Parts size toggle) (mail (UploadSegmentAnswer came true octets)) (length (value ++ octets.items) == size) _ _
          (λ e. is_valued (Awaits.Parts size toggle) (mail (UploadSegmentAnswer came true octets)) octets.items refl (λ ms.
          let whole : parts_end size value toggle (mail (UploadSegmentAnswer came true octets) ∷ ms) ≡ at_end ms (ReplyKind.Value, value ++ octets.items) = rw (turned, fits, e) refl in sym whole))
          (λ e. is_foreign (Awaits.Parts size toggle) (mail (UploadSegmentAnswer came true octets)) (λ ms. rw (turned, fits, e) refl))
      by_last m came false octets size toggle turned fits = is_parted (Awaits.Parts size toggle) (mail (UploadSegmentAnswer came false octets)) size (not toggle) octets.items refl (λ ms.
          let whole : parts_end size value toggle (mail (UploadSegmentAnswer came false octets) ∷ ms) ≡ parts_end size (value ++ octets.items) (not toggle) ms = rw (turned, fits) refl in sym whole)
  took_part (Awaits.Information opcode) sound came last octets = is_foreign (Awaits.Information opcode) (mail (UploadSegmentAnswer came last octets)) (λ ms. refl)
  took_part (Awaits.Over kind) sound came last octets = is_foreign (Awaits.Over kind) (mail (UploadSegmentAnswer came last octets)) (λ ms. refl)

  took_information : (a : Awaits) → is_sound a value ≡ true → (came : ℕ) (incomplete : Bool) (left : ℕ) (octets : ArrayVec ℕ) →
      Is a (mail (Information came incomplete left octets)) (hear_information (at a) a came incomplete octets.items)
  took_information Awaits.Nothing sound came incomplete left octets = is_foreign Awaits.Nothing (mail (Information came incomplete left octets)) (λ ms. refl)
  took_information Awaits.Acceptance sound came incomplete left octets = is_foreign Awaits.Acceptance (mail (Information came incomplete left octets)) (λ ms. refl)
  took_information (Awaits.SegmentAnswers n toggle) sound came incomplete left octets = is_foreign (Awaits.SegmentAnswers n toggle) (mail (Information came incomplete left octets))
      (λ ms. not_answered n toggle (mail (Information came incomplete left octets)) ms refl refl)
  took_information Awaits.FirstAnswer sound came incomplete left octets = is_foreign Awaits.FirstAnswer (mail (Information came incomplete left octets)) (λ ms. refl)
  took_information (Awaits.Parts size toggle) sound came incomplete left octets = is_foreign (Awaits.Parts size toggle) (mail (Information came incomplete left octets)) (λ ms. refl)
  took_information (Awaits.Information opcode) sound came incomplete left octets =
      let m = mail (Information came incomplete left octets) in
      choose (Awaits.Information opcode) m (not (came == opcode)) _ _
      (λ e. is_foreign (Awaits.Information opcode) m (λ ms. rw e refl))
      (λ mine. choose (Awaits.Information opcode) m (nat_lt most (length (value ++ octets.items))) _ _
      (λ e. is_foreign (Awaits.Information opcode) m (λ ms. rw (mine, e) refl))
      (λ fits. by_more opcode came incomplete left octets mine fits))
    where
      by_more : (opcode came : ℕ) (incomplete : Bool) (left : ℕ) (octets : ArrayVec ℕ) → not (came == opcode) ≡ false → nat_lt most (length (value ++ octets.items)) ≡ false →
          Is (Awaits.Information opcode) (mail (Information came incomplete left octets))
          (if incomplete then (Took.More, record (at (Awaits.Information opcode)) { value = value ++ octets.items; going = false }) else valued (at (Awaits.Information opcode)) octets.items)
      by_more opcode came true left octets mine fits = (
        record {
          replies = λ ms. let whole : information_ends opcode value (mail (Information came true left octets) ∷ ms) ≡ information_ends opcode (value ++ octets.items) ms = rw (mine, fits) refl in sym whole;
          mails = mails_halt (mail (Information came true left octets)) refl;
          room = refl;
        },
        record { over = refl; yet = refl; open_to = λ detail. refl },
      )
      by_more opcode came false left octets mine fits = is_valued (Awaits.Information opcode) (mail (Information came false left octets)) octets.items refl (λ ms.
          let whole : information_ends opcode value (mail (Information came false left octets) ∷ ms) ≡ at_end ms (ReplyKind.Value, value ++ octets.items) = rw (mine, fits) refl in sym whole)
  took_information (Awaits.Over kind) sound came incomplete left octets = is_foreign (Awaits.Over kind) (mail (Information came incomplete left octets)) (λ ms. refl)

  -- a refusal in the place of a segment answer
  refused_segment : (left : ℕ) (toggle : Bool) (m : CoeMail) (ms : List CoeMail) → 0 < left → is_segment_answer toggle m ≡ false → segments_end left toggle (m ∷ ms) ≡ sdo_refused m ms
  refused_segment zero toggle m ms some is = absurd (omega arith)
  refused_segment (suc left) toggle m ms some is = rw is refl

  took_abort : (a : Awaits) → is_sound a value ≡ true → (index sub code : ℕ) → Is a (mail (Abort index sub code)) (hear_abort (at a) a code)
  took_abort Awaits.Nothing sound index sub code = is_foreign Awaits.Nothing (mail (Abort index sub code)) (λ ms. refl)
  took_abort Awaits.Acceptance sound index sub code = is_refused Awaits.Acceptance (mail (Abort index sub code)) (ReplyKind.Abort code) refl (λ ms. refl)
  took_abort (Awaits.SegmentAnswers left toggle) sound index sub code = is_refused (Awaits.SegmentAnswers left toggle) (mail (Abort index sub code)) (ReplyKind.Abort code) refl
      (λ ms. sym (refused_segment left toggle (mail (Abort index sub code)) ms (some_left left toggle sound) refl))
  took_abort Awaits.FirstAnswer sound index sub code = is_refused Awaits.FirstAnswer (mail (Abort index sub code)) (ReplyKind.Abort code) refl (λ ms. refl)
  took_abort (Awaits.Parts size toggle) sound index sub code = is_refused (Awaits.Parts size toggle) (mail (Abort index sub code)) (ReplyKind.Abort code) refl (λ ms. refl)
  took_abort (Awaits.Information opcode) sound index sub code = is_foreign (Awaits.Information opcode) (mail (Abort index sub code)) (λ ms. refl)
  took_abort (Awaits.Over kind) sound index sub code = is_foreign (Awaits.Over kind) (mail (Abort index sub code)) (λ ms. refl)

  took_error : (a : Awaits) → is_sound a value ≡ true → (code : ℕ) → Is a (mail (InformationError code)) (hear_error (at a) a code)
  took_error Awaits.Nothing sound code = is_foreign Awaits.Nothing (mail (InformationError code)) (λ ms. refl)
  took_error Awaits.Acceptance sound code = is_foreign Awaits.Acceptance (mail (InformationError code)) (λ ms. refl)
  took_error (Awaits.SegmentAnswers left toggle) sound code = is_foreign (Awaits.SegmentAnswers left toggle) (mail (InformationError code))
      (λ ms. not_answered left toggle (mail (InformationError code)) ms refl refl)
  took_error Awaits.FirstAnswer sound code = is_foreign Awaits.FirstAnswer (mail (InformationError code)) (λ ms. refl)
  took_error (Awaits.Parts size toggle) sound code = is_foreign (Awaits.Parts size toggle) (mail (InformationError code)) (λ ms. refl)
  took_error (Awaits.Information opcode) sound code = is_refused (Awaits.Information opcode) (mail (InformationError code)) (ReplyKind.Abort code) refl (λ ms. refl)
  took_error (Awaits.Over kind) sound code = is_foreign (Awaits.Over kind) (mail (InformationError code)) (λ ms. refl)

  took_failed : (a : Awaits) → is_sound a value ≡ true → (detail : ℕ) → Is a (failed detail) (hear_failed (at a) a detail)
  took_failed Awaits.Nothing sound detail = is_foreign Awaits.Nothing (failed detail) (λ ms. refl)
  took_failed Awaits.Acceptance sound detail = is_refused Awaits.Acceptance (failed detail) (ReplyKind.MailboxError detail) refl (λ ms. refl)
  took_failed (Awaits.SegmentAnswers left toggle) sound detail = is_refused (Awaits.SegmentAnswers left toggle) (failed detail) (ReplyKind.MailboxError detail) refl
      (λ ms. sym (refused_segment left toggle (failed detail) ms (some_left left toggle sound) refl))
  took_failed Awaits.FirstAnswer sound detail = is_refused Awaits.FirstAnswer (failed detail) (ReplyKind.MailboxError detail) refl (λ ms. refl)
  took_failed (Awaits.Parts size toggle) sound detail = is_refused (Awaits.Parts size toggle) (failed detail) (ReplyKind.MailboxError detail) refl (λ ms. refl)
  took_failed (Awaits.Information opcode) sound detail = is_refused (Awaits.Information opcode) (failed detail) (ReplyKind.MailboxError detail) refl (λ ms. refl)
  took_failed (Awaits.Over kind) sound detail = is_foreign (Awaits.Over kind) (failed detail) (λ ms. refl)

  -- a mail that no client awaits
  unawaited : (a : Awaits) (m : CoeMail) → IsUnawaited m → Is a m (foreign (at a))
  unawaited Awaits.Nothing m u = is_foreign Awaits.Nothing m (λ ms. refl)
  unawaited Awaits.Acceptance m u = is_foreign Awaits.Acceptance m (λ ms. rw (u.download (target_of task), u.sdo ms) refl)
  unawaited (Awaits.SegmentAnswers left toggle) m u = is_foreign (Awaits.SegmentAnswers left toggle) m (λ ms. not_answered left toggle m ms (u.segment toggle) (u.sdo ms))
  unawaited Awaits.FirstAnswer m u = is_foreign Awaits.FirstAnswer m (λ ms. u.value (target_of task) ms)
  unawaited (Awaits.Parts size toggle) m u = is_foreign (Awaits.Parts size toggle) m (λ ms. rw (u.part toggle, u.sdo ms) refl)
  unawaited (Awaits.Information opcode) m u = is_foreign (Awaits.Information opcode) m (λ ms. rw (u.information opcode, u.error ms) refl)
  unawaited (Awaits.Over kind) m u = is_foreign (Awaits.Over kind) m (λ ms. refl)

  took_message : (a : Awaits) → is_sound a value ≡ true → is_paced room task bytes unsent quota going a ≡ true → (c : Coe) → Is a (mail c) (hear_message (at a) c)
  took_message a sound paced (DownloadAnswer index sub) = took_acceptance a sound paced index sub
  took_message a sound paced (SegmentAnswer toggle) = took_segment a sound paced toggle
  took_message a sound paced (ExpeditedAnswer index sub octets) = took_whole a sound index sub octets
  took_message a sound paced (FirstAnswer index sub size octets) = took_first a sound index sub size octets
  took_message a sound paced (UploadSegmentAnswer toggle last octets) = took_part a sound toggle last octets
  took_message a sound paced (Information opcode incomplete left octets) = took_information a sound opcode incomplete left octets
  took_message a sound paced (Abort index sub code) = took_abort a sound index sub code
  took_message a sound paced (InformationError code) = took_error a sound code
  took_message a sound paced (Emergency octets) = unawaited a (mail (Emergency octets)) (record { download = λ t. refl; segment = λ toggle. refl; sdo = λ ms. refl; value = λ t ms. refl; part = λ toggle. refl; information = λ opcode. refl; error = λ ms. refl })
  took_message a sound paced (Expedited index sub all octets) = unawaited a (mail (Expedited index sub all octets)) (record { download = λ t. refl; segment = λ toggle. refl; sdo = λ ms. refl; value = λ t ms. refl; part = λ toggle. refl; information = λ opcode. refl; error = λ ms. refl })
  took_message a sound paced (First index sub all size octets) = unawaited a (mail (First index sub all size octets)) (record { download = λ t. refl; segment = λ toggle. refl; sdo = λ ms. refl; value = λ t ms. refl; part = λ toggle. refl; information = λ opcode. refl; error = λ ms. refl })
  took_message a sound paced (Upload index sub all) = unawaited a (mail (Upload index sub all)) (record { download = λ t. refl; segment = λ toggle. refl; sdo = λ ms. refl; value = λ t ms. refl; part = λ toggle. refl; information = λ opcode. refl; error = λ ms. refl })
  took_message a sound paced (Segment toggle last octets) = unawaited a (mail (Segment toggle last octets)) (record { download = λ t. refl; segment = λ toggle. refl; sdo = λ ms. refl; value = λ t ms. refl; part = λ toggle. refl; information = λ opcode. refl; error = λ ms. refl })
  took_message a sound paced (UploadSegment toggle) = unawaited a (mail (UploadSegment toggle)) (record { download = λ t. refl; segment = λ toggle. refl; sdo = λ ms. refl; value = λ t ms. refl; part = λ toggle. refl; information = λ opcode. refl; error = λ ms. refl })
  took_message a sound paced (ListRequest kind) = unawaited a (mail (ListRequest kind)) (record { download = λ t. refl; segment = λ toggle. refl; sdo = λ ms. refl; value = λ t ms. refl; part = λ toggle. refl; information = λ opcode. refl; error = λ ms. refl })
  took_message a sound paced (ObjectRequest index) = unawaited a (mail (ObjectRequest index)) (record { download = λ t. refl; segment = λ toggle. refl; sdo = λ ms. refl; value = λ t ms. refl; part = λ toggle. refl; information = λ opcode. refl; error = λ ms. refl })
  took_message a sound paced (EntryRequest index sub info) = unawaited a (mail (EntryRequest index sub info)) (record { download = λ t. refl; segment = λ toggle. refl; sdo = λ ms. refl; value = λ t ms. refl; part = λ toggle. refl; information = λ opcode. refl; error = λ ms. refl })

  took_mail : (a : Awaits) → is_sound a value ≡ true → is_paced room task bytes unsent quota going a ≡ true → (m : CoeMail) → Is a m (hear_mail (at a) m)
  took_mail a sound paced (mail c) = took_message a sound paced c
  took_mail a sound paced (failed detail) = took_failed a sound detail
  took_mail a sound paced (unread fault service index sub) = unawaited a (unread fault service index sub) (record { download = λ t. refl; segment = λ toggle. refl; sdo = λ ms. refl; value = λ t ms. refl; part = λ toggle. refl; information = λ opcode. refl; error = λ ms. refl })
  took_mail a sound paced (fragment body) = unawaited a (fragment body) (record { download = λ t. refl; segment = λ toggle. refl; sdo = λ ms. refl; value = λ t ms. refl; part = λ toggle. refl; information = λ opcode. refl; error = λ ms. refl })
  took_mail a sound paced (other body) = unawaited a (other body) (record { download = λ t. refl; segment = λ toggle. refl; sdo = λ ms. refl; value = λ t ms. refl; part = λ toggle. refl; information = λ opcode. refl; error = λ ms. refl })

pub took_is : (c : Talking) → 64 ≤ c.room → is_left c.unsent c.bytes ≡ true → is_sound c.awaits c.value ≡ true → is_paced c.room c.task c.bytes c.unsent c.quota c.going c.awaits ≡ true → (m : CoeMail) →
    TookIs (hear_mail c m).0 c m (hear_mail c m).1
took_is c least left sound paced m = took_mail c.room c.task c.bytes c.unsent c.quota c.going c.value least left c.awaits sound paced m

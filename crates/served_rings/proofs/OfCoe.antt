-- What a CoE server answers a mail with: one mail that no other follows, none, or an information in parts. An emergency behind it has its 8 octets.
use Rattle.std.proofs.Common.{◌≡◌, inl, inr, ℕ, zero, suc, ◌-◌, ◌<◌, ◌==◌, ◌||◌, not, nat_le, nat_lt, Bool, true, false, List, [], ◌∷◌, ◌++◌, map, take, drop, length, Option, Some, None, Result, Ok, Err, refl, ap, arith, if◌then◌else◌}
use Rattle.std.specs.Prelude.{◌⊎◌}
use Rattle.served_places.specs.of_exchange_model.Lifted.{EachOf}
use Rattle.served_places.specs.of_coe_codec.Fields.{service_in}
use Rattle.served_places.specs.of_coe_codec.Writing.{coe_text}
use Rattle.run_work.specs.of_protocol_models.CoeMails as Coe
use Rattle.run_work.specs.of_protocol_models.CoeMails.{CoeMail, mail, unread, failed, fragment, other, Abort, DownloadAnswer, SegmentAnswer, ExpeditedAnswer, FirstAnswer, UploadSegmentAnswer, Information, InformationError}
use Rattle.run_work.specs.of_protocol_models.CoeOctets.{AreSpelled, coe_mail_written}
use Rattle.run_work.specs.of_protocol_models.CoeServer.{Transfer, idle, downloading, uploading, Outcome, ended, goes_on, silent, abort, download_answer, same, stored, takes_whole, begins, takes_first, takes_segment, is_expedited, opened, takes_upload_segment, parts_of, information_parts, answer_opcode, informed, unknown_command, takes_unread, coe_takes, coe_outcome, emergency}
use Rattle.run_work.specs.of_protocol_models.Tables.{Target, nowhere, Ask, list, object, entry, Tables}
use Rattle.run_work.specs.of_master_hand.Spoken.{is_followed}
use Rattle.served_places.specs.of_serving_model.Passing.{ends_told}
use Rattle.run_work.specs.of_slave_model.Product.{emission}
use Rattle.run_work.specs.of_slave_model.Server.{told_by}
use Rattle.served_rings.proofs.Ends.{parts_told}
use Rattle.served_rings.proofs.Octets.{other_service, error_ends, part_told}

-- a reply that no other follows
abbrev pub Ends : CoeMail → Type 0
Ends m = (is_followed (told_by coe_mail_written m) ≡ false) × (emission (told_by coe_mail_written m) ≡ false)

message : (c : Coe.Coe) → (service_in (coe_text c) == 8) ≡ false → (service_in (coe_text c) == 1) ≡ false → Ends (mail c)
message c e calm = other_service (coe_text c) e calm

aborted : (t : Target) (code : ℕ) → Ends (abort t code)
aborted t code = message (Abort t.index t.sub code) refl refl

-- the parts of an information are replies
parts_calm : (a : Ask) (fuel part : ℕ) (bytes : List ℕ) → EachOf (λ b. emission b ≡ false) (map (told_by coe_mail_written) (information_parts fuel (answer_opcode a) part bytes))
parts_calm a zero part bytes = tt
parts_calm a (suc fuel) part bytes = by (nat_le (length bytes) part) (parts_calm a fuel part (drop part bytes))
  where
    by : (last : Bool) → EachOf (λ b. emission b ≡ false) (map (told_by coe_mail_written) (information_parts fuel (answer_opcode a) part (drop part bytes))) →
        EachOf (λ b. emission b ≡ false) (map (told_by coe_mail_written) (
        if last then mail (Information (answer_opcode a) false 0 (record { items = bytes })) ∷ []
        else mail (Information (answer_opcode a) true (parts_of part (length bytes - part)) (record { items = take part bytes })) ∷ information_parts fuel (answer_opcode a) part (drop part bytes)))
    by true rest = ((part_told a false 0 bytes).1, tt)
    by false rest = ((part_told a true (parts_of part (length bytes - part)) (take part bytes)).1, rest)

module _ {S : Type 0} (o : Tables S) (spelled : AreSpelled o) (eoe : Bool) (room : ℕ) (wide : 12 < room) (app : S) (valid : o.valid app ≡ true) where
  pub record IsTold (x : Outcome S) : Type 0 where
    pub told : (x.answers ≡ []) ⊎ (ends_told (λ m. is_followed (told_by coe_mail_written m)) x.answers ≡ true)
    pub calm : EachOf (λ b. emission b ≡ false) (map (told_by coe_mail_written) x.answers)
    pub eight : (octets : List ℕ) → x.emission ≡ Some (emergency octets) → length octets ≡ 8

  choice : (b : Bool) (r s : Outcome S) → IsTold r → IsTold s → IsTold (if b then r else s)
  choice true r s p q = p
  choice false r s p q = q

  is_over : (now : S) (transfer : Transfer) (a : CoeMail) → Ends a → IsTold (ended now transfer a)
  is_over now transfer a e = record { told = inr (ap not e.0); calm = (e.1, tt); eight = λ octets emits. absurd (cc) }

  onward : (transfer : Transfer) (a : CoeMail) → Ends a → IsTold (goes_on app transfer a)
  onward transfer a e = record { told = inr (ap not e.0); calm = (e.1, tt); eight = λ octets emits. absurd (cc) }

  none_at_all : (transfer : Transfer) → IsTold (silent app transfer)
  none_at_all transfer = record { told = inl refl; calm = tt; eight = λ octets emits. absurd (cc) }

  stores : (t : Target) (bytes : List ℕ) (answer : CoeMail) → Ends answer → (r : Result S ℕ) → o.download app t bytes ≡ r → IsTold (stored eoe app t bytes answer r)
  stores t bytes answer e (Ok changed) is = record { told = inr (ap not e.0); calm = (e.1, tt); eight = λ octets emits. spelled.eight app changed eoe t bytes octets valid is emits }
  stores t bytes answer e (Err code) is = is_over app idle (abort t code) (aborted t code)

  whole : (t : Target) (bytes : List ℕ) (answer : CoeMail) → Ends answer → IsTold (takes_whole o eoe app t bytes answer)
  whole t bytes answer e = stores t bytes answer e (o.download app t bytes) refl

  begun : (t : Target) (size : ℕ) (part : List ℕ) (r : Option ℕ) → IsTold (begins app t size part r)
  begun t size part None = onward (downloading t size part false) (download_answer t) (message (DownloadAnswer t.index t.sub) refl refl)
  begun t size part (Some code) = is_over app idle (abort t code) (aborted t code)

  first : (t : Target) (size : ℕ) (part : List ℕ) → IsTold (takes_first o eoe app t size part)
  first t size part = choice (size == length part) _ _ (whole t part (download_answer t) (message (DownloadAnswer t.index t.sub) refl refl)) (begun t size part (o.check app t size))

  segment : (transfer : Transfer) (toggle last : Bool) (part : List ℕ) → IsTold (takes_segment o eoe app transfer toggle last part)
  segment idle toggle last part = is_over app idle (abort nowhere 0x05040001) (aborted nowhere 0x05040001)
  segment (uploading t rest expected) toggle last part = is_over app idle (abort t 0x05040001) (aborted t 0x05040001)
  segment (downloading t size got expected) toggle last part =
      let answer : Ends (mail (SegmentAnswer toggle)) = message (SegmentAnswer toggle) refl refl in
      choice (not (same expected toggle)) _ _ (is_over app idle (abort t 0x05030000) (aborted t 0x05030000))
      (choice (nat_lt size (length (got ++ part))) _ _ (is_over app idle (abort t 0x06070012) (aborted t 0x06070012))
      (choice last _ _
      (choice (nat_lt (length (got ++ part)) size) _ _ (is_over app idle (abort t 0x06070013) (aborted t 0x06070013)) (whole t (got ++ part) (mail (SegmentAnswer toggle)) answer))
      (onward (downloading t size (got ++ part) (not expected)) (mail (SegmentAnswer toggle)) answer)))

  opens : (t : Target) (r : Result (List ℕ) ℕ) → IsTold (opened room app t r)
  opens t (Err code) = is_over app idle (abort t code) (aborted t code)
  opens t (Ok bytes) =
      choice (is_expedited bytes) _ _ (is_over app idle _ (message (ExpeditedAnswer t.index t.sub (record { items = bytes })) refl refl))
      (choice (nat_le (length bytes) (room - 16)) _ _ (is_over app idle _ (message (FirstAnswer t.index t.sub (length bytes) (record { items = bytes })) refl refl))
      (is_over app (uploading t (drop (room - 16) bytes) false) _ (message (FirstAnswer t.index t.sub (length bytes) (record { items = take (room - 16) bytes })) refl refl)))

  upload_segment : (transfer : Transfer) (toggle : Bool) → IsTold (takes_upload_segment room app transfer toggle)
  upload_segment idle toggle = is_over app idle (abort nowhere 0x05040001) (aborted nowhere 0x05040001)
  upload_segment (downloading t size got expected) toggle = is_over app idle (abort t 0x05040001) (aborted t 0x05040001)
  upload_segment (uploading t rest expected) toggle =
      choice (not (same expected toggle)) _ _ (onward idle (abort t 0x05030000) (aborted t 0x05030000))
      (choice (nat_le (length rest) (room - 9)) _ _ (onward idle _ (message (UploadSegmentAnswer toggle true (record { items = rest })) refl refl))
      (onward (uploading t (drop (room - 9) rest) (not expected)) _ (message (UploadSegmentAnswer toggle false (record { items = take (room - 9) rest })) refl refl)))

  informs : (transfer : Transfer) (a : Ask) (r : Result (List ℕ) ℕ) → IsTold (informed room app transfer a r)
  informs transfer a (Err code) = is_over app transfer (mail (InformationError code)) (error_ends code)
  informs transfer a (Ok bytes) = record {
    told = inr (parts_told (λ m. is_followed (told_by coe_mail_written m)) (answer_opcode a) (λ part. (part_told a false 0 part).0) (λ left part. (part_told a true left part).0) (suc (length bytes)) (room - 12) bytes (omega (arith, wide)) (omega arith));
    calm = parts_calm a (suc (length bytes)) (room - 12) bytes;
    eight = λ octets emits. absurd (cc);
  }

  unknown : (transfer : Transfer) (information : Bool) (index sub : ℕ) → IsTold (unknown_command app transfer information index sub)
  unknown transfer true index sub = is_over app transfer (mail (InformationError 0x05040001)) (error_ends 0x05040001)
  unknown transfer false index sub = is_over app idle (mail (Abort index sub 0x05040001)) (message (Abort index sub 0x05040001) refl refl)

  fails : (transfer : Transfer) (detail : ℕ) → IsTold (ended app transfer (failed detail))
  fails transfer detail = is_over app transfer (failed detail) (refl, refl)

  unreads : (transfer : Transfer) (fault : Coe.CoeFault) (service index sub : ℕ) → IsTold (takes_unread app transfer fault service index sub)
  unreads transfer Coe.Short service index sub = fails transfer 6
  unreads transfer Coe.Service service index sub = fails transfer 4
  unreads transfer Coe.Command service index sub = choice (service == 1 || service == 3) _ _ (fails transfer 4) (unknown transfer (service == 8) index sub)
  unreads transfer Coe.Size service index sub = choice (service == 1 || service == 3) _ _ (fails transfer 4) (fails transfer 8)

  takes : (transfer : Transfer) (c : Coe.Coe) → IsTold (coe_takes o eoe room app transfer c)
  takes transfer (Coe.Expedited index sub all bytes) = let t : Target = record { index = index; sub = sub; all = all } in whole t bytes.items (download_answer t) (message (DownloadAnswer index sub) refl refl)
  takes transfer (Coe.First index sub all size bytes) = first (record { index = index; sub = sub; all = all }) size bytes.items
  takes transfer (Coe.Segment toggle last bytes) = segment transfer toggle last bytes.items
  takes transfer (Coe.Upload index sub all) = let t : Target = record { index = index; sub = sub; all = all } in opens t (o.upload app t)
  takes transfer (Coe.UploadSegment toggle) = upload_segment transfer toggle
  takes transfer (Abort index sub code) = none_at_all idle
  takes transfer (Coe.ListRequest kind) = informs transfer (list kind) (o.info app (list kind))
  takes transfer (Coe.ObjectRequest index) = informs transfer (object index) (o.info app (object index))
  takes transfer (Coe.EntryRequest index sub info) = informs transfer (entry index sub info) (o.info app (entry index sub info))
  takes transfer (Information opcode incomplete left bytes) = unknown transfer true 0 0
  takes transfer (InformationError code) = unknown transfer true 0 0
  takes transfer (Coe.Emergency octets) = fails transfer 4
  takes transfer (DownloadAnswer index sub) = fails transfer 4
  takes transfer (ExpeditedAnswer index sub bytes) = fails transfer 4
  takes transfer (FirstAnswer index sub size bytes) = fails transfer 4
  takes transfer (SegmentAnswer toggle) = fails transfer 4
  takes transfer (UploadSegmentAnswer toggle last bytes) = fails transfer 4

  pub outcome : (transfer : Transfer) (m : CoeMail) → IsTold (coe_outcome o eoe room app transfer m)
  outcome transfer (mail c) = takes transfer c
  outcome transfer (unread fault service index sub) = unreads transfer fault service index sub
  outcome transfer (failed detail) = none_at_all transfer
  outcome transfer (fragment body) = none_at_all transfer
  outcome transfer (other body) = none_at_all transfer

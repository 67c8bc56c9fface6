-- The mails of CoE.
use Rattle.std.proofs.Common.{◌≡◌, ℕ, zero, suc, ◌+◌, ◌-◌, ◌*◌, ◌/◌, ◌<◌, ◌≤◌, inl, inr, Bool, true, false, not, List, [], ◌∷◌, ◌++◌, length, take, drop, if◌then◌else◌, Some, Result, Ok, Err, refl, ap, ◌∙◌, arith, append-nil, length-drop, length-take, nat_le, le-leb, le-ltb, lt-ltb}
use Rattle.std.proofs.lemmas.Bool.{cases_lt, lt-leb}
use Rattle.slave_parts.specs.of_exchange_model.Areas.{Areas, AreMailboxes}
use Rattle.slave_parts.specs.of_exchange_model.Exchange.{given}
use Rattle.slave_parts.specs.of_exchange_model.Dialogue.{next, stop}
use Rattle.slave_parts.proofs.of_exchange_model.Turns.{sent_none, sent_few}
use Rattle.slave_parts.specs.of_protocol_models.CoeMails.{CoeMail, mail, is_emission, Expedited, First, Upload, ExpeditedAnswer, FirstAnswer, UploadSegment, UploadSegmentAnswer}
use Rattle.slave_parts.specs.of_protocol_models.Tables.{Target, Ask, list, object, entry, Tables, AreLawful}
use Rattle.slave_parts.specs.of_protocol_models.CoeServer.{idle, uploading, Server, coe_outcome, ended, goes_on, opened, informed, information_parts, answer_opcode, takes_upload_segment, abort, is_expedited, behind, serve}
use Rattle.slave_parts.specs.of_protocol_models.CoeMeaning.{Service, download, upload, information, meaning_of}
use Rattle.slave_parts.specs.of_protocol_models.CoeClient.{decide, segments, download_mails, requests, information_mail}
use Rattle.slave_parts.specs.of_protocol_models.CoeModel.{value_length, turns, full, is_service, coe_exchange}
use Rattle.slave_parts.proofs.of_protocol_models.Basics.{same_itself}
use Rattle.slave_parts.proofs.of_protocol_models.CoeCarries.{talk, talk_onward, talk_over}
use Rattle.slave_parts.proofs.of_protocol_models.CoeSpeaks.{replies_counted, never}
use Rattle.slave_parts.proofs.of_protocol_models.CoeLaw.{IsSdo, full_all, ask_full, coe_law}
use Rattle.few_replies.specs.Counts.{third, mails_between, mails_within, coe_octets}
use Rattle.few_replies.proofs.Thirds.{Fits, fits, one_less, both_kinds}

-- the segments of a download
segments_within : (w fuel part : ℕ) (toggle : Bool) (rest : List ℕ) → 0 < w → w ≤ part → length (segments fuel part toggle rest) ≤ suc (length rest / w)
segments_within w zero part toggle rest some wide = omega arith
segments_within w (suc fuel) part toggle rest some wide = elim (cases_lt part (length rest)) [
  | inr ends ↦ rw (le-leb (length rest) part ends) (omega arith)
  | inl more ↦
      let later = segments_within w fuel part (not toggle) (drop part rest) some wide in
      let less = one_less w part (length rest) some wide (omega arith) in
      rw (lt-leb (length rest) part more) (omega (arith, later, less, ap (λ n. n / w) (length-drop part rest)))
]

-- the parts of an information answer
parts_within : (w fuel opcode part : ℕ) (bytes : List ℕ) → 0 < w → w ≤ part → length (information_parts fuel opcode part bytes) ≤ suc (length bytes / w)
parts_within w zero opcode part bytes some wide = omega arith
parts_within w (suc fuel) opcode part bytes some wide = elim (cases_lt part (length bytes)) [
  | inr ends ↦ rw (le-leb (length bytes) part ends) (omega arith)
  | inl more ↦
      let later = parts_within w fuel opcode part (drop part bytes) some wide in
      let less = one_less w part (length bytes) some wide (omega arith) in
      rw (lt-leb (length bytes) part more) (omega (arith, later, less, ap (λ n. n / w) (length-drop part bytes)))
]

-- all mails of a download
download_within : (w room : ℕ) (t : Target) (bytes : List ℕ) → 0 < w → w + 16 ≤ room → length (download_mails room t bytes) ≤ suc (length bytes / w)
download_within w room t bytes some wide = go (is_expedited bytes)
  where
    behind_one : length (if nat_le (length bytes) (room - 16) then [] else segments (length bytes) (room - 9) false (drop (room - 16) bytes)) ≤ length bytes / w
    behind_one = elim (cases_lt (room - 16) (length bytes)) [
      | inr ends ↦ rw (le-leb (length bytes) (room - 16) ends) (omega arith)
      | inl more ↦
          let later = segments_within w (length bytes) (room - 9) false (drop (room - 16) bytes) some (omega arith) in
          let less = one_less w (room - 16) (length bytes) some (omega arith) (omega arith) in
          rw (lt-leb (length bytes) (room - 16) more) (omega (arith, later, less, ap (λ n. n / w) (length-drop (room - 16) bytes)))
    ]

    go : (b : Bool) → length (if b then mail (Expedited t.index t.sub t.all (record { items = bytes })) ∷ []
        else mail (First t.index t.sub t.all (length bytes) (record { items = take (room - 16) bytes })) ∷ (if nat_le (length bytes) (room - 16) then [] else segments (length bytes) (room - 9) false (drop (room - 16) bytes))) ≤ suc (length bytes / w)
    go true = omega arith
    go false = omega (arith, behind_one)

module _ {S : Type 0} (o : Tables S) (eoe : Bool) (areas : Areas) (f : Fits areas) where
  abbrev w : ℕ
  w = third areas

  abbrev in_upload : S → ℕ → Target → List ℕ → Bool → Server S
  in_upload app handled t rest toggle = record { app = app; handled = handled; transfer = uploading t rest toggle }

  last_request : (app : S) (t : Target) (rest : List ℕ) (toggle : Bool) → length rest ≤ areas.back - 9 →
      takes_upload_segment areas.back app (uploading t rest toggle) toggle ≡ goes_on app idle (mail (UploadSegmentAnswer toggle true (record { items = rest })))
  last_request app t rest toggle ends = rw (same_itself toggle, le-leb (length rest) (areas.back - 9) ends) refl

  more_request : (app : S) (t : Target) (rest : List ℕ) (toggle : Bool) → areas.back - 9 < length rest →
      takes_upload_segment areas.back app (uploading t rest toggle) toggle
      ≡ goes_on app (uploading t (drop (areas.back - 9) rest) (not toggle)) (mail (UploadSegmentAnswer toggle false (record { items = take (areas.back - 9) rest })))
  more_request app t rest toggle more = rw (same_itself toggle, lt-leb (length rest) (areas.back - 9) more) refl

  -- the requests for what is left of a value
  requests_within : (n turns : ℕ) (app : S) (handled : ℕ) (t : Target) (rest : List ℕ) (toggle : Bool) →
      length (talk o eoe areas turns (in_upload app handled t rest toggle) (requests n toggle)) ≤ suc (length rest / w)
  requests_within zero turns app handled t rest toggle = omega (arith, ap length (sent_none (serve o eoe areas.back) is_emission decide turns (in_upload app handled t rest toggle)))
  requests_within (suc n) zero app handled t rest toggle = omega arith
  requests_within (suc n) (suc turns) app handled t rest toggle = elim (cases_lt (areas.back - 9) (length rest)) [
    | inr ends ↦
        let a = mail (UploadSegmentAnswer toggle true (record { items = rest })) in
        omega (arith, ap length (talk_over o eoe areas turns (in_upload app handled t rest toggle) (mail (UploadSegment toggle)) a (goes_on app idle a) (requests n (not toggle)) (last_request app t rest toggle ends) refl refl refl))
    | inl more ↦
        let a = mail (UploadSegmentAnswer toggle false (record { items = take (areas.back - 9) rest })) in
        let transfer = uploading t (drop (areas.back - 9) rest) (not toggle) in
        let goes = talk_onward o eoe areas turns (in_upload app handled t rest toggle) (mail (UploadSegment toggle)) a (goes_on app transfer a) (requests n (not toggle)) (more_request app t rest toggle more) refl refl refl in
        let later = requests_within n turns app handled t (drop (areas.back - 9) rest) (not toggle) in
        let less = one_less w (areas.back - 9) (length rest) f.some (omega (arith, f.back)) (omega arith) in
        omega (arith, ap length goes, later, less, ap (λ n. n / w) (length-drop (areas.back - 9) rest))
  ]

  abbrev request : Target → CoeMail
  request t = mail (Upload t.index t.sub t.all)

  -- all mails of an upload
  upload_within : (n turns : ℕ) (v : Server S) (t : Target) (r : Result (List ℕ) ℕ) → o.upload v.app t ≡ r →
      length (talk o eoe areas (suc turns) v (request t ∷ requests n false)) ≤ suc (value_length r / w)
  upload_within n turns v t (Err code) is =
      omega (arith, ap length (talk_over o eoe areas turns v (request t) (abort t code) (ended v.app idle (abort t code)) (requests n false) (ap (opened areas.back v.app t) is) refl refl refl))
  upload_within n turns v t (Ok bytes) is = by_size (is_expedited bytes) refl
    where
      by_size : (b : Bool) → is_expedited bytes ≡ b → length (talk o eoe areas (suc turns) v (request t ∷ requests n false)) ≤ suc (length bytes / w)
      by_size true small =
          let a = mail (ExpeditedAnswer t.index t.sub (record { items = bytes })) in
          let opens : opened areas.back v.app t (Ok bytes) ≡ ended v.app idle a = rw small refl in
          omega (arith, ap length (talk_over o eoe areas turns v (request t) a (ended v.app idle a) (requests n false) (ap (opened areas.back v.app t) is ∙ opens) refl refl refl))
      by_size false long = elim (cases_lt (areas.back - 16) (length bytes)) [
        | inr ends ↦
            let a = mail (FirstAnswer t.index t.sub (length bytes) (record { items = bytes })) in
            let opens : opened areas.back v.app t (Ok bytes) ≡ ended v.app idle a = rw (long, le-leb (length bytes) (areas.back - 16) ends) refl in
            let stops : decide (request t) (a ∷ []) ≡ Some stop = rw (le-ltb (length bytes) (length bytes) (omega arith)) refl in
            omega (arith, ap length (talk_over o eoe areas turns v (request t) a (ended v.app idle a) (requests n false) (ap (opened areas.back v.app t) is ∙ opens) refl refl stops))
        | inl more ↦
            let rest = drop (areas.back - 16) bytes in
            let a = mail (FirstAnswer t.index t.sub (length bytes) (record { items = take (areas.back - 16) bytes })) in
            let transfer = uploading t rest false in
            let opens : opened areas.back v.app t (Ok bytes) ≡ ended v.app transfer a = rw (long, lt-leb (length bytes) (areas.back - 16) more) refl in
            let first : length (take (areas.back - 16) bytes) < length bytes = omega (arith, length-take (areas.back - 16) bytes) in
            let onward : decide (request t) (a ∷ []) ≡ Some next = rw (lt-ltb (length (take (areas.back - 16) bytes)) (length bytes) first) refl in
            let goes = talk_onward o eoe areas turns v (request t) a (ended v.app transfer a) (requests n false) (ap (opened areas.back v.app t) is ∙ opens) refl refl onward in
            let later = requests_within n turns v.app (suc v.handled) t rest false in
            let less = one_less w (areas.back - 16) (length bytes) f.some (omega (arith, f.back)) (omega arith) in
            omega (arith, ap length goes, later, less, ap (λ n. n / w) (length-drop (areas.back - 16) bytes))
      ]

  -- the answer to an information request
  asked : (v : Server S) (a : Ask) → coe_outcome o eoe areas.back v.app v.transfer (information_mail a) ≡ informed areas.back v.app v.transfer a (o.info v.app a)
  asked v (list kind) = refl
  asked v (object index) = refl
  asked v (entry index sub info) = refl

  told_within : (v : Server S) (a : Ask) (r : Result (List ℕ) ℕ) → length (((behind o v.handled (informed areas.back v.app v.transfer a r)).1 ++ [])) ≤ suc (value_length r / w)
  told_within v a (Ok bytes) =
      let parts = information_parts (suc (length bytes)) (answer_opcode a) (areas.back - 12) bytes in
      omega (arith, ap length (append-nil (parts ++ []) ∙ append-nil parts), parts_within w (suc (length bytes)) (answer_opcode a) (areas.back - 12) bytes f.some (omega (arith, f.back)))
  told_within v a (Err code) = omega arith

module _ {S : Type 0} (o : Tables S) (law : AreLawful o) (eoe : Bool) (areas : Areas) (sized : AreMailboxes areas) where
  -- a service with as many replies as mails
  sdo_within : (v : Server S) (q : Service) (most : ℕ) → o.valid v.app ≡ true → is_service q ≡ true → IsSdo o law eoe areas sized q → length (full o eoe areas v q) ≤ most →
      mails_between (coe_exchange o eoe areas) v q ≤ 2 * most + length (meaning_of o eoe v.app q).emits
  sdo_within v q most sound valid sdo few =
      let gives = given (serve o eoe areas.back) v (full o eoe areas v q) in
      let replies = replies_counted o eoe areas v (full o eoe areas v q) (full_all o law eoe areas sized v q sdo) in
      let emits = (coe_law o law eoe areas sized).all_emitted v q sound valid in
      omega (arith, both_kinds is_emission gives, replies, ap length emits, few)

  pub coe_within : (v : Server S) (q : Service) → o.valid v.app ≡ true → is_service q ≡ true →
      mails_between (coe_exchange o eoe areas) v q ≤ mails_within areas (coe_octets o v.app q) + length (meaning_of o eoe v.app q).emits
  coe_within v (download t bytes) sound valid =
      let f = fits areas sized in
      let few = sent_few decide never (serve o eoe areas.back) is_emission (suc (suc (suc (length bytes)))) v (download_mails areas.out t bytes) in
      let all = download_within (third areas) areas.out t bytes f.some (omega (arith, f.out)) in
      omega (arith, sdo_within v (download t bytes) (suc (length bytes / third areas)) sound valid tt (omega (arith, few, all)))
  coe_within v (upload t) sound valid =
      let f = fits areas sized in
      let n = value_length (o.upload v.app t) in
      let all = upload_within o eoe areas f (suc (suc (suc n))) (suc (suc n)) v t (o.upload v.app t) refl in
      omega (arith, sdo_within v (upload t) (suc (n / third areas)) sound valid tt all)
  coe_within v (information a) sound valid =
      let f = fits areas sized in
      let told = ask_full o law eoe areas sized v a in
      let gives : given (serve o eoe areas.back) v (full o eoe areas v (information a)) ≡ (behind o v.handled (informed areas.back v.app v.transfer a (o.info v.app a))).1 ++ [] =
      ap (given (serve o eoe areas.back) v) told ∙ ap (λ x. (behind o v.handled x).1 ++ []) (asked o eoe areas f v a) in
      omega (arith, ap length told, ap length gives, told_within o eoe areas f v a (o.info v.app a))

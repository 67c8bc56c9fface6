-- What a service leaves of the SDO transfer, whatever stood before.
use Rattle.std.proofs.Common.{◌≡◌, inl, inr, ℕ, zero, suc, ◌-◌, ◌<◌, ◌≤◌, Bool, true, false, not, nat_lt, List, [], ◌∷◌, ◌++◌, length, take, drop, Option, None, Some, Result, Ok, Err, refl, ap, ◌∙◌, arith, length-drop, length-take, take_all, eq-eqb, lt-ltb, le-ltb, le-leb}
use Rattle.std.specs.Prelude.{if◌then◌else◌, ◌==◌}
use Rattle.std.proofs.lemmas.Bool.{cases_lt, lt-leb}
use Rattle.idn_table.specs.of_exchange_model.Areas.{Areas}
use Rattle.idn_table.specs.of_exchange_model.Exchange.{after}
use Rattle.idn_table.specs.of_exchange_model.Dialogue.{next, stop}
use Rattle.idn_table.proofs.of_exchange_model.Turns.{sent_none, sent_last}
use Rattle.eoe_server.specs.of_protocol_models.CoeMails.{CoeMail, mail, is_emission, Upload, UploadSegment, UploadSegmentAnswer, FirstAnswer, ExpeditedAnswer, Segment, SegmentAnswer, First, Expedited}
use Rattle.eoe_server.specs.of_protocol_models.Tables.{Target, nowhere, Ask, list, object, entry, Tables}
use Rattle.eoe_server.specs.of_protocol_models.CoeServer.{Transfer, idle, downloading, uploading, Server, Outcome, coe_outcome, behind, serve, ended, goes_on, stored, takes_first, takes_segment, begins, download_answer, abort, opened, informed, same, is_expedited}
use Rattle.eoe_server.specs.of_protocol_models.CoeClient.{decide, segments, requests, download_mails, behind_first, information_mail}
use Rattle.eoe_server.specs.of_protocol_models.CoeModel.{value_length}
use Rattle.idn_table.proofs.of_protocol_models.CoeSpeaks.{never}
use Rattle.idn_table.proofs.of_protocol_models.CoeCarries.{talk, talk_onward, talk_over}

-- a choice of two that are the same
either : {X : Type 0} (P : X → Type 0) (b : Bool) (x y : X) → P x → P y → P (if b then x else y)
either P true x y p q = p
either P false x y p q = q

module _ {S : Type 0} (o : Tables S) (eoe : Bool) (areas : Areas) where
  abbrev step : Server S → CoeMail → Server S × List CoeMail
  step v m = serve o eoe areas.back v m

  -- what is left behind the mails that a client sends of these
  abbrev pub left : ℕ → Server S → List CoeMail → Transfer
  left turns v ms = (after step v (talk o eoe areas turns v ms)).transfer

  left_none : (turns : ℕ) (v : Server S) → left turns v [] ≡ v.transfer
  left_none turns v = ap (λ l. (after step v l).transfer) (sent_none step is_emission decide turns v)

  -- one mail
  left_one : (turns : ℕ) (v : Server S) (m : CoeMail) → left (suc turns) v (m ∷ []) ≡ (coe_outcome o eoe areas.back v.app v.transfer m).transfer
  left_one turns v m = ap (λ l. (after step v l).transfer) (sent_last decide never step is_emission turns v m)

  -- what a mail with more behind it comes to: its answer ends the service, with no transfer left, or lets the client go on
  data Goes (m : CoeMail) (x : Outcome S) : Type 0 where
    over : (a : CoeMail) → x.answers ≡ a ∷ [] → is_emission a ≡ false → decide m (a ∷ []) ≡ Some stop → x.transfer ≡ idle → Goes m x
    onward : (a : CoeMail) → x.answers ≡ a ∷ [] → is_emission a ≡ false → decide m (a ∷ []) ≡ Some next → Goes m x

  left_over : (turns : ℕ) (v : Server S) (m a : CoeMail) (x : Outcome S) (ms : List CoeMail) → coe_outcome o eoe areas.back v.app v.transfer m ≡ x → x.answers ≡ a ∷ [] → is_emission a ≡ false →
      decide m (a ∷ []) ≡ Some stop → left (suc turns) v (m ∷ ms) ≡ x.transfer
  left_over turns v m a x ms is answers calm stops = ap (λ l. (after step v l).transfer) (talk_over o eoe areas turns v m a x ms is answers calm stops) ∙ ap (λ y. (behind o v.handled y).0.transfer) is

  left_onward : (turns : ℕ) (v : Server S) (m a : CoeMail) (x : Outcome S) (ms : List CoeMail) → coe_outcome o eoe areas.back v.app v.transfer m ≡ x → x.answers ≡ a ∷ [] → is_emission a ≡ false →
      decide m (a ∷ []) ≡ Some next → left (suc turns) v (m ∷ ms) ≡ left turns (behind o v.handled x).0 ms
  left_onward turns v m a x ms is answers calm goes =
      ap (λ l. (after step v l).transfer) (talk_onward o eoe areas turns v m a x ms is answers calm goes)
      ∙ ap (λ y. (after step (behind o v.handled y).0 (talk o eoe areas turns (behind o v.handled x).0 ms)).transfer) is

  left_by : (turns : ℕ) (v : Server S) (m : CoeMail) (x : Outcome S) (ms : List CoeMail) → coe_outcome o eoe areas.back v.app v.transfer m ≡ x → Goes m x → left turns (behind o v.handled x).0 ms ≡ idle → left (suc turns) v (m ∷ ms) ≡ idle
  left_by turns v m x ms is (over a answers calm stops none) later = left_over turns v m a x ms is answers calm stops ∙ none
  left_by turns v m x ms is (onward a answers calm goes) later = left_onward turns v m a x ms is answers calm goes ∙ later

  abbrev IsIdle : Outcome S → Type 0
  IsIdle x = x.transfer ≡ idle

  stored_idle : (app : S) (t : Target) (bytes : List ℕ) (a : CoeMail) (r : Result S ℕ) → IsIdle (stored eoe app t bytes a r)
  stored_idle app t bytes a (Ok changed) = refl
  stored_idle app t bytes a (Err code) = refl

  stored_goes : (app : S) (t : Target) (bytes : List ℕ) (m a : CoeMail) (r : Result S ℕ) → is_emission a ≡ false → decide m (a ∷ []) ≡ Some next → Goes m (stored eoe app t bytes a r)
  stored_goes app t bytes m a (Ok changed) calm goes = onward a refl calm goes
  stored_goes app t bytes m a (Err code) calm goes = over (abort t code) refl refl refl refl

  -- ---- downloads

  last_idle : (app : S) (transfer : Transfer) (toggle : Bool) (part : List ℕ) → IsIdle (takes_segment o eoe app transfer toggle true part)
  last_idle app idle toggle part = refl
  last_idle app (uploading t rest expected) toggle part = refl
  last_idle app (downloading t size got expected) toggle part =
      either IsIdle (not (same expected toggle)) _ _ refl
      (either IsIdle (nat_lt size (length (got ++ part))) _ _ refl
      (either IsIdle (nat_lt (length (got ++ part)) size) _ _ refl (stored_idle app t (got ++ part) (mail (SegmentAnswer toggle)) (o.download app t (got ++ part)))))

  more_goes : (app : S) (transfer : Transfer) (toggle : Bool) (part : List ℕ) (m : CoeMail) → Goes m (takes_segment o eoe app transfer toggle false part)
  more_goes app idle toggle part m = over (abort nowhere 0x05040001) refl refl refl refl
  more_goes app (uploading t rest expected) toggle part m = over (abort t 0x05040001) refl refl refl refl
  more_goes app (downloading t size got expected) toggle part m =
      either (Goes m) (not (same expected toggle)) _ _ (over (abort t 0x05030000) refl refl refl refl)
      (either (Goes m) (nat_lt size (length (got ++ part))) _ _ (over (abort t 0x06070012) refl refl refl refl) (onward (mail (SegmentAnswer toggle)) refl refl refl))

  segments_left : (fuel turns : ℕ) (v : Server S) (part : ℕ) (toggle : Bool) (rest : List ℕ) → 0 < part → 0 < length rest → length rest ≤ fuel → length rest ≤ turns → left turns v (segments fuel part toggle rest) ≡ idle
  segments_left zero turns v part toggle rest some more fuels enough = absurd (omega arith)
  segments_left (suc fuel) zero v part toggle rest some more fuels enough = absurd (omega arith)
  segments_left (suc fuel) (suc turns) v part toggle rest some more fuels enough = elim (cases_lt part (length rest)) [
    | inr fits ↦ rw (le-leb (length rest) part fits)
        (left_one turns v (mail (Segment toggle true (record { items = rest }))) ∙ last_idle v.app v.transfer toggle rest)
    | inl long ↦
        let m = mail (Segment toggle false (record { items = take part rest })) in
        let x = takes_segment o eoe v.app v.transfer toggle false (take part rest) in
        rw (lt-leb (length rest) part long)
        (left_by turns v m x (segments fuel part (not toggle) (drop part rest)) refl (more_goes v.app v.transfer toggle (take part rest) m)
        (segments_left fuel turns (behind o v.handled x).0 part (not toggle) (drop part rest) some
        (omega (arith, length-drop part rest)) (omega (arith, length-drop part rest)) (omega (arith, length-drop part rest))))
  ]

  begins_goes : (app : S) (t : Target) (size : ℕ) (part : List ℕ) (m : CoeMail) (r : Option ℕ) → Goes m (begins app t size part r)
  begins_goes app t size part m None = onward (download_answer t) refl refl refl
  begins_goes app t size part m (Some code) = over (abort t code) refl refl refl refl

  first_goes : (app : S) (t : Target) (size : ℕ) (part : List ℕ) (m : CoeMail) → Goes m (takes_first o eoe app t size part)
  first_goes app t size part m =
      either (Goes m) (size == length part) _ _ (stored_goes app t part m (download_answer t) (o.download app t part) refl refl) (begins_goes app t size part m (o.check app t size))

  first_whole : (app : S) (t : Target) (bytes : List ℕ) → IsIdle (takes_first o eoe app t (length bytes) bytes)
  first_whole app t bytes = rw (eq-eqb (length bytes) (length bytes) refl) (stored_idle app t bytes (download_answer t) (o.download app t bytes))

  in_first : (turns : ℕ) (v : Server S) (t : Target) (bytes : List ℕ) → 25 ≤ areas.out → length bytes ≤ turns →
      left (suc turns) v (mail (First t.index t.sub t.all (length bytes) (record { items = take (areas.out - 16) bytes })) ∷ behind_first areas.out bytes) ≡ idle
  in_first turns v t bytes wide enough = elim (cases_lt (areas.out - 16) (length bytes)) [
    | inr fits ↦
        let all : take (areas.out - 16) bytes ≡ bytes = take_all (areas.out - 16) bytes fits in
        rw (le-leb (length bytes) (areas.out - 16) fits, all)
        (left_one turns v (mail (First t.index t.sub t.all (length bytes) (record { items = bytes }))) ∙ first_whole v.app t bytes)
    | inl long ↦
        let m = mail (First t.index t.sub t.all (length bytes) (record { items = take (areas.out - 16) bytes })) in
        let x = takes_first o eoe v.app t (length bytes) (take (areas.out - 16) bytes) in
        rw (lt-leb (length bytes) (areas.out - 16) long)
        (left_by turns v m x (segments (length bytes) (areas.out - 9) false (drop (areas.out - 16) bytes)) refl (first_goes v.app t (length bytes) (take (areas.out - 16) bytes) m)
        (segments_left (length bytes) turns (behind o v.handled x).0 (areas.out - 9) false (drop (areas.out - 16) bytes) (omega arith)
        (omega (arith, length-drop (areas.out - 16) bytes)) (omega (arith, length-drop (areas.out - 16) bytes)) (omega (arith, length-drop (areas.out - 16) bytes))))
  ]

  pub download_left : (turns : ℕ) (v : Server S) (t : Target) (bytes : List ℕ) → 25 ≤ areas.out → length bytes ≤ turns → left (suc turns) v (download_mails areas.out t bytes) ≡ idle
  download_left turns v t bytes wide enough =
      either (λ ms. left (suc turns) v ms ≡ idle) (is_expedited bytes) _ _
      (left_one turns v (mail (Expedited t.index t.sub t.all (record { items = bytes }))) ∙ stored_idle v.app t bytes (download_answer t) (o.download v.app t bytes))
      (in_first turns v t bytes wide enough)

  -- ---- uploads

  abbrev in_upload : S → ℕ → Target → List ℕ → Bool → Server S
  in_upload app handled t rest toggle = record { app = app; handled = handled; transfer = uploading t rest toggle }

  -- one request: later is what is left where more segments come
  request_left : (n turns : ℕ) (app : S) (handled : ℕ) (t : Target) (rest : List ℕ) (expected toggle : Bool) →
      (areas.back - 9 < length rest → left turns (in_upload app handled t (drop (areas.back - 9) rest) (not expected)) (requests n (not toggle)) ≡ idle) → (right : Bool) → same expected toggle ≡ right →
      left (suc turns) (in_upload app handled t rest expected) (mail (UploadSegment toggle) ∷ requests n (not toggle)) ≡ idle
  request_left n turns app handled t rest expected toggle later true right = elim (cases_lt (areas.back - 9) (length rest)) [
    | inr fits ↦
        let a = mail (UploadSegmentAnswer toggle true (record { items = rest })) in
        left_over turns (in_upload app handled t rest expected) (mail (UploadSegment toggle)) a (goes_on app idle a) (requests n (not toggle)) (rw (right, le-leb (length rest) (areas.back - 9) fits) refl) refl refl refl
    | inl long ↦
        let a = mail (UploadSegmentAnswer toggle false (record { items = take (areas.back - 9) rest })) in
        left_onward turns (in_upload app handled t rest expected) (mail (UploadSegment toggle)) a (goes_on app (uploading t (drop (areas.back - 9) rest) (not expected)) a) (requests n (not toggle))
        (rw (right, lt-leb (length rest) (areas.back - 9) long) refl) refl refl refl ∙ later long
  ]
  request_left n turns app handled t rest expected toggle later false wrong =
      let a = abort t 0x05030000 in
      left_over turns (in_upload app handled t rest expected) (mail (UploadSegment toggle)) a (goes_on app idle a) (requests n (not toggle)) (rw wrong refl) refl refl refl

  requests_left : (n turns : ℕ) (app : S) (handled : ℕ) (t : Target) (rest : List ℕ) (expected toggle : Bool) → 10 ≤ areas.back → length rest < n → length rest < turns →
      left turns (in_upload app handled t rest expected) (requests n toggle) ≡ idle
  requests_left zero turns app handled t rest expected toggle wide many enough = absurd (omega arith)
  requests_left (suc n) zero app handled t rest expected toggle wide many enough = absurd (omega arith)
  requests_left (suc n) (suc turns) app handled t rest expected toggle wide many enough =
      request_left n turns app handled t rest expected toggle
      (λ long. requests_left n turns app handled t (drop (areas.back - 9) rest) (not expected) (not toggle) wide
      (omega (arith, many, wide, long, length-drop (areas.back - 9) rest)) (omega (arith, enough, wide, long, length-drop (areas.back - 9) rest)))
      (same expected toggle) refl

  value_left : (n turns : ℕ) (v : Server S) (t : Target) (bytes : List ℕ) → o.upload v.app t ≡ Ok bytes → 25 ≤ areas.back → length bytes ≤ n → length bytes ≤ turns → (expedited : Bool) → is_expedited bytes ≡ expedited →
      left (suc turns) v (mail (Upload t.index t.sub t.all) ∷ requests n false) ≡ idle
  value_left n turns v t bytes is wide many enough true short =
      let a = mail (ExpeditedAnswer t.index t.sub (record { items = bytes })) in
      left_over turns v (mail (Upload t.index t.sub t.all)) a (ended v.app idle a) (requests n false) (ap (opened areas.back v.app t) is ∙ rw short refl) refl refl refl
  value_left n turns v t bytes is wide many enough false whole = elim (cases_lt (areas.back - 16) (length bytes)) [
    | inr fits ↦
        let a = mail (FirstAnswer t.index t.sub (length bytes) (record { items = bytes })) in
        left_over turns v (mail (Upload t.index t.sub t.all)) a (ended v.app idle a) (requests n false) (ap (opened areas.back v.app t) is ∙ rw (whole, le-leb (length bytes) (areas.back - 16) fits) refl) refl refl
        (rw (le-ltb (length bytes) (length bytes) (omega arith)) refl)
    | inl long ↦
        let a = mail (FirstAnswer t.index t.sub (length bytes) (record { items = take (areas.back - 16) bytes })) in
        let less : length (take (areas.back - 16) bytes) < length bytes = omega (arith, length-take (areas.back - 16) bytes) in
        left_onward turns v (mail (Upload t.index t.sub t.all)) a (ended v.app (uploading t (drop (areas.back - 16) bytes) false) a) (requests n false)
        (ap (opened areas.back v.app t) is ∙ rw (whole, lt-leb (length bytes) (areas.back - 16) long) refl) refl refl (rw (lt-ltb (length (take (areas.back - 16) bytes)) (length bytes) less) refl)
        ∙ requests_left n turns v.app (suc v.handled) t (drop (areas.back - 16) bytes) false false (omega arith) (omega (arith, length-drop (areas.back - 16) bytes)) (omega (arith, length-drop (areas.back - 16) bytes))
  ]

  pub upload_left : (n turns : ℕ) (v : Server S) (t : Target) (r : Result (List ℕ) ℕ) → o.upload v.app t ≡ r → 25 ≤ areas.back → value_length r ≤ n → value_length r ≤ turns →
      left (suc turns) v (mail (Upload t.index t.sub t.all) ∷ requests n false) ≡ idle
  upload_left n turns v t (Err code) is wide many enough =
      let a = abort t code in
      left_over turns v (mail (Upload t.index t.sub t.all)) a (ended v.app idle a) (requests n false) (ap (opened areas.back v.app t) is) refl refl refl
  upload_left n turns v t (Ok bytes) is wide many enough = value_left n turns v t bytes is wide many enough (is_expedited bytes) refl

  -- ---- information

  asked : (v : Server S) (a : Ask) → coe_outcome o eoe areas.back v.app v.transfer (information_mail a) ≡ informed areas.back v.app v.transfer a (o.info v.app a)
  asked v (list kind) = refl
  asked v (object index) = refl
  asked v (entry index sub info) = refl

  told_leaves : (app : S) (transfer : Transfer) (a : Ask) (r : Result (List ℕ) ℕ) → (informed areas.back app transfer a r).transfer ≡ transfer
  told_leaves app transfer a (Ok bytes) = refl
  told_leaves app transfer a (Err code) = refl

  pub information_left : (turns : ℕ) (v : Server S) (a : Ask) → left (suc turns) v (information_mail a ∷ []) ≡ v.transfer
  information_left turns v a = left_one turns v (information_mail a) ∙ ap (λ x. x.transfer) (asked v a) ∙ told_leaves v.app v.transfer a (o.info v.app a)

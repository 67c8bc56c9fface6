-- A server answers each SDO request by one mail.
use Rattle.std.proofs.Common.{◌≡◌, ℕ, zero, suc, ◌-◌, ◌≤◌, inl, inr, Bool, true, false, not, List, [], ◌∷◌, ◌++◌, length, drop, if◌then◌else◌, Option, None, Some, Result, Ok, Err, refl, ap, ◌∙◌, arith, nat_lt, nat_le, ◌==◌, le-leb}
use Rattle.std.proofs.lemmas.Bool.{cases_lt, lt-leb}
use Rattle.exchange_model.specs.Areas.{Areas}
use Rattle.exchange_model.specs.Exchange.{given, plain}
use Rattle.exchange_model.specs.Dialogue.{next, again, stop, Decides}
use Rattle.exchange_model.proofs.Turns.{one_answer}
use Rattle.exchange_model.specs.Lifted.{EachOf}
use Rattle.exchange_model.proofs.Words.{plain-append}
use Rattle.protocol_models.specs.CoeMails.{Coe, CoeMail, mail, unread, failed, fragment, other, is_emission, Expedited, First, Upload, Segment, UploadSegment, FirstAnswer, UploadSegmentAnswer}
use Rattle.protocol_models.specs.Tables.{Target, Tables}
use Rattle.protocol_models.specs.CoeServer.{Transfer, idle, downloading, uploading, Outcome, Server, coe_outcome, stored, begins, takes_first, takes_segment, takes_upload_segment, opened, is_expedited, download_answer, same, issued, serve}
use Rattle.protocol_models.specs.CoeClient.{decide, turn_of, segments, download_mails, requests}
use Rattle.protocol_models.proofs.Basics.{answer_plain}

abbrev pub is_request : CoeMail → Bool
is_request (mail (Expedited index sub all bytes)) = true
is_request (mail (First index sub all size bytes)) = true
is_request (mail (Segment toggle last bytes)) = true
is_request (mail (Upload index sub all)) = true
is_request (mail (UploadSegment toggle)) = true
is_request _ = false

abbrev pub AllRequests : List CoeMail → Type 0
AllRequests ms = EachOf (λ m. is_request m ≡ true) ms

-- one answer
record Speaks {S : Type 0} (x : Outcome S) : Type 0 where
  answer : CoeMail
  is : x.answers ≡ answer ∷ []
  calm : is_emission answer ≡ false

module _ {S : Type 0} (o : Tables S) (eoe : Bool) (areas : Areas) where
  either : (b : Bool) (x y : Outcome S) → Speaks x → Speaks y → Speaks (if b then x else y)
  either true x y p q = p
  either false x y p q = q

  by_stored : (app : S) (t : Target) (bytes : List ℕ) (a : CoeMail) → is_emission a ≡ false → (r : Result S ℕ) → Speaks (stored eoe app t bytes a r)
  by_stored app t bytes a calm (Ok changed) = record { answer = a; is = refl; calm = calm }
  by_stored app t bytes a calm (Err code) = record { answer = _; is = refl; calm = refl }

  by_begins : (app : S) (t : Target) (size : ℕ) (part : List ℕ) (found : Option ℕ) → Speaks (begins app t size part found)
  by_begins app t size part None = record { answer = _; is = refl; calm = refl }
  by_begins app t size part (Some code) = record { answer = _; is = refl; calm = refl }

  by_first : (app : S) (t : Target) (size : ℕ) (part : List ℕ) → Speaks (takes_first o eoe app t size part)
  by_first app t size part = either (size == length part) _ _ (by_stored app t part (download_answer t) refl (o.download app t part)) (by_begins app t size part (o.check app t size))

  by_segment : (app : S) (transfer : Transfer) (toggle last : Bool) (part : List ℕ) → Speaks (takes_segment o eoe app transfer toggle last part)
  by_segment app idle toggle last part = record { answer = _; is = refl; calm = refl }
  by_segment app (uploading t rest expected) toggle last part = record { answer = _; is = refl; calm = refl }
  by_segment app (downloading t size got expected) toggle last part =
      either (not (same expected toggle)) _ _ (record { answer = _; is = refl; calm = refl })
      (either (nat_lt size (length (got ++ part))) _ _ (record { answer = _; is = refl; calm = refl })
      (either last _ _
      (either (nat_lt (length (got ++ part)) size) _ _ (record { answer = _; is = refl; calm = refl })
      (by_stored app t (got ++ part) _ refl (o.download app t (got ++ part))))
      (record { answer = _; is = refl; calm = refl })))

  by_opened : (app : S) (t : Target) (r : Result (List ℕ) ℕ) → Speaks (opened areas.back app t r)
  by_opened app t (Err code) = record { answer = _; is = refl; calm = refl }
  by_opened app t (Ok bytes) =
      either (is_expedited bytes) _ _ (record { answer = _; is = refl; calm = refl })
      (either (nat_le (length bytes) (areas.back - 16)) _ _ (record { answer = _; is = refl; calm = refl }) (record { answer = _; is = refl; calm = refl }))

  by_upload_segment : (app : S) (transfer : Transfer) (toggle : Bool) → Speaks (takes_upload_segment areas.back app transfer toggle)
  by_upload_segment app idle toggle = record { answer = _; is = refl; calm = refl }
  by_upload_segment app (downloading t size got expected) toggle = record { answer = _; is = refl; calm = refl }
  by_upload_segment app (uploading t rest expected) toggle =
      either (not (same expected toggle)) _ _ (record { answer = _; is = refl; calm = refl })
      (either (nat_le (length rest) (areas.back - 9)) _ _ (record { answer = _; is = refl; calm = refl }) (record { answer = _; is = refl; calm = refl }))

  speaks : (v : Server S) (m : CoeMail) → is_request m ≡ true → Speaks (coe_outcome o eoe areas.back v.app v.transfer m)
  speaks v (mail (Expedited index sub all bytes)) e =
      let t : Target = record { index = index; sub = sub; all = all } in by_stored v.app t bytes.items (download_answer t) refl (o.download v.app t bytes.items)
  speaks v (mail (First index sub all size bytes)) e = by_first v.app (record { index = index; sub = sub; all = all }) size bytes.items
  speaks v (mail (Segment toggle last bytes)) e = by_segment v.app v.transfer toggle last bytes.items
  speaks v (mail (Upload index sub all)) e = let t : Target = record { index = index; sub = sub; all = all } in by_opened v.app t (o.upload v.app t)
  speaks v (mail (UploadSegment toggle)) e = by_upload_segment v.app v.transfer toggle
  speaks v _ e = absurd (cc)

  -- the one reply
  pub one_reply : (v : Server S) (m : CoeMail) → is_request m ≡ true → (a : CoeMail) × (plain is_emission (serve o eoe areas.back v m).1 ≡ a ∷ [])
  one_reply v m e =
      let x = coe_outcome o eoe areas.back v.app v.transfer m in
      let s = speaks v m e in
      (s.answer, ap (λ l. plain is_emission (l ++ (issued o x.app x.emission).1)) s.is ∙ answer_plain o x.app x.emission s.answer s.calm)

  pub decided : (ms : List CoeMail) → AllRequests ms → Decides (serve o eoe areas.back) is_emission decide ms
  decided [] all = tt
  decided (m ∷ ms) all =
      ((λ v. let r = one_reply v m all.0 in one_answer decide m (plain is_emission (serve o eoe areas.back v m).1) refl (omega (arith, ap length r.1))), decided ms all.1)

  pub replies_counted : (v : Server S) (ms : List CoeMail) → AllRequests ms → length (plain is_emission (given (serve o eoe areas.back) v ms)) ≡ length ms
  replies_counted v [] all = refl
  replies_counted v (m ∷ ms) all =
      let r = one_reply v m all.0 in
      ap length (plain-append is_emission (serve o eoe areas.back v m).1 (given (serve o eoe areas.back) (serve o eoe areas.back v m).0 ms) ∙ ap (λ l. l ++ plain is_emission (given (serve o eoe areas.back) (serve o eoe areas.back v m).0 ms)) r.1)
      ∙ ap suc (replies_counted (serve o eoe areas.back v m).0 ms all.1)

-- the mails of SDO services
segments_all : (fuel part : ℕ) (toggle : Bool) (rest : List ℕ) → AllRequests (segments fuel part toggle rest)
segments_all zero part toggle rest = tt
segments_all (suc fuel) part toggle rest = elim (cases_lt part (length rest)) [
  | inr fits ↦ rw (le-leb (length rest) part fits) (refl, tt)
  | inl more ↦ rw (lt-leb (length rest) part more) (refl, segments_all fuel part (not toggle) (drop part rest))
]

all_if : (b : Bool) (xs ys : List CoeMail) → AllRequests xs → AllRequests ys → AllRequests (if b then xs else ys)
all_if true xs ys p q = p
all_if false xs ys p q = q

pub download_all : (room : ℕ) (t : Target) (bytes : List ℕ) → AllRequests (download_mails room t bytes)
download_all room t bytes = all_if (is_expedited bytes) _ _ (refl, tt)
    (refl, all_if (nat_le (length bytes) (room - 16)) [] _ tt (segments_all (length bytes) (room - 9) false (drop (room - 16) bytes)))

pub requests_all : (n : ℕ) (toggle : Bool) → AllRequests (requests n toggle)
requests_all zero toggle = tt
requests_all (suc n) toggle = (refl, requests_all n (not toggle))

-- a download has at most one mail more than octets
segments_few : (fuel part : ℕ) (toggle : Bool) (rest : List ℕ) → length (segments fuel part toggle rest) ≤ fuel
segments_few zero part toggle rest = omega arith
segments_few (suc fuel) part toggle rest = elim (cases_lt part (length rest)) [
  | inr fits ↦ rw (le-leb (length rest) part fits) (omega arith)
  | inl more ↦ rw (lt-leb (length rest) part more) (omega (arith, segments_few fuel part (not toggle) (drop part rest)))
]

few_if : (b : Bool) (xs ys : List CoeMail) (n : ℕ) → length xs ≤ n → length ys ≤ n → length (if b then xs else ys) ≤ n
few_if true xs ys n p q = p
few_if false xs ys n p q = q

pub download_few : (room : ℕ) (t : Target) (bytes : List ℕ) → length (download_mails room t bytes) ≤ suc (length bytes)
download_few room t bytes =
    let behind = few_if (nat_le (length bytes) (room - 16)) [] (segments (length bytes) (room - 9) false (drop (room - 16) bytes)) (length bytes) (omega arith)
    (segments_few (length bytes) (room - 9) false (drop (room - 16) bytes)) in
    few_if (is_expedited bytes) _ _ (suc (length bytes)) (omega arith) (omega (arith, behind))

-- a CoE client never sends a mail again
turn_once : (c : Coe) → turn_of c ≡ Some again → ⊥
turn_once (FirstAnswer index sub size bytes) e = once (nat_lt (length bytes.items) size) e
  where
    once : (b : Bool) → (if b then Some next else Some stop) ≡ Some again → ⊥
    once true e = absurd (cc)
    once false e = absurd (cc)
turn_once (UploadSegmentAnswer toggle last bytes) e = once last e
  where
    once : (b : Bool) → (if b then Some stop else Some next) ≡ Some again → ⊥
    once true e = absurd (cc)
    once false e = absurd (cc)
turn_once _ e = absurd (cc)

pub never : (m : CoeMail) (hs : List CoeMail) → decide m hs ≡ Some again → ⊥
never m [] e = absurd (cc)
never m (mail c ∷ seen) e = turn_once c e
never m (unread fault service index sub ∷ seen) e = absurd (cc)
never m (failed detail ∷ seen) e = absurd (cc)
never m (fragment body ∷ seen) e = absurd (cc)
never m (other body ∷ seen) e = absurd (cc)

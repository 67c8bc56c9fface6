-- Downloads and uploads over a gateway.
use Rattle.std.proofs.Common.{◌≡◌, ◌≢◌, ℕ, zero, suc, ◌-◌, ◌≤◌, ◌<◌, List, [], ◌∷◌, ◌++◌, length, take, drop, Bool, true, false, not, Some, None, Result, Ok, Err, refl, sym, ap, ◌∙◌, subst, arith, nat_lt, nat_le, if◌then◌else◌, length-append}
use Rattle.std.specs.Prelude.{is_some, ◌&&◌, ◌||◌, ◌==◌, replicate}
use Rattle.std.proofs.lemmas.Bool.{and_parts, leb-true}
use Rattle.std.proofs.lemmas.List.{length-replicate}
use Rattle.slave_model.specs.of_mailbox_mail.declared.outcome.ReplyKind.{ReplyKind}
use Rattle.slave_model.specs.of_exchange_model.Areas.{Areas, AreMailboxes}
use Rattle.slave_model.specs.of_exchange_model.Exchange.{given, plain}
use Rattle.slave_model.specs.of_exchange_model.Lifted.{EachOf}
use Rattle.slave_model.specs.of_exchange_model.Prefix.{IsPrefixOf}
use Rattle.slave_model.specs.of_exchange_model.Dialogue.{said}
use Rattle.slave_model.specs.of_protocol_models.CoeMails.{CoeMail, mail, failed, is_emission, Expedited, First, Segment, Abort, ExpeditedAnswer, FirstAnswer}
use Rattle.slave_model.specs.of_protocol_models.Tables.{Target, Ask, Tables, AreLawful}
use Rattle.slave_model.specs.of_protocol_models.CoeServer.{Server, serve, is_expedited, parts_of}
use Rattle.slave_model.specs.of_protocol_models.CoeMeaning.{Service, download, upload, information, Reply}
use Rattle.slave_model.specs.of_protocol_models.CoeClient.{decide, mails_of, segments, behind_first, download_mails, requests, at_end, sdo_refused, is_of, is_segment_answer, segments_end, is_download_answer, is_part, is_last, octets_of, most, whole_value, parts_end, first_ends, value_begins, ends}
use Rattle.slave_model.specs.of_protocol_models.CoeModel.{is_service, is_target, are_octets, planned, full, value_length, coe_exchange}
use Rattle.slave_model.specs.of_protocol_models.CoeOctets.{coe_mail_written}
use Rattle.slave_model.proofs.of_protocol_models.CoeLaw.{IsSdo, full_all, planned_more, kept}
use Rattle.slave_model.proofs.of_protocol_models.Progress.{goes_on}
use Rattle.slave_model.proofs.of_protocol_models.CoeSpeaks.{AllRequests, is_request, replies_counted}
use Rattle.tool_law.specs.Speaking.{IsSpeaking}
use Rattle.tool_law.proofs.Dialogues.{said_within, said_longer, said_each}
use Rattle.slave_model.proofs.of_exchange_model.SumLaw.{each_left}

-- ---- a mailbox error in the place of an answer

refused_more : (m : CoeMail) (hs : List CoeMail) (h : CoeMail) (more : List CoeMail) (r : Reply) → sdo_refused m (hs ++ h ∷ more) ≡ Some r → ⊥
refused_more (mail (Abort index sub code)) [] h more r e = absurd (cc)
refused_more (mail (Abort index sub code)) (k ∷ hs) h more r e = absurd (cc)
refused_more (failed detail) [] h more r e = absurd (cc)
refused_more (failed detail) (k ∷ hs) h more r e = absurd (cc)
refused_more m hs h more r e = absurd (cc)

ended_more : (hs : List CoeMail) (h : CoeMail) (more : List CoeMail) (kept r : Reply) → at_end (hs ++ h ∷ more) kept ≡ Some r → ⊥
ended_more [] h more kept r e = absurd (cc)
ended_more (k ∷ hs) h more kept r e = absurd (cc)

segments_open : (n : ℕ) (toggle : Bool) (hs : List CoeMail) (h : CoeMail) (more : List CoeMail) (r : Reply) → segments_end n toggle (hs ++ h ∷ more) ≡ Some r → is_some (segments_end n toggle (hs ++ failed 0 ∷ [])) ≡ true
segments_open zero toggle hs h more r e = absurd (ended_more hs h more (ReplyKind.Done, []) r e)
segments_open (suc n) toggle [] h more r e = refl
segments_open (suc n) toggle (k ∷ hs) h more r e = by (is_segment_answer toggle k) e (λ f. segments_open n (not toggle) hs h more r f)
  where
    by : (b : Bool) → (if b then segments_end n (not toggle) (hs ++ h ∷ more) else sdo_refused k (hs ++ h ∷ more)) ≡ Some r → (segments_end n (not toggle) (hs ++ h ∷ more) ≡ Some r → is_some (segments_end n (not toggle) (hs ++ failed 0 ∷ [])) ≡ true) →
        is_some (if b then segments_end n (not toggle) (hs ++ failed 0 ∷ []) else sdo_refused k (hs ++ failed 0 ∷ [])) ≡ true
    by true f on = on f
    by false f on = absurd (refused_more k hs h more r f)

whole_more : (size : ℕ) (got : List ℕ) (hs : List CoeMail) (h : CoeMail) (more : List CoeMail) (r : Reply) → whole_value size got (hs ++ h ∷ more) ≡ Some r → ⊥
whole_more size got hs h more r e = by (length got == size) e
  where
    by : (b : Bool) → (if b then at_end (hs ++ h ∷ more) (ReplyKind.Value, got) else None) ≡ Some r → ⊥
    by true f = ended_more hs h more (ReplyKind.Value, got) r f
    by false f = absurd (cc)

parts_open : (size : ℕ) (got : List ℕ) (toggle : Bool) (hs : List CoeMail) (h : CoeMail) (more : List CoeMail) (r : Reply) → parts_end size got toggle (hs ++ h ∷ more) ≡ Some r → is_some (parts_end size got toggle (hs ++ failed 0 ∷ [])) ≡ true
parts_open size got toggle [] h more r e = refl
parts_open size got toggle (k ∷ hs) h more r e = by (not (is_part toggle k)) (nat_lt size (length (got ++ octets_of k))) (is_last k) e (λ f. parts_open size (got ++ octets_of k) (not toggle) hs h more r f)
  where
    by : (b d l : Bool) →
        (if b then sdo_refused k (hs ++ h ∷ more) else if d then None else if l then whole_value size (got ++ octets_of k) (hs ++ h ∷ more) else parts_end size (got ++ octets_of k) (not toggle) (hs ++ h ∷ more)) ≡ Some r →
        (parts_end size (got ++ octets_of k) (not toggle) (hs ++ h ∷ more) ≡ Some r → is_some (parts_end size (got ++ octets_of k) (not toggle) (hs ++ failed 0 ∷ [])) ≡ true) →
        is_some (if b then sdo_refused k (hs ++ failed 0 ∷ []) else if d then None else if l then whole_value size (got ++ octets_of k) (hs ++ failed 0 ∷ []) else parts_end size (got ++ octets_of k) (not toggle) (hs ++ failed 0 ∷ [])) ≡ true
    by true d l f on = absurd (refused_more k hs h more r f)
    by false true l f on = absurd (cc)
    by false false true f on = absurd (whole_more size (got ++ octets_of k) hs h more r f)
    by false false false f on = on f

first_open : (size : ℕ) (got : List ℕ) (hs : List CoeMail) (h : CoeMail) (more : List CoeMail) (r : Reply) → first_ends size got (hs ++ h ∷ more) ≡ Some r → is_some (first_ends size got (hs ++ failed 0 ∷ [])) ≡ true
first_open size got hs h more r e = by (nat_lt most size || nat_lt size (length got)) (length got == size) e
  where
    by : (b d : Bool) → (if b then None else if d then at_end (hs ++ h ∷ more) (ReplyKind.Value, got) else parts_end size got false (hs ++ h ∷ more)) ≡ Some r →
        is_some (if b then None else if d then at_end (hs ++ failed 0 ∷ []) (ReplyKind.Value, got) else parts_end size got false (hs ++ failed 0 ∷ [])) ≡ true
    by true d f = absurd (cc)
    by false true f = absurd (ended_more hs h more (ReplyKind.Value, got) r f)
    by false false f = parts_open size got false hs h more r f

begins_open : (t : Target) (m : CoeMail) (hs : List CoeMail) (h : CoeMail) (more : List CoeMail) (r : Reply) → value_begins t m (hs ++ h ∷ more) ≡ Some r → is_some (value_begins t m (hs ++ failed 0 ∷ [])) ≡ true
begins_open t (mail (ExpeditedAnswer index sub bytes)) hs h more r e = by (is_of t index sub) e
  where
    by : (b : Bool) → (if b then at_end (hs ++ h ∷ more) (ReplyKind.Value, bytes.items) else None) ≡ Some r → is_some (if b then at_end (hs ++ failed 0 ∷ []) (ReplyKind.Value, bytes.items) else None) ≡ true
    by true f = absurd (ended_more hs h more (ReplyKind.Value, bytes.items) r f)
    by false f = absurd (cc)
begins_open t (mail (FirstAnswer index sub size bytes)) hs h more r e = by (is_of t index sub) e
  where
    by : (b : Bool) → (if b then first_ends size bytes.items (hs ++ h ∷ more) else None) ≡ Some r → is_some (if b then first_ends size bytes.items (hs ++ failed 0 ∷ []) else None) ≡ true
    by true f = first_open size bytes.items hs h more r f
    by false f = absurd (cc)
begins_open t m hs h more r e = absurd (refused_more m hs h more r e)

sdo_open : (room : ℕ) (q : Service) → ((a : Ask) → q ≢ information a) → (hs : List CoeMail) (h : CoeMail) (more : List CoeMail) (r : Reply) → ends room q (hs ++ h ∷ more) ≡ Some r → is_some (ends room q (hs ++ failed 0 ∷ [])) ≡ true
sdo_open room (download t bytes) asks [] h more r e = refl
sdo_open room (download t bytes) asks (k ∷ hs) h more r e = by (is_download_answer t k) e
  where
    by : (b : Bool) → (if b then segments_end (parts_of (room - 9) (length bytes - (room - 16))) false (hs ++ h ∷ more) else sdo_refused k (hs ++ h ∷ more)) ≡ Some r →
        is_some (if b then segments_end (parts_of (room - 9) (length bytes - (room - 16))) false (hs ++ failed 0 ∷ []) else sdo_refused k (hs ++ failed 0 ∷ [])) ≡ true
    by true f = segments_open (parts_of (room - 9) (length bytes - (room - 16))) false hs h more r f
    by false f = absurd (refused_more k hs h more r f)
sdo_open room (upload t) asks [] h more r e = refl
sdo_open room (upload t) asks (k ∷ hs) h more r e = begins_open t k hs h more r e
sdo_open room (information a) asks hs h more r e = absurd (asks a refl)

-- ---- each mail fits a datagram

abbrev Fits : CoeMail → Type 0
Fits m = length (coe_mail_written m).body.items ≤ 1480

taken_few : (n : ℕ) (xs : List ℕ) → length (take n xs) ≤ n
taken_few zero xs = omega arith
taken_few (suc n) [] = omega arith
taken_few (suc n) (x ∷ xs) = let h = taken_few n xs in omega (arith, h)

segment_fits : (toggle last : Bool) (items : List ℕ) → length items ≤ 1477 → Fits (mail (Segment toggle last (record { items = items })))
segment_fits toggle last items small = omega (arith, small, length-append items (replicate (7 - length items) 0), length-replicate {A = ℕ} (7 - length items) 0)

first_fits : (index sub size : ℕ) (all : Bool) (items : List ℕ) → length items ≤ 1470 → Fits (mail (First index sub all size (record { items = items })))
first_fits index sub size all items small = omega (arith, small, length-append items [])

expedited_fits : (index sub : ℕ) (all : Bool) (items : List ℕ) → length items ≤ 4 → Fits (mail (Expedited index sub all (record { items = items })))
expedited_fits index sub all items small = omega (arith, small, length-append items (replicate (4 - length items) 0), length-replicate {A = ℕ} (4 - length items) 0)

segments_fit : (fuel part : ℕ) (toggle : Bool) (rest : List ℕ) → part ≤ 1477 → EachOf Fits (segments fuel part toggle rest)
segments_fit zero part toggle rest small = tt
segments_fit (suc fuel) part toggle rest small = by (nat_le (length rest) part) refl (segments_fit fuel part (not toggle) (drop part rest) small)
  where
    by : (b : Bool) → nat_le (length rest) part ≡ b → EachOf Fits (segments fuel part (not toggle) (drop part rest)) →
        EachOf Fits (if b then mail (Segment toggle true (record { items = rest })) ∷ [] else mail (Segment toggle false (record { items = take part rest })) ∷ segments fuel part (not toggle) (drop part rest))
    by true e others = (segment_fits toggle true rest (let h = leb-true (length rest) part e in omega (arith, h, small)), tt)
    by false e others = (segment_fits toggle false (take part rest) (let h = taken_few part rest in omega (arith, h, small)), others)

behind_fit : (room : ℕ) (bytes : List ℕ) → room ≤ 1486 → EachOf Fits (behind_first room bytes)
behind_fit room bytes small = by (nat_le (length bytes) (room - 16))
  where
    by : (b : Bool) → EachOf Fits (if b then [] else segments (length bytes) (room - 9) false (drop (room - 16) bytes))
    by true = tt
    by false = segments_fit (length bytes) (room - 9) false (drop (room - 16) bytes) (omega (arith, small))

download_fits : (room : ℕ) (t : Target) (bytes : List ℕ) → room ≤ 1486 → EachOf Fits (download_mails room t bytes)
download_fits room t bytes small = by (is_expedited bytes) refl
  where
    by : (b : Bool) → is_expedited bytes ≡ b →
        EachOf Fits (if b then mail (Expedited t.index t.sub t.all (record { items = bytes })) ∷ [] else mail (First t.index t.sub t.all (length bytes) (record { items = take (room - 16) bytes })) ∷ behind_first room bytes)
    by true e = (expedited_fits t.index t.sub t.all bytes (four e), tt)
      where
        four : is_expedited bytes ≡ true → length bytes ≤ 4
        four f = let p = and_parts (nat_le 1 (length bytes)) (nat_le (length bytes) 4) f in leb-true (length bytes) 4 p.1
    by false e = (first_fits t.index t.sub (length bytes) t.all (take (room - 16) bytes) (let h = taken_few (room - 16) bytes in omega (arith, h, small)), behind_fit room bytes small)

requests_fit : (n : ℕ) (toggle : Bool) → EachOf Fits (requests n toggle)
requests_fit zero toggle = tt
requests_fit (suc n) toggle = (omega arith, requests_fit n (not toggle))

mails_fit : (room : ℕ) (q : Service) (n : ℕ) → ((a : Ask) → q ≢ information a) → room ≤ 1486 → EachOf Fits (mails_of room q n)
mails_fit room (download t bytes) n asks small = download_fits room t bytes small
mails_fit room (upload t) n asks small = (omega arith, requests_fit n false)
mails_fit room (information a) n asks small = absurd (asks a refl)

-- ---- a download or an upload as a service

module _ {S : Type 0} (o : Tables S) (law : AreLawful o) (eoe : Bool) (areas : Areas) (sized : AreMailboxes areas) where
  sdo_of : (q : Service) → ((a : Ask) → q ≢ information a) → IsSdo o law eoe areas sized q
  sdo_of (download t bytes) asks = tt
  sdo_of (upload t) asks = tt
  sdo_of (information a) asks = asks a refl

  few_value : (v : Server S) (t : Target) → o.valid v.app ≡ true → (r : Result (List ℕ) ℕ) → o.upload v.app t ≡ r → value_length r ≤ 16384
  few_value v t ready (Ok bytes) e = law.short v.app t bytes ready e
  few_value v t ready (Err code) e = omega arith

  few_mails : (v : Server S) (q : Service) → o.valid v.app ≡ true → is_service q ≡ true → length (full o eoe areas v q) < 65536
  few_mails v (download t bytes) ready fits =
      let k = (kept o law eoe areas sized v (download t bytes) ready).few in
      let n = leb-true (length bytes) 16384 (and_parts (is_target t && are_octets bytes) (nat_le (length bytes) 16384) fits).1 in
      omega (arith, k, n)
  few_mails v (upload t) ready fits = let k = (kept o law eoe areas sized v (upload t) ready).few in let n = few_value v t ready (o.upload v.app t) refl in omega (arith, k, n)
  few_mails v (information a) ready fits = let k = (kept o law eoe areas sized v (information a) ready).few in omega (arith, k)

  longer : (q : Service) → IsSdo o law eoe areas sized q → (hs more : List CoeMail) → IsPrefixOf (planned areas.out q hs) (planned areas.out q (hs ++ more))
  longer q sdo hs more =
      let n : ℕ = suc (length (hs ++ more)) in
      let a = planned_more o law eoe areas sized q sdo n hs (omega (arith, length-append hs more)) in
      let b = planned_more o law eoe areas sized q sdo n (hs ++ more) (omega arith) in
      subst (λ l. IsPrefixOf (planned areas.out q hs) l) (sym b) (subst (λ l. IsPrefixOf l (said decide n (mails_of areas.out q n) (hs ++ more))) (sym a) (said_longer decide n (mails_of areas.out q n) hs more))

  counted : (v : Server S) (q : Service) → IsSdo o law eoe areas sized q → (p r : List CoeMail) → full o eoe areas v q ≡ p ++ r → length (plain is_emission (given (serve o eoe areas.back) v p)) ≤ length p
  counted v q sdo p r e =
      let all = each_left (λ m. is_request m ≡ true) p r (subst AllRequests e (full_all o law eoe areas sized v q sdo)) in
      let n = replies_counted o eoe areas v p all in
      omega (arith, n)

  on_front : (p : List CoeMail) (m : CoeMail) (ms : List CoeMail) → IsPrefixOf (p ++ m ∷ []) ms → (rest : List CoeMail) × (ms ≡ p ++ m ∷ rest)
  on_front p m ms h = (h.0, sym h.1 ∙ one p)
    where
      one : (xs : List CoeMail) → (xs ++ m ∷ []) ++ h.0 ≡ xs ++ m ∷ h.0
      one [] = refl
      one (k ∷ xs) = ap (λ l. k ∷ l) (one xs)

  -- it goes mail by mail
  pub sdo_speaking : (v : Server S) (q : Service) → o.valid v.app ≡ true → is_service q ≡ true → ((a : Ask) → q ≢ information a) → IsSpeaking (coe_exchange o eoe areas) (failed 0) v q
  sdo_speaking v q ready valid asks = record {
    few_planned = λ hs. said_within decide (suc (length hs)) (mails_of areas.out q (length hs)) hs;
    more_planned = longer q (sdo_of q asks);
    goes_on = λ p m r e. on_front p m _ (goes_on o eoe areas law sized v q ready p m r e);
    few_replies = counted v q (sdo_of q asks);
    refused = λ hs h more r e. sdo_open areas.out q asks hs h more r e;
    few = few_mails v q ready valid;
  }

  -- and each of its mails fits a datagram
  pub sdo_short : (q : Service) → ((a : Ask) → q ≢ information a) → (hs : List CoeMail) → EachOf (λ (m : CoeMail). length (coe_mail_written m).body.items ≤ 1480) (planned areas.out q hs)
  sdo_short q asks hs = said_each decide Fits (suc (length hs)) (mails_of areas.out q (length hs)) hs (mails_fit areas.out q (length hs) asks sized.out_most)

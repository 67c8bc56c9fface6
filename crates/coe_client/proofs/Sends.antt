-- What the client sends next is the first of the mails that it has left, and what it begins with is the plan of its service.
use Rattle.std.proofs.Common.{◌≡◌, inl, inr, ℕ, zero, suc, ◌+◌, ◌-◌, ◌<◌, ◌≤◌, Bool, true, false, not, ◌&&◌, nat_lt, nat_le, ◌==◌, List, [], ◌∷◌, ◌++◌, length, take, drop, replicate, if◌then◌else◌, Option, None, Some, refl, sym, ap, ◌∙◌, subst, arith, length-append, length-drop, length-take, drop-drop, take_all, ltb-true, leb-true, le-leb, ne_eqb}
use Rattle.std.proofs.lemmas.List.{length-replicate}
use Rattle.std.proofs.lemmas.Bool.{cases_lt, lt-leb, leb-false}
use Rattle.protocol_models.specs.of_exchange_model.Dialogue.{Turn, next, again, stop, first_turn, turn_at, rest_at, said}
use Rattle.object_dictionary.specs.declared.service.SdoService.{SdoService}
use Rattle.protocol_models.specs.of_coe_codec.Writing.{HasSpelling, coe_text}
use Rattle.protocol_models.specs.CoeMails.{Coe, CoeMail, mail, unread, failed, fragment, other, Expedited, First, Upload, Segment, UploadSegment, ListRequest, ObjectRequest, EntryRequest}
use Rattle.protocol_models.specs.Tables.{Target, list, object, entry}
use Rattle.protocol_models.specs.CoeServer.{is_expedited}
use Rattle.protocol_models.specs.CoeMeaning.{Service, download, upload, information}
use Rattle.protocol_models.specs.CoeClient.{segments, download_mails, requests, mails_of, decide}
use Rattle.protocol_models.specs.CoeModel.{planned}
use Rattle.protocol_models.proofs.CoeSpeaks.{never}
use Rattle.coe_client.specs.declared.state.Task.{Task}
use Rattle.coe_client.specs.declared.state.Unsent.{Unsent}
use Rattle.coe_client.specs.declared.state.Awaits.{Awaits}
use Rattle.coe_client.specs.Talk.{Talking, service_view, upload_requests, first_mails, sending, is_onward, lets_go, goes, goes_on, later, is_left, begun_service}
use Rattle.coe_client.specs.Send.{Sent, sent, send_download, send_first, send_segment, send, send_next, NextIs}

-- a CoE client decides by the first answer alone
by_first : (m h : CoeMail) (seen : List CoeMail) → decide m (h ∷ seen) ≡ decide m (h ∷ [])
by_first m (mail c) seen = refl
by_first m (unread fault service index sub) seen = refl
by_first m (failed detail) seen = refl
by_first m (fragment body) seen = refl
by_first m (other body) seen = refl

first_none : (turn : Option Turn) → first_turn turn turn ≡ turn
first_none None = refl
first_none (Some turn) = refl

turn_head : (m h : CoeMail) (seen hs : List CoeMail) → turn_at decide m (h ∷ seen) hs ≡ decide m (h ∷ [])
turn_head m h seen [] = by_first m h seen
turn_head m h seen (k ∷ hs) = rw (by_first m h seen, turn_head m h (seen ++ k ∷ []) hs) (first_none (decide m (h ∷ [])))

rest_head : (m h : CoeMail) (turn : Turn) (hs : List CoeMail) → decide m (h ∷ []) ≡ Some turn → rest_at decide m (h ∷ []) hs ≡ hs
rest_head m h turn [] e = refl
rest_head m h turn (k ∷ hs) e = rw e refl

lets_is : (m h : CoeMail) → lets_go h ≡ is_onward (decide m (h ∷ []))
lets_is m (mail c) = refl
lets_is m (unread fault service index sub) = refl
lets_is m (failed detail) = refl
lets_is m (fragment body) = refl
lets_is m (other body) = refl

-- what it has sent is as many mails as the answers let go, and one
said_turn : (n : ℕ) (m h : CoeMail) (ms hs : List CoeMail) (turn : Option Turn) → decide m (h ∷ []) ≡ turn → (said decide n ms hs ≡ take (suc (goes hs)) ms) →
    said decide (suc n) (m ∷ ms) (h ∷ hs) ≡ take (suc (goes (h ∷ hs))) (m ∷ ms)
said_turn n m h ms hs None is rest = rw (lets_is m h, turn_head m h [] hs, is) refl
said_turn n m h ms hs (Some next) is rest = rw (lets_is m h, turn_head m h [] hs, is, rest_head m h next hs is, rest) refl
said_turn n m h ms hs (Some again) is rest = absurd (never m (h ∷ []) is)
said_turn n m h ms hs (Some stop) is rest = rw (lets_is m h, turn_head m h [] hs, is) refl

said_goes : (n : ℕ) (ms hs : List CoeMail) → length hs < n → said decide n ms hs ≡ take (suc (goes hs)) ms
said_goes zero ms hs few = absurd (omega arith)
said_goes (suc n) [] hs few = refl
said_goes (suc n) (m ∷ ms) [] few = refl
said_goes (suc n) (m ∷ ms) (h ∷ hs) few = said_turn n m h ms hs (decide m (h ∷ [])) refl (said_goes n ms hs (omega arith))

goes_few : (hs : List CoeMail) → goes hs ≤ length hs
goes_few [] = omega arith
goes_few (h ∷ hs) = few (lets_go h) (goes_few hs)
  where
    few : (b : Bool) → goes hs ≤ length hs → (if b then suc (goes hs) else 0) ≤ suc (length hs)
    few true less = omega arith
    few false less = omega arith

take-requests : (k n : ℕ) (toggle : Bool) → k ≤ n → take k (requests n toggle) ≡ requests k toggle
take-requests zero n toggle few = refl
take-requests (suc k) zero toggle few = absurd (omega arith)
take-requests (suc k) (suc n) toggle few = ap (λ l. mail (UploadSegment toggle) ∷ l) (take-requests k n (not toggle) (omega arith))

one_more : (n : ℕ) → 1 + n ≡ suc n
one_more n = omega arith

plan_is : (room : ℕ) (q : Service) (hs : List CoeMail) → planned room q hs ≡ take (suc (goes hs)) (mails_of room q (length hs))
plan_is room q hs = said_goes (suc (length hs)) (mails_of room q (length hs)) hs (omega arith)

upload_plan : (room : ℕ) (t : Target) (hs : List CoeMail) → upload_requests t (1 + goes hs) ≡ planned room (upload t) hs
upload_plan room t hs =
    ap (upload_requests t) (one_more (goes hs))
    ∙ ap (λ l. mail (Upload t.index t.sub t.all) ∷ l) (sym (take-requests (goes hs) (length hs) false (goes_few hs)))
    ∙ sym (plan_is room (upload t) hs)

taken_plan : (room : ℕ) (q : Service) (ms hs : List CoeMail) → mails_of room q (length hs) ≡ ms → take (1 + goes hs) ms ≡ planned room q hs
taken_plan room q ms hs is = ap (λ n. take n ms) (one_more (goes hs)) ∙ sym (plan_is room q hs ∙ ap (take (suc (goes hs))) is)

pub starts_planned : (room : ℕ) (service : SdoService) (hs : List CoeMail) → later (begun_service room service) hs ≡ planned room (service_view service) hs
starts_planned room (SdoService.Download index sub bytes) hs = taken_plan room (download (record { index = index; sub = sub; all = false }) bytes) _ hs refl
starts_planned room (SdoService.DownloadAll index from bytes) hs = taken_plan room (download (record { index = index; sub = from; all = true }) bytes) _ hs refl
starts_planned room (SdoService.Upload index sub) hs = upload_plan room (record { index = index; sub = sub; all = false }) hs
starts_planned room (SdoService.UploadAll index from) hs = upload_plan room (record { index = index; sub = from; all = true }) hs
starts_planned room (SdoService.List kind) hs = taken_plan room (information (list kind)) _ hs refl
starts_planned room (SdoService.ObjectInfo index) hs = taken_plan room (information (object index)) _ hs refl
starts_planned room (SdoService.EntryInfo index sub info) hs = taken_plan room (information (entry index sub info)) _ hs refl

abbrev no_mails : List CoeMail
no_mails = []

take_none : (n : ℕ) → take n no_mails ≡ []
take_none zero = refl
take_none (suc n) = refl

-- one more segment, whatever fuel is there
segments_step : (fuel part : ℕ) (toggle : Bool) (rest : List ℕ) → 0 < fuel → part < length rest →
    segments fuel part toggle rest ≡ mail (Segment toggle false (record { items = take part rest })) ∷ segments (fuel - 1) part (not toggle) (drop part rest)
segments_step zero part toggle rest some more = absurd (omega arith)
segments_step (suc fuel) part toggle rest some more =
    let less : suc fuel - 1 ≡ fuel = omega arith in
    rw (lt-leb (length rest) part more, less) refl

segments_last : (fuel part : ℕ) (toggle : Bool) (rest : List ℕ) → 0 < fuel → length rest ≤ part →
    segments fuel part toggle rest ≡ mail (Segment toggle true (record { items = rest })) ∷ []
segments_last zero part toggle rest some fits = absurd (omega arith)
segments_last (suc fuel) part toggle rest some fits = rw (le-leb (length rest) part fits) refl

segments_fuel : (f g part : ℕ) (toggle : Bool) (rest : List ℕ) → 0 < part → 0 < length rest → length rest ≤ f → length rest ≤ g → segments f part toggle rest ≡ segments g part toggle rest
segments_fuel zero g part toggle rest some left a b = absurd (omega arith)
segments_fuel (suc f) zero part toggle rest some left a b = absurd (omega arith)
segments_fuel (suc f) (suc g) part toggle rest some left a b = elim (cases_lt part (length rest)) [
  | inr fits ↦ segments_last (suc f) part toggle rest (omega arith) fits ∙ sym (segments_last (suc g) part toggle rest (omega arith) fits)
  | inl more ↦
      let same = segments_fuel f g part (not toggle) (drop part rest) some (omega (arith, length-drop part rest)) (omega (arith, length-drop part rest)) (omega (arith, length-drop part rest)) in
      rw (lt-leb (length rest) part more) (ap (λ l. mail (Segment toggle false (record { items = take part rest })) ∷ l) same)
]

module _ (room : ℕ) (task : Task) (bytes : List ℕ) (q : ℕ) (going : Bool) (awaits : Awaits) (value : List ℕ) (least : 64 ≤ room) where
  -- the client with one mail that may go, and it without
  abbrev with : Unsent → Talking
  with unsent = record { room = room; task = task; bytes = bytes; unsent = unsent; quota = suc q; going = going; awaits = awaits; value = value }

  abbrev Next : Unsent → Sent → Type 0
  Next unsent s = NextIs s.0 (with unsent) s.1

  counts : (unsent behind : Unsent) (c : Coe) → ((n : ℕ) → sending room task bytes unsent (suc n) ≡ mail c ∷ sending room task bytes behind n) → (hs : List CoeMail) →
      later (with unsent) hs ≡ mail c ∷ later (record (with unsent) { unsent = behind; quota = suc q - 1 }) hs
  counts unsent behind c step hs =
      let more : suc q + goes_on going hs ≡ suc (q + goes_on going hs) = omega arith in
      let less : suc q - 1 + goes_on going hs ≡ q + goes_on going hs = omega arith in
      ap (sending room task bytes unsent) more ∙ step (q + goes_on going hs) ∙ ap (λ n. mail c ∷ sending room task bytes behind n) (sym less)

  choose : (unsent : Unsent) (b : Bool) (x y : Sent) → (b ≡ true → Next unsent x) → (b ≡ false → Next unsent y) → Next unsent (if b then x else y)
  choose unsent true x y p q = p refl
  choose unsent false x y p q = q refl

  is_sent : (unsent behind : Unsent) (c : Coe) → ((n : ℕ) → sending room task bytes unsent (suc n) ≡ mail c ∷ sending room task bytes behind n) → HasSpelling c → length (coe_text c) + 6 ≤ room →
      Next unsent (sent (with unsent) c behind)
  is_sent unsent behind c step spelled fits = (counts unsent behind c step, spelled, fits, (λ ms. refl), refl)

  both_left : (a b : Bool) → (a && b) ≡ true → a ≡ true
  both_left true b e = refl
  both_left false b e = absurd (cc)

  both_right : (a b : Bool) → (a && b) ≡ true → b ≡ true
  both_right true b e = e
  both_right false b e = absurd (cc)

  padded : (octets : List ℕ) (n : ℕ) → length (octets ++ replicate n 0) ≡ length octets + n
  padded octets n = length-append octets (replicate n 0) ∙ ap (λ k. length octets + k) (length-replicate n 0)

  next_segment : (from : ℕ) (toggle : Bool) → nat_lt from (length bytes) ≡ true → Next (Unsent.Segments from toggle) (send_segment (with (Unsent.Segments from toggle)) from toggle)
  next_segment from toggle left =
      let below : from < length bytes = ltb-true from (length bytes) left in
      let rest = drop from bytes in
      let some : 0 < length rest = omega (arith, length-drop from bytes) in
      let fuel : 0 < length bytes = omega arith in
      choose (Unsent.Segments from toggle) (nat_le (length rest) (room - 9)) _ _
      (λ e. let fits = leb-true (length rest) (room - 9) e in
      is_sent (Unsent.Segments from toggle) Unsent.Nothing (Segment toggle true (record { items = rest }))
      (λ n. ap (take (suc n)) (segments_last (length bytes) (room - 9) toggle rest fuel fits) ∙ ap (λ l. mail (Segment toggle true (record { items = rest })) ∷ l) (take_none n))
      some (omega (arith, padded rest (7 - length rest))))
      (λ e. let more = leb-false (length rest) (room - 9) e in
      let part : length (take (room - 9) rest) ≡ room - 9 = omega (arith, length-take (room - 9) rest) in
      let on : drop (room - 9) rest ≡ drop (from + (room - 9)) bytes = drop-drop (room - 9) from bytes in
      let left : length (drop (from + (room - 9)) bytes) ≡ length bytes - (from + (room - 9)) = length-drop (from + (room - 9)) bytes in
      is_sent (Unsent.Segments from toggle) (Unsent.Segments (from + (room - 9)) (not toggle)) (Segment toggle false (record { items = take (room - 9) rest }))
      (λ n. ap (take (suc n)) (segments_step (length bytes) (room - 9) toggle rest fuel more)
      ∙ ap (λ l. mail (Segment toggle false (record { items = take (room - 9) rest })) ∷ take n l)
      (ap (segments (length bytes - 1) (room - 9) (not toggle)) on
      ∙ segments_fuel (length bytes - 1) (length bytes) (room - 9) (not toggle) (drop (from + (room - 9)) bytes) (omega arith)
      (omega (arith, left, length-drop from bytes)) (omega (arith, left)) (omega (arith, left))))
      (omega (arith, part)) (omega (arith, part, padded (take (room - 9) rest) (7 - length (take (room - 9) rest)))))

  next_download : (index sub : ℕ) (all : Bool) → task ≡ Task.Download index sub all → Next Unsent.First (send_download (with Unsent.First) index sub all)
  next_download index sub all is =
      let t : Target = record { index = index; sub = sub; all = all } in
      let firsts = λ (n : ℕ). ap (λ k. first_mails room k bytes (suc n)) is in
      choose Unsent.First (is_expedited bytes) _ _
      (λ e.
      let low = leb-true 1 (length bytes) (both_left (nat_le 1 (length bytes)) (nat_le (length bytes) 4) e) in
      let high = leb-true (length bytes) 4 (both_right (nat_le 1 (length bytes)) (nat_le (length bytes) 4) e) in
      let mails : download_mails room t bytes ≡ mail (Expedited index sub all (record { items = bytes })) ∷ [] = rw e refl in
      is_sent Unsent.First Unsent.Nothing (Expedited index sub all (record { items = bytes }))
      (λ n. firsts n ∙ ap (take (suc n)) mails ∙ ap (λ l. mail (Expedited index sub all (record { items = bytes })) ∷ l) (take_none n))
      low (omega (arith, padded bytes (4 - length bytes))))
      (λ e. choose Unsent.First (nat_le (length bytes) (room - 16)) _ _
      (λ f.
      let fits = leb-true (length bytes) (room - 16) f in
      let mails : download_mails room t bytes ≡ mail (First index sub all (length bytes) (record { items = bytes })) ∷ [] = rw (e, f, take_all (room - 16) bytes fits) refl in
      is_sent Unsent.First Unsent.Nothing (First index sub all (length bytes) (record { items = bytes }))
      (λ n. firsts n ∙ ap (take (suc n)) mails ∙ ap (λ l. mail (First index sub all (length bytes) (record { items = bytes })) ∷ l) (take_none n))
      (omega arith) (omega (arith, padded bytes 0)))
      (λ f.
      let more = leb-false (length bytes) (room - 16) f in
      let part = take (room - 16) bytes in
      let long : length part ≡ room - 16 = omega (arith, length-take (room - 16) bytes) in
      let mails : download_mails room t bytes ≡ mail (First index sub all (length bytes) (record { items = part })) ∷ segments (length bytes) (room - 9) false (drop (room - 16) bytes) = rw (e, f) refl in
      is_sent Unsent.First (Unsent.Segments (room - 16) false) (First index sub all (length bytes) (record { items = part }))
      (λ n. firsts n ∙ ap (take (suc n)) mails) (omega (arith, long)) (omega (arith, long, padded part 0))))

  next_first : (k : Task) → task ≡ k → Next Unsent.First (send_first (with Unsent.First) k)
  next_first Task.Nothing is = (ap (λ k. first_mails room k bytes (suc q + goes_on going [])) is, refl)
  next_first (Task.Download index sub all) is = next_download index sub all is
  next_first (Task.Upload index sub all) is =
      is_sent Unsent.First (Unsent.Requests false) (Upload index sub all) (λ n. ap (λ k. first_mails room k bytes (suc n)) is) tt (omega arith)
  next_first (Task.List kind) is = is_sent Unsent.First Unsent.Nothing (ListRequest kind)
      (λ n. ap (λ k. first_mails room k bytes (suc n)) is ∙ ap (λ l. mail (ListRequest kind) ∷ l) (take_none n)) tt (omega arith)
  next_first (Task.Object index) is = is_sent Unsent.First Unsent.Nothing (ObjectRequest index)
      (λ n. ap (λ k. first_mails room k bytes (suc n)) is ∙ ap (λ l. mail (ObjectRequest index) ∷ l) (take_none n)) tt (omega arith)
  next_first (Task.Entry index sub info) is = is_sent Unsent.First Unsent.Nothing (EntryRequest index sub info)
      (λ n. ap (λ k. first_mails room k bytes (suc n)) is ∙ ap (λ l. mail (EntryRequest index sub info) ∷ l) (take_none n)) tt (omega arith)

  next_unsent : (unsent : Unsent) → is_left unsent bytes ≡ true → Next unsent (send (with unsent) unsent)
  next_unsent Unsent.Nothing left = (refl, refl)
  next_unsent Unsent.First left = next_first task refl
  next_unsent (Unsent.Segments from toggle) left = next_segment from toggle left
  next_unsent (Unsent.Requests toggle) left = is_sent (Unsent.Requests toggle) (Unsent.Requests (not toggle)) (UploadSegment toggle) (λ n. refl) tt (omega arith)

-- with no mail that may go there is none
none_first : (room : ℕ) (task : Task) (bytes : List ℕ) → first_mails room task bytes 0 ≡ []
none_first room Task.Nothing bytes = refl
none_first room (Task.Download index sub all) bytes = refl
none_first room (Task.Upload index sub all) bytes = refl
none_first room (Task.List kind) bytes = refl
none_first room (Task.Object index) bytes = refl
none_first room (Task.Entry index sub info) bytes = refl

none_sending : (room : ℕ) (task : Task) (bytes : List ℕ) (unsent : Unsent) → sending room task bytes unsent 0 ≡ []
none_sending room task bytes Unsent.Nothing = refl
none_sending room task bytes Unsent.First = none_first room task bytes
none_sending room task bytes (Unsent.Segments from toggle) = refl
none_sending room task bytes (Unsent.Requests toggle) = refl

no_more : (going : Bool) → 0 + goes_on going [] ≡ 0
no_more true = refl
no_more false = refl

next_by : (room : ℕ) (task : Task) (bytes : List ℕ) (unsent : Unsent) (quota : ℕ) (going : Bool) (awaits : Awaits) (value : List ℕ) → 64 ≤ room → is_left unsent bytes ≡ true →
    let c : Talking = record { room = room; task = task; bytes = bytes; unsent = unsent; quota = quota; going = going; awaits = awaits; value = value } in NextIs (send_next c).0 c (send_next c).1
next_by room task bytes unsent zero going awaits value least left = (ap (sending room task bytes unsent) (no_more going) ∙ none_sending room task bytes unsent, refl)
next_by room task bytes unsent (suc q) going awaits value least left =
    let c : Talking = record { room = room; task = task; bytes = bytes; unsent = unsent; quota = suc q; going = going; awaits = awaits; value = value } in
    let some : (suc q == 0) ≡ false = ne_eqb (suc q) 0 (λ e. omega (arith, e)) in
    let sends : send_next c ≡ send c unsent = rw some refl in
    subst (λ (s : Sent). NextIs s.0 c s.1) (sym sends) (next_unsent room task bytes q going awaits value least unsent left)

pub next_is : (c : Talking) → 64 ≤ c.room → is_left c.unsent c.bytes ≡ true → NextIs (send_next c).0 c (send_next c).1
next_is c least left = next_by c.room c.task c.bytes c.unsent c.quota c.going c.awaits c.value least left

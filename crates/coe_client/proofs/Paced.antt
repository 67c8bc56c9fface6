-- A download keeps its pace: where its last answer comes and no mail may go, all its mails were sent.
use Rattle.std.proofs.Common.{◌≡◌, inl, inr, ℕ, zero, suc, ◌+◌, ◌-◌, ◌<◌, ◌≤◌, Bool, true, false, not, ◌&&◌, nat_lt, nat_le, ◌==◌, List, [], ◌∷◌, length, take, drop, if◌then◌else◌, Some, is_some, refl, sym, ap, ◌∙◌, subst, arith, length-drop, ltb-true, leb-true, le-leb, lt-ltb, ne_eqb}
use Rattle.std.proofs.lemmas.Bool.{cases_lt, leb-false}
use Rattle.protocol_models.specs.of_coe_codec.declared.viewing.CoeView.{CoeView}
use Rattle.protocol_models.specs.CoeMails.{mail, Expedited, First, Segment}
use Rattle.protocol_models.specs.Tables.{Target}
use Rattle.protocol_models.specs.CoeServer.{is_expedited, parts_of}
use Rattle.protocol_models.specs.CoeClient.{segments, behind_first, download_mails}
use Rattle.protocol_models.proofs.Basics.{one_part, more_parts}
use Rattle.coe_client.specs.declared.state.Task.{Task}
use Rattle.coe_client.specs.declared.state.Unsent.{Unsent}
use Rattle.coe_client.specs.declared.state.Awaits.{Awaits}
use Rattle.coe_client.specs.Talk.{Talking, sending, goes_on, is_left, segments_behind, unsent_mails, is_download, is_paced}
use Rattle.coe_client.specs.Send.{Sent, sent, sent_by, send_download, send_segment, send, send_next}

-- both of two tests
split : (a b : Bool) → (a && b) ≡ true → (a ≡ true) × (b ≡ true)
split true true e = (refl, refl)
split true false e = absurd (cc)
split false b e = absurd (cc)

joined : (a b : Bool) → a ≡ true → b ≡ true → (a && b) ≡ true
joined true true e f = refl
joined true false e f = absurd (cc)
joined false b e f = absurd (cc)

module _ (room : ℕ) (task : Task) (bytes : List ℕ) (quota : ℕ) (going : Bool) (awaits : Awaits) (value : List ℕ) (least : 64 ≤ room) where
  abbrev with : Unsent → Talking
  with unsent = record { room = room; task = task; bytes = bytes; unsent = unsent; quota = quota; going = going; awaits = awaits; value = value }

  -- a mail less of the download is unsent
  abbrev Less : Unsent → Sent → Type 0
  Less unsent s = (is_download task s.1.unsent ≡ true) × (unsent_mails room bytes s.1.unsent < unsent_mails room bytes unsent)

  choose : (unsent : Unsent) (b : Bool) (x y : Sent) → (b ≡ true → Less unsent x) → (b ≡ false → Less unsent y) → Less unsent (if b then x else y)
  choose unsent true x y p q = p refl
  choose unsent false x y p q = q refl

  first_less : (index sub : ℕ) (all : Bool) → Less Unsent.First (send_download (with Unsent.First) index sub all)
  first_less index sub all =
      choose Unsent.First (is_expedited bytes) _ _ (λ e. (refl, omega arith))
      (λ e. choose Unsent.First (nat_le (length bytes) (room - 16)) _ _ (λ f. (refl, omega arith)) (λ f. (refl, omega arith)))

  segment_less : (from : ℕ) (toggle : Bool) → nat_lt from (length bytes) ≡ true → Less (Unsent.Segments from toggle) (send_segment (with (Unsent.Segments from toggle)) from toggle)
  segment_less from toggle left =
      let below : from < length bytes = ltb-true from (length bytes) left in
      let rest : length (drop from bytes) ≡ length bytes - from = length-drop from bytes in
      choose (Unsent.Segments from toggle) (nat_le (length (drop from bytes)) (room - 9)) _ _
      (λ e.
      let fits = leb-true (length (drop from bytes)) (room - 9) e in
      let one : parts_of (room - 9) (length bytes - from) ≡ 1 = one_part (room - 9) (length bytes - from) (omega arith) (omega (arith, fits, rest)) in
      (refl, omega (arith, one)))
      (λ e.
      let more = leb-false (length (drop from bytes)) (room - 9) e in
      let back : length bytes - from - (room - 9) ≡ length bytes - (from + (room - 9)) = omega arith in
      let step : parts_of (room - 9) (length bytes - from) ≡ suc (parts_of (room - 9) (length bytes - (from + (room - 9)))) =
      more_parts (room - 9) (length bytes - from) (omega arith) (omega (arith, more, rest)) ∙ ap (λ n. suc (parts_of (room - 9) n)) back in
      (refl, omega (arith, step)))

-- what is sent of a download is one mail of it
sent_less : (room : ℕ) (task : Task) (bytes : List ℕ) (quota : ℕ) (going : Bool) (awaits : Awaits) (value : List ℕ) (least : 64 ≤ room) (unsent : Unsent) → is_left unsent bytes ≡ true → is_download task unsent ≡ true →
    is_some (send (with room task bytes quota going awaits value least unsent) unsent).0 ≡ true → Less room task bytes quota going awaits value least unsent (send (with room task bytes quota going awaits value least unsent) unsent)
sent_less room task bytes quota going awaits value least Unsent.Nothing left is some = absurd (cc)
sent_less room Task.Nothing bytes quota going awaits value least Unsent.First left is some = absurd (cc)
sent_less room (Task.Download index sub all) bytes quota going awaits value least Unsent.First left is some = first_less room (Task.Download index sub all) bytes quota going awaits value least index sub all
sent_less room (Task.Upload index sub all) bytes quota going awaits value least Unsent.First left is some = absurd (cc)
sent_less room (Task.List kind) bytes quota going awaits value least Unsent.First left is some = absurd (cc)
sent_less room (Task.Object index) bytes quota going awaits value least Unsent.First left is some = absurd (cc)
sent_less room (Task.Entry index sub info) bytes quota going awaits value least Unsent.First left is some = absurd (cc)
sent_less room task bytes quota going awaits value least (Unsent.Segments from toggle) left is some = segment_less room task bytes quota going awaits value least from toggle left
sent_less room Task.Nothing bytes quota going awaits value least (Unsent.Requests toggle) left is some = absurd (cc)
sent_less room (Task.Download index sub all) bytes quota going awaits value least (Unsent.Requests toggle) left is some = absurd (cc)
sent_less room (Task.Upload index sub all) bytes quota going awaits value least (Unsent.Requests toggle) left is some = absurd (cc)
sent_less room (Task.List kind) bytes quota going awaits value least (Unsent.Requests toggle) left is some = absurd (cc)
sent_less room (Task.Object index) bytes quota going awaits value least (Unsent.Requests toggle) left is some = absurd (cc)
sent_less room (Task.Entry index sub info) bytes quota going awaits value least (Unsent.Requests toggle) left is some = absurd (cc)

-- of a client that may send
less_behind : (c : Talking) → 64 ≤ c.room → is_left c.unsent c.bytes ≡ true → is_download c.task c.unsent ≡ true → 0 < c.quota → (v : CoeView × Unsent) → sent_by c (Some v) ≡ send_next c →
    (is_download c.task v.1 ≡ true) × (unsent_mails c.room c.bytes v.1 < unsent_mails c.room c.bytes c.unsent)
less_behind c least left is may v sends =
    let some : (c.quota == 0) ≡ false = ne_eqb c.quota 0 (λ e. omega (arith, e)) in
    let goes : sent_by c (Some v) ≡ send c c.unsent = sends ∙ (rw some refl) in
    let one : is_some (send c c.unsent).0 ≡ true = ap (λ (s : Sent). is_some s.0) (sym goes) in
    let behind : (send c c.unsent).1.unsent ≡ v.1 = ap (λ (s : Sent). s.1.unsent) (sym goes) in
    subst (λ (u : Unsent). (is_download c.task u ≡ true) × (unsent_mails c.room c.bytes u < unsent_mails c.room c.bytes c.unsent)) behind
    (sent_less c.room c.task c.bytes c.quota c.going c.awaits c.value least c.unsent left is one)

-- behind a mail that is sent
pub paced_sent : (c : Talking) → 64 ≤ c.room → is_left c.unsent c.bytes ≡ true → 0 < c.quota → (v : CoeView × Unsent) → sent_by c (Some v) ≡ send_next c → (a : Awaits) → is_paced c.room c.task c.bytes c.unsent c.quota c.going a ≡ true →
    is_paced c.room c.task c.bytes v.1 (c.quota - 1) c.going a ≡ true
paced_sent c least left may v sends Awaits.Acceptance paced =
    let p = split c.going _ paced in
    let q = split (is_download c.task c.unsent) _ p.1 in
    let n = less_behind c least left q.0 may v sends in
    let few = leb-true (unsent_mails c.room c.bytes c.unsent) (c.quota + segments_behind c.room c.bytes) q.1 in
    joined c.going _ p.0 (joined (is_download c.task v.1) _ n.0 (le-leb (unsent_mails c.room c.bytes v.1) (c.quota - 1 + segments_behind c.room c.bytes) (omega (arith, n.1, few, may))))
paced_sent c least left may v sends (Awaits.SegmentAnswers more toggle) paced =
    let p = split c.going _ paced in
    let q = split (is_download c.task c.unsent) _ p.1 in
    let n = less_behind c least left q.0 may v sends in
    let few = ltb-true (unsent_mails c.room c.bytes c.unsent) (c.quota + more) q.1 in
    joined c.going _ p.0 (joined (is_download c.task v.1) _ n.0 (lt-ltb (unsent_mails c.room c.bytes v.1) (c.quota - 1 + more) (omega (arith, n.1, few, may))))
paced_sent c least left may v sends Awaits.Nothing paced = refl
paced_sent c least left may v sends Awaits.FirstAnswer paced = refl
paced_sent c least left may v sends (Awaits.Parts size toggle) paced = refl
paced_sent c least left may v sends (Awaits.Information opcode) paced = refl
paced_sent c least left may v sends (Awaits.Over kind) paced = refl

-- behind the answer to the first mail
pub paced_accepted : (room : ℕ) (task : Task) (bytes : List ℕ) (unsent : Unsent) (quota : ℕ) (going : Bool) (left : ℕ) → left ≡ segments_behind room bytes → is_paced room task bytes unsent quota going Awaits.Acceptance ≡ true →
    is_paced room task bytes unsent (if going then quota + 1 else quota) going (Awaits.SegmentAnswers left false) ≡ true
paced_accepted room task bytes unsent quota false left is paced = absurd (cc)
paced_accepted room task bytes unsent quota true left is paced =
    let q = split (is_download task unsent) _ paced in
    let few = leb-true (unsent_mails room bytes unsent) (quota + segments_behind room bytes) q.1 in
    joined (is_download task unsent) _ q.0 (lt-ltb (unsent_mails room bytes unsent) (quota + 1 + left) (omega (arith, few, is)))

-- behind the answer to a segment
pub paced_answered : (room : ℕ) (task : Task) (bytes : List ℕ) (unsent : Unsent) (quota : ℕ) (going : Bool) (left : ℕ) (toggle expected : Bool) → 0 < left → is_paced room task bytes unsent quota going (Awaits.SegmentAnswers left expected) ≡ true →
    is_paced room task bytes unsent (if going then quota + 1 else quota) going (Awaits.SegmentAnswers (left - 1) toggle) ≡ true
paced_answered room task bytes unsent quota false left toggle expected some paced = absurd (cc)
paced_answered room task bytes unsent quota true left toggle expected some paced =
    let q = split (is_download task unsent) _ paced in
    let few = ltb-true (unsent_mails room bytes unsent) (quota + left) q.1 in
    joined (is_download task unsent) _ q.0 (lt-ltb (unsent_mails room bytes unsent) (quota + 1 + (left - 1)) (omega (arith, few, some)))

-- ---- where no mail may go, and no more are unsent than may go, none is

not_requests : (task : Task) (toggle : Bool) → is_download task (Unsent.Requests toggle) ≡ true → ⊥
not_requests Task.Nothing toggle is = absurd (cc)
not_requests (Task.Download index sub all) toggle is = absurd (cc)
not_requests (Task.Upload index sub all) toggle is = absurd (cc)
not_requests (Task.List kind) toggle is = absurd (cc)
not_requests (Task.Object index) toggle is = absurd (cc)
not_requests (Task.Entry index sub info) toggle is = absurd (cc)

some_parts : (part len : ℕ) → 0 < part → 0 < len → parts_of part len ≡ 0 → ⊥
some_parts part len low some none = elim (cases_lt part len) [
  | inr fits ↦ let one = one_part part len some fits in omega (arith, one, none)
  | inl more ↦ let step = more_parts part len low more in omega (arith, step, none)
]

some_segments : (fuel part : ℕ) (toggle : Bool) (rest : List ℕ) (n : ℕ) → 0 < fuel → take (suc n) (segments fuel part toggle rest) ≡ [] → ⊥
some_segments zero part toggle rest n some none = omega (arith, some)
some_segments (suc fuel) part toggle rest n some none = by (nat_le (length rest) part) none
  where
    by : (b : Bool) → take (suc n) (if b then mail (Segment toggle true (record { items = rest })) ∷ [] else mail (Segment toggle false (record { items = take part rest })) ∷ segments fuel part (not toggle) (drop part rest)) ≡ [] → ⊥
    by true e = absurd (cc)
    by false e = absurd (cc)

some_download : (room : ℕ) (t : Target) (bytes : List ℕ) (n : ℕ) → take (suc n) (download_mails room t bytes) ≡ [] → ⊥
some_download room t bytes n none = by (is_expedited bytes) none
  where
    by : (b : Bool) → take (suc n) (if b then mail (Expedited t.index t.sub t.all (record { items = bytes })) ∷ []
        else mail (First t.index t.sub t.all (length bytes) (record { items = take (room - 16) bytes })) ∷ behind_first room bytes) ≡ [] → ⊥
    by true e = absurd (cc)
    by false e = absurd (cc)

none_left : (room : ℕ) (task : Task) (bytes : List ℕ) (unsent : Unsent) (quota : ℕ) → 64 ≤ room → is_left unsent bytes ≡ true → is_download task unsent ≡ true → unsent_mails room bytes unsent ≤ quota →
    sending room task bytes unsent quota ≡ [] → unsent ≡ Unsent.Nothing
none_left room task bytes Unsent.Nothing quota least left is few none = refl
none_left room task bytes Unsent.First zero least left is few none = absurd (omega (arith, few))
none_left room Task.Nothing bytes Unsent.First (suc n) least left is few none = absurd (cc)
none_left room (Task.Download index sub all) bytes Unsent.First (suc n) least left is few none = absurd (some_download room (record { index = index; sub = sub; all = all }) bytes n none)
none_left room (Task.Upload index sub all) bytes Unsent.First (suc n) least left is few none = absurd (cc)
none_left room (Task.List kind) bytes Unsent.First (suc n) least left is few none = absurd (cc)
none_left room (Task.Object index) bytes Unsent.First (suc n) least left is few none = absurd (cc)
none_left room (Task.Entry index sub info) bytes Unsent.First (suc n) least left is few none = absurd (cc)
none_left room task bytes (Unsent.Segments from toggle) zero least left is few none =
    let below : from < length bytes = ltb-true from (length bytes) left in
    absurd (some_parts (room - 9) (length bytes - from) (omega arith) (omega arith) (omega (arith, few)))
none_left room task bytes (Unsent.Segments from toggle) (suc n) least left is few none =
    let below : from < length bytes = ltb-true from (length bytes) left in
    absurd (some_segments (length bytes) (room - 9) toggle (drop from bytes) n (omega arith) none)
none_left room task bytes (Unsent.Requests toggle) zero least left is few none = absurd (not_requests task toggle is)
none_left room task bytes (Unsent.Requests toggle) (suc n) least left is few none = absurd (not_requests task toggle is)

-- behind the acceptance of a download of one mail, and behind its last segment's answer
pub accepted_whole : (room : ℕ) (task : Task) (bytes : List ℕ) (unsent : Unsent) (quota : ℕ) (going : Bool) → 64 ≤ room → is_left unsent bytes ≡ true → segments_behind room bytes ≡ 0 →
    is_paced room task bytes unsent quota going Awaits.Acceptance ≡ true → sending room task bytes unsent (quota + goes_on going []) ≡ [] → unsent ≡ Unsent.Nothing
accepted_whole room task bytes unsent quota false least left none paced sent = absurd (cc)
accepted_whole room task bytes unsent quota true least left none paced sent =
    let q = split (is_download task unsent) _ paced in
    let few = leb-true (unsent_mails room bytes unsent) (quota + segments_behind room bytes) q.1 in
    none_left room task bytes unsent (quota + 0) least left q.0 (omega (arith, few, none)) sent

pub answered_whole : (room : ℕ) (task : Task) (bytes : List ℕ) (unsent : Unsent) (quota : ℕ) (going : Bool) (left : ℕ) (toggle : Bool) → 64 ≤ room → is_left unsent bytes ≡ true → left - 1 ≡ 0 →
    is_paced room task bytes unsent quota going (Awaits.SegmentAnswers left toggle) ≡ true → sending room task bytes unsent (quota + goes_on going []) ≡ [] → unsent ≡ Unsent.Nothing
answered_whole room task bytes unsent quota false left toggle least is_there none paced sent = absurd (cc)
answered_whole room task bytes unsent quota true left toggle least is_there none paced sent =
    let q = split (is_download task unsent) _ paced in
    let few = ltb-true (unsent_mails room bytes unsent) (quota + left) q.1 in
    none_left room task bytes unsent (quota + 0) least is_there q.0 (omega (arith, few, none)) sent

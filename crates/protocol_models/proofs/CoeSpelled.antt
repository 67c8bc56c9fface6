-- The mails of a CoE service, from client and server, have spellings.
use Rattle.std.proofs.Common.{◌≡◌, inl, inr, ℕ, zero, suc, ◌+◌, ◌-◌, ◌<◌, ◌≤◌, Bool, true, false, not, ◌&&◌, nat_lt, nat_le, ◌==◌, div-le_self, leb-true, List, [], ◌∷◌, ◌++◌, map, length, drop, if◌then◌else◌, Option, None, Some, Result, Ok, Err, refl, sym, subst, arith, length-drop, length-take, le-leb, ltb-true, le_refl, leb-false}
use Rattle.std.proofs.lemmas.Bool.{cases_lt, lt-leb}
use Rattle.coe_codec.specs.Reading.{is_information}
use Rattle.exchange_model.specs.Areas.{Areas, AreMailboxes}
use Rattle.exchange_model.specs.Exchange.{given, plain}
use Rattle.exchange_model.specs.Dialogue.{Turn, next, again, stop, chosen, turn_at, sent}
use Rattle.exchange_model.specs.Lifted.{EachOf, Spells}
use Rattle.exchange_model.proofs.Turns.{sent_each, never_at, sent_last}
use Rattle.protocol_models.specs.CoeMails.{CoeMail, mail, fragment, is_emission, Expedited, First, Upload, Segment, SegmentAnswer, UploadSegment, Abort}
use Rattle.protocol_models.specs.Tables.{Target, Ask, list, object, entry, Tables, AreLawful}
use Rattle.protocol_models.specs.CoeServer.{Transfer, idle, downloading, uploading, Emission, emergency, packet, Outcome, Server, coe_outcome, ended, abort, stored, begins, takes_first, takes_segment, takes_upload_segment, opened, is_expedited, informed, information_parts, parts_of, answer_opcode, download_answer, emission_of, issued, serve, same}
use Rattle.protocol_models.specs.CoeMeaning.{Service, download, upload, information}
use Rattle.protocol_models.specs.CoeClient.{decide, segments, download_mails, requests, mails_of, information_mail}
use Rattle.protocol_models.specs.CoeModel.{is_target, is_service, are_octets, turns, full, coe_exchange}
use Rattle.protocol_models.specs.CoeOctets.{is_fragment, AreSpelled, coe_mail_heard, coe_mail_written}
use Rattle.protocol_models.proofs.Spelling.{IsSpelled, all_read_back}
use Rattle.protocol_models.proofs.CoeSpeaks.{never}
use Rattle.protocol_models.proofs.CoeLaw.{issued_valid}

-- an outcome whose answers have spellings, and whose transfer goes on so
abbrev IsSoundTransfer : Transfer → Type 0
IsSoundTransfer idle = Unit {0}
IsSoundTransfer (downloading t size got toggle) = t.index < 65536
IsSoundTransfer (uploading t rest toggle) = (t.index < 65536) × (0 < length rest)

abbrev IsSpelledEmission : Option Emission → Type 0
IsSpelledEmission None = Unit {0}
IsSpelledEmission (Some (emergency octets)) = length octets ≡ 8
IsSpelledEmission (Some (packet octets)) = Unit {0}

record IsSound {S : Type 0} (o : Tables S) (x : Outcome S) : Type 0 where
  valid : o.valid x.app ≡ true
  answers : EachOf IsSpelled x.answers
  transfer : IsSoundTransfer x.transfer
  emission : IsSpelledEmission x.emission

each_append : {M : Type 0} (P : M → Type 0) (xs ys : List M) → EachOf P xs → EachOf P ys → EachOf P (xs ++ ys)
each_append P [] ys p q = q
each_append P (x ∷ xs) ys p q = (p.0, each_append P xs ys p.1 q)

fragments_spelled : (bodies : List (List ℕ)) → EachOf (λ body. is_fragment body ≡ true) bodies → EachOf IsSpelled (map fragment bodies)
fragments_spelled [] all = tt
fragments_spelled (b ∷ bodies) all = (all.0, fragments_spelled bodies all.1)

parts_few : (part octets : ℕ) → octets ≤ 16384 → part ≤ 1486 → parts_of part octets < 65536
parts_few part octets few short = omega (arith, div-le_self (octets + part - 1) part)

both_left : (a b : Bool) → (a && b) ≡ true → a ≡ true
both_left true b e = refl
both_left false b e = absurd (cc)

both_right : (a b : Bool) → (a && b) ≡ true → b ≡ true
both_right true b e = e
both_right false b e = absurd (cc)

-- the parts of an information answer
parts_spelled : (fuel opcode part : ℕ) (bytes : List ℕ) → (is_information opcode ≡ true) → part ≤ 1486 → length bytes ≤ 16384 → EachOf IsSpelled (information_parts fuel opcode part bytes)
parts_spelled zero opcode part bytes known short few = tt
parts_spelled (suc fuel) opcode part bytes known short few = elim (cases_lt part (length bytes)) [
  | inr fits ↦ rw (le-leb (length bytes) part fits) ((known, (omega arith), tt), tt)
  | inl more ↦ rw (lt-leb (length bytes) part more)
      ((known, parts_few part (length bytes - part) (omega arith) short, tt), parts_spelled fuel opcode part (drop part bytes) known short (omega (arith, length-drop part bytes)))
]

answers_known : (a : Ask) → is_information (answer_opcode a) ≡ true
answers_known (list kind) = refl
answers_known (object index) = refl
answers_known (entry index sub info) = refl

module _ {S : Type 0} (o : Tables S) (law : AreLawful o) (spelled : AreSpelled o) (eoe : Bool) (areas : Areas) (sized : AreMailboxes areas) where
  either : (b : Bool) (x y : Outcome S) → IsSound o x → IsSound o y → IsSound o (if b then x else y)
  either true x y p q = p
  either false x y p q = q

  aborted : (app : S) → o.valid app ≡ true → (t : Target) (code : ℕ) → t.index < 65536 → code < 4294967296 → IsSound o (ended app idle (abort t code))
  aborted app good t code index small = record { valid = good; answers = ((tt, (index, small), tt), tt); transfer = tt; emission = tt }

  emission_spelled : (app changed : S) → o.valid app ≡ true → (t : Target) (bytes : List ℕ) → o.download app t bytes ≡ Ok changed → (e : Option Emission) → emission_of eoe t bytes ≡ e → IsSpelledEmission e
  emission_spelled app changed good t bytes is None e = tt
  emission_spelled app changed good t bytes is (Some (emergency octets)) e = spelled.eight app changed eoe t bytes octets good is e
  emission_spelled app changed good t bytes is (Some (packet octets)) e = tt

  by_stored : (app : S) → o.valid app ≡ true → (t : Target) (bytes : List ℕ) (a : CoeMail) → t.index < 65536 → IsSpelled a → (r : Result S ℕ) → o.download app t bytes ≡ r → IsSound o (stored eoe app t bytes a r)
  by_stored app good t bytes a index ok (Ok changed) is = record { valid = law.stays app changed t bytes good is; answers = (ok, tt); transfer = tt; emission = emission_spelled app changed good t bytes is (emission_of eoe t bytes) refl }
  by_stored app good t bytes a index ok (Err code) is = aborted app good t code index (spelled.download_code app t bytes code good is)

  by_begins : (app : S) → o.valid app ≡ true → (t : Target) (size : ℕ) (part : List ℕ) → t.index < 65536 → (found : Option ℕ) → o.check app t size ≡ found → IsSound o (begins app t size part found)
  by_begins app good t size part index None is = record { valid = good; answers = ((tt, index, tt), tt); transfer = index; emission = tt }
  by_begins app good t size part index (Some code) is = aborted app good t code index (spelled.check_code app t size code good is)

  by_first : (app : S) → o.valid app ≡ true → (t : Target) (size : ℕ) (part : List ℕ) → t.index < 65536 → IsSound o (takes_first o eoe app t size part)
  by_first app good t size part index = either (size == length part) _ _
      (by_stored app good t part (download_answer t) index (tt, index, tt) (o.download app t part) refl) (by_begins app good t size part index (o.check app t size) refl)

  nowhere_aborted : (app : S) → o.valid app ≡ true → (code : ℕ) → code < 4294967296 → IsSound o (ended app idle (mail (Abort 0 0 code)))
  nowhere_aborted app good code small = record { valid = good; answers = ((tt, (omega arith, small), tt), tt); transfer = tt; emission = tt }

  by_segment : (app : S) → o.valid app ≡ true → (transfer : Transfer) (toggle last : Bool) (part : List ℕ) → IsSoundTransfer transfer → IsSound o (takes_segment o eoe app transfer toggle last part)
  by_segment app good idle toggle last part sound = nowhere_aborted app good 0x05040001 (omega arith)
  by_segment app good (uploading t rest expected) toggle last part sound = aborted app good t 0x05040001 sound.0 (omega arith)
  by_segment app good (downloading t size got expected) toggle last part sound =
      either (not (same expected toggle)) _ _ (aborted app good t 0x05030000 sound (omega arith))
      (either (nat_lt size (length (got ++ part))) _ _ (aborted app good t 0x06070012 sound (omega arith))
      (either last _ _
      (either (nat_lt (length (got ++ part)) size) _ _ (aborted app good t 0x06070013 sound (omega arith))
      (by_stored app good t (got ++ part) (mail (SegmentAnswer toggle)) sound (tt, tt, tt) (o.download app t (got ++ part)) refl))
      (record { valid = good; answers = ((tt, tt, tt), tt); transfer = sound; emission = tt })))

  either_as : (b : Bool) (x y : Outcome S) → (b ≡ true → IsSound o x) → (b ≡ false → IsSound o y) → IsSound o (if b then x else y)
  either_as true x y p q = p refl
  either_as false x y p q = q refl

  by_opened : (app : S) → o.valid app ≡ true → (t : Target) → t.index < 65536 → (r : Result (List ℕ) ℕ) → o.upload app t ≡ r → IsSound o (opened areas.back app t r)
  by_opened app good t index (Err code) is = aborted app good t code index (spelled.upload_code app t code good is)
  by_opened app good t index (Ok bytes) is =
      let few : length bytes ≤ 16384 = law.short app t bytes good is in
      either_as (is_expedited bytes) _ _
      (λ e. record {
        valid = good;
        answers = ((leb-true 1 (length bytes) (both_left (nat_le 1 (length bytes)) (nat_le (length bytes) 4) e), index, leb-true (length bytes) 4 (both_right (nat_le 1 (length bytes)) (nat_le (length bytes) 4) e)), tt);
        transfer = tt;
        emission = tt;
      })
      (λ _. either_as (nat_le (length bytes) (areas.back - 16)) _ _
      (λ e. record { valid = good; answers = ((le_refl (length bytes), (index, omega arith), tt), tt); transfer = tt; emission = tt })
      (λ e. let more = leb-false (length bytes) (areas.back - 16) e in record {
        valid = good;
        answers = ((omega (arith, length-take (areas.back - 16) bytes), (index, omega arith), tt), tt);
        transfer = (index, omega (arith, length-drop (areas.back - 16) bytes));
        emission = tt;
      }))

  by_upload_segment : (app : S) → o.valid app ≡ true → (transfer : Transfer) (toggle : Bool) → IsSoundTransfer transfer → IsSound o (takes_upload_segment areas.back app transfer toggle)
  by_upload_segment app good idle toggle sound = nowhere_aborted app good 0x05040001 (omega arith)
  by_upload_segment app good (downloading t size got expected) toggle sound = aborted app good t 0x05040001 sound (omega arith)
  by_upload_segment app good (uploading t rest expected) toggle sound =
      either (not (same expected toggle)) _ _ (record { valid = good; answers = ((tt, (sound.0, omega arith), tt), tt); transfer = tt; emission = tt })
      (either_as (nat_le (length rest) (areas.back - 9)) _ _
      (λ e. record { valid = good; answers = ((sound.1, tt, tt), tt); transfer = tt; emission = tt })
      (λ e. let more = leb-false (length rest) (areas.back - 9) e in
      let least = sized.back_least in record {
        valid = good;
        answers = ((omega (arith, length-take (areas.back - 9) rest), tt, tt), tt);
        transfer = (sound.0, omega (arith, length-drop (areas.back - 9) rest));
        emission = tt;
      }))

  -- a mail that begins an SDO service, and one that goes on with it
  abbrev IsInitiate : CoeMail → Type 0
  IsInitiate (mail (Expedited index sub all bytes)) = index < 65536
  IsInitiate (mail (First index sub all size bytes)) = index < 65536
  IsInitiate (mail (Upload index sub all)) = index < 65536
  IsInitiate _ = ⊥

  abbrev IsNext : CoeMail → Type 0
  IsNext (mail (Segment toggle last bytes)) = Unit {0}
  IsNext (mail (UploadSegment toggle)) = Unit {0}
  IsNext _ = ⊥

  initiated : (v : Server S) → o.valid v.app ≡ true → (m : CoeMail) → IsInitiate m → IsSound o (coe_outcome o eoe areas.back v.app v.transfer m)
  initiated v good (mail (Expedited index sub all bytes)) index_fits =
      let t : Target = record { index = index; sub = sub; all = all } in by_stored v.app good t bytes.items (download_answer t) index_fits (tt, index_fits, tt) (o.download v.app t bytes.items) refl
  initiated v good (mail (First index sub all size bytes)) index_fits = by_first v.app good (record { index = index; sub = sub; all = all }) size bytes.items index_fits
  initiated v good (mail (Upload index sub all)) index_fits =
      let t : Target = record { index = index; sub = sub; all = all } in by_opened v.app good t index_fits (o.upload v.app t) refl
  initiated v good _ none = absurd none

  went_on : (v : Server S) → o.valid v.app ≡ true → (m : CoeMail) → IsSoundTransfer v.transfer → IsNext m → IsSound o (coe_outcome o eoe areas.back v.app v.transfer m)
  went_on v good (mail (Segment toggle last bytes)) sound is = by_segment v.app good v.transfer toggle last bytes.items sound
  went_on v good (mail (UploadSegment toggle)) sound is = by_upload_segment v.app good v.transfer toggle sound
  went_on v good _ sound none = absurd none

  issue_spelled : (app : S) (e : Option Emission) → IsSpelledEmission e → EachOf IsSpelled (issued o app e).1
  issue_spelled app None ok = tt
  issue_spelled app (Some (emergency octets)) ok = ((ok, tt, tt), tt)
  issue_spelled app (Some (packet octets)) ok = fragments_spelled (o.packet app octets).1 (spelled.cut app octets)

  gives_spelled : (x : Outcome S) → IsSound o x → EachOf IsSpelled (x.answers ++ (issued o x.app x.emission).1)
  gives_spelled x sound = each_append IsSpelled x.answers (issued o x.app x.emission).1 sound.answers (issue_spelled x.app x.emission sound.emission)

  next_spelled : (v : Server S) → o.valid v.app ≡ true → (ms : List CoeMail) → IsSoundTransfer v.transfer → EachOf IsNext ms → EachOf IsSpelled (given (serve o eoe areas.back) v ms)
  next_spelled v good [] sound all = tt
  next_spelled v good (m ∷ ms) sound all =
      let x = coe_outcome o eoe areas.back v.app v.transfer m in
      let ok = went_on v good m sound all.0 in
      each_append IsSpelled (x.answers ++ (issued o x.app x.emission).1) _ (gives_spelled x ok) (next_spelled (serve o eoe areas.back v m).0 (issued_valid o law eoe areas sized x.app x.emission ok.valid) ms ok.transfer all.1)

  -- a service's first mail and others behind it
  abbrev AreSdo : List CoeMail → Type 0
  AreSdo [] = Unit {0}
  AreSdo (m ∷ ms) = IsInitiate m × EachOf IsNext ms

  sdo_given : (v : Server S) → o.valid v.app ≡ true → (ms : List CoeMail) → AreSdo ms → EachOf IsSpelled (given (serve o eoe areas.back) v ms)
  sdo_given v good [] all = tt
  sdo_given v good (m ∷ ms) all =
      let x = coe_outcome o eoe areas.back v.app v.transfer m in
      let ok = initiated v good m all.0 in
      each_append IsSpelled (x.answers ++ (issued o x.app x.emission).1) _ (gives_spelled x ok) (next_spelled (serve o eoe areas.back v m).0 (issued_valid o law eoe areas sized x.app x.emission ok.valid) ms ok.transfer all.1)

  -- what the client sends of such mails is such
  chosen_next : (turn : Option Turn) (a b : List CoeMail) → (turn ≡ Some again → ⊥) → EachOf IsNext a → EachOf IsNext (chosen turn a b [])
  chosen_next None a b once all = tt
  chosen_next (Some next) a b once all = all
  chosen_next (Some again) a b once all = absurd (once refl)
  chosen_next (Some stop) a b once all = tt

  sent_sdo : (fuel : ℕ) (v : Server S) (ms : List CoeMail) → AreSdo ms → AreSdo (sent (serve o eoe areas.back) is_emission decide fuel v ms)
  sent_sdo zero v ms all = tt
  sent_sdo (suc fuel) v [] all = tt
  sent_sdo (suc fuel) v (m ∷ ms) all = (
    all.0,
    chosen_next (turn_at decide m [] (plain is_emission (serve o eoe areas.back v m).1)) _ _ (never_at decide never m [] (plain is_emission (serve o eoe areas.back v m).1))
        (sent_each (serve o eoe areas.back) is_emission decide IsNext fuel (serve o eoe areas.back v m).0 ms all.1),
  )

  segments_next : (fuel part : ℕ) (toggle : Bool) (rest : List ℕ) → EachOf IsNext (segments fuel part toggle rest)
  segments_next zero part toggle rest = tt
  segments_next (suc fuel) part toggle rest = elim (cases_lt part (length rest)) [
    | inr fits ↦ rw (le-leb (length rest) part fits) (tt, tt)
    | inl more ↦ rw (lt-leb (length rest) part more) (tt, segments_next fuel part (not toggle) (drop part rest))
  ]

  next_if : (b : Bool) (xs ys : List CoeMail) → EachOf IsNext xs → EachOf IsNext ys → EachOf IsNext (if b then xs else ys)
  next_if true xs ys p q = p
  next_if false xs ys p q = q

  sdo_if : (b : Bool) (xs ys : List CoeMail) → AreSdo xs → AreSdo ys → AreSdo (if b then xs else ys)
  sdo_if true xs ys p q = p
  sdo_if false xs ys p q = q

  download_sdo : (room : ℕ) (t : Target) (bytes : List ℕ) → t.index < 65536 → AreSdo (download_mails room t bytes)
  download_sdo room t bytes index = sdo_if (is_expedited bytes) _ _ (index, tt)
      (index, next_if (nat_le (length bytes) (room - 16)) [] _ tt (segments_next (length bytes) (room - 9) false (drop (room - 16) bytes)))

  requests_next : (n : ℕ) (toggle : Bool) → EachOf IsNext (requests n toggle)
  requests_next zero toggle = tt
  requests_next (suc n) toggle = (tt, requests_next n (not toggle))

  -- the client's mails have spellings
  segments_spelled : (fuel part : ℕ) (toggle : Bool) (rest : List ℕ) → 0 < part → 0 < length rest → EachOf IsSpelled (segments fuel part toggle rest)
  segments_spelled zero part toggle rest some left = tt
  segments_spelled (suc fuel) part toggle rest some left = elim (cases_lt part (length rest)) [
    | inr fits ↦ rw (le-leb (length rest) part fits) ((left, tt, tt), tt)
    | inl more ↦ rw (lt-leb (length rest) part more)
        ((omega (arith, length-take part rest), tt, tt), segments_spelled fuel part (not toggle) (drop part rest) some (omega (arith, length-drop part rest)))
  ]

  list_as : (b : Bool) (xs ys : List CoeMail) → (b ≡ true → EachOf IsSpelled xs) → (b ≡ false → EachOf IsSpelled ys) → EachOf IsSpelled (if b then xs else ys)
  list_as true xs ys p q = p refl
  list_as false xs ys p q = q refl

  download_spelled : (t : Target) (bytes : List ℕ) → t.index < 65536 → length bytes ≤ 16384 → EachOf IsSpelled (download_mails areas.out t bytes)
  download_spelled t bytes index few = list_as (is_expedited bytes) _ _
      (λ e. ((leb-true 1 (length bytes) (both_left (nat_le 1 (length bytes)) (nat_le (length bytes) 4) e), index, leb-true (length bytes) 4 (both_right (nat_le 1 (length bytes)) (nat_le (length bytes) 4) e)), tt))
      (λ _. (
        (omega (arith, length-take (areas.out - 16) bytes), (index, omega arith), tt),
        list_as (nat_le (length bytes) (areas.out - 16)) [] _ (λ _. tt)
            (λ e. let more = leb-false (length bytes) (areas.out - 16) e in
            let least = sized.out_least in
            segments_spelled (length bytes) (areas.out - 9) false (drop (areas.out - 16) bytes) (omega arith) (omega (arith, length-drop (areas.out - 16) bytes))),
      ))

  requests_spelled : (n : ℕ) (toggle : Bool) → EachOf IsSpelled (requests n toggle)
  requests_spelled zero toggle = tt
  requests_spelled (suc n) toggle = ((tt, tt, tt), requests_spelled n (not toggle))

  index_fits : (t : Target) → is_target t ≡ true → t.index < 65536
  index_fits t e = ltb-true t.index 65536 (both_left (nat_lt t.index 65536) (nat_lt t.sub 256) e)

  mails_spelled : (q : Service) (n : ℕ) → is_service q ≡ true → EachOf IsSpelled (mails_of areas.out q n)
  mails_spelled (download t bytes) n e =
      let front = both_left (is_target t && are_octets bytes) (nat_le (length bytes) 16384) e in
      download_spelled t bytes (index_fits t (both_left (is_target t) (are_octets bytes) front)) (leb-true (length bytes) 16384 (both_right (is_target t && are_octets bytes) (nat_le (length bytes) 16384) e))
  mails_spelled (upload t) n e = ((tt, index_fits t e, tt), requests_spelled n false)
  mails_spelled (information (list kind)) n e = ((tt, ltb-true kind 65536 e, tt), tt)
  mails_spelled (information (object index)) n e = ((tt, ltb-true index 65536 e, tt), tt)
  mails_spelled (information (entry index sub info)) n e =
      ((tt, ltb-true index 65536 (both_left (nat_lt index 65536) (nat_lt sub 256) (both_left (nat_lt index 65536 && nat_lt sub 256) (nat_lt info 256) e)), tt), tt)

  full_spelled : (v : Server S) (q : Service) → is_service q ≡ true → EachOf IsSpelled (full o eoe areas v q)
  full_spelled v q e = sent_each (serve o eoe areas.back) is_emission decide IsSpelled (turns o v.app q) v (mails_of areas.out q (turns o v.app q)) (mails_spelled q (turns o v.app q) e)

  -- and so have the server's
  asked_given : (app : S) → o.valid app ≡ true → (transfer : Transfer) (a : Ask) (r : Result (List ℕ) ℕ) → o.info app a ≡ r →
      let x = informed areas.back app transfer a r in EachOf IsSpelled (x.answers ++ (issued o x.app x.emission).1 ++ [])
  asked_given app good transfer a (Err code) is = ((tt, spelled.info_code app a code good is, tt), tt)
  asked_given app good transfer a (Ok bytes) is =
      each_append IsSpelled (information_parts (suc (length bytes)) (answer_opcode a) (areas.back - 12) bytes ++ []) []
      (each_append IsSpelled (information_parts (suc (length bytes)) (answer_opcode a) (areas.back - 12) bytes) []
      (parts_spelled (suc (length bytes)) (answer_opcode a) (areas.back - 12) bytes (answers_known a) (let most = sized.back_most in omega arith) (law.short_info app a bytes good is)) tt) tt

  ask_given : (v : Server S) → o.valid v.app ≡ true → (a : Ask) → EachOf IsSpelled (given (serve o eoe areas.back) v (information_mail a ∷ []))
  ask_given v good (list kind) = asked_given v.app good v.transfer (list kind) (o.info v.app (list kind)) refl
  ask_given v good (object index) = asked_given v.app good v.transfer (object index) (o.info v.app (object index)) refl
  ask_given v good (entry index sub info) = asked_given v.app good v.transfer (entry index sub info) (o.info v.app (entry index sub info)) refl

  given_spelled : (v : Server S) (q : Service) → o.valid v.app ≡ true → is_service q ≡ true → EachOf IsSpelled (given (serve o eoe areas.back) v (full o eoe areas v q))
  given_spelled v (download t bytes) good e =
      let front = both_left (is_target t && are_octets bytes) (nat_le (length bytes) 16384) e in
      let turned = turns o v.app (download t bytes) in
      sdo_given v good (full o eoe areas v (download t bytes))
      (sent_sdo turned v (download_mails areas.out t bytes) (download_sdo areas.out t bytes (index_fits t (both_left (is_target t) (are_octets bytes) front))))
  given_spelled v (upload t) good e =
      sdo_given v good (full o eoe areas v (upload t)) (sent_sdo (turns o v.app (upload t)) v (mails_of areas.out (upload t) (turns o v.app (upload t))) (index_fits t e, requests_next (turns o v.app (upload t)) false))
  given_spelled v (information a) good e =
      subst (λ ms. EachOf IsSpelled (given (serve o eoe areas.back) v ms)) (sym (sent_last decide never (serve o eoe areas.back) is_emission 2 v (information_mail a))) (ask_given v good a)

  pub coe_spells : Spells (coe_exchange o eoe areas) coe_mail_heard coe_mail_written
  coe_spells = record {
    told = λ v q ready valid. all_read_back (full o eoe areas v q) (full_spelled v q valid);
    answered = λ v q ready valid. all_read_back (given (serve o eoe areas.back) v (full o eoe areas v q)) (given_spelled v q ready valid);
  }

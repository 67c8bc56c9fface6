-- Worked rows, computed: mails, answers and replies through mailboxes of 64 octets, over a small dictionary.
use Rattle.std.proofs.Common.{◌≡◌, ℕ, zero, suc, ◌+◌, ◌≤◌, ◌&&◌, ◌==◌, not, nat_lt, Bool, true, false, List, [], ◌∷◌, ◌++◌, length, take, replicate, if◌then◌else◌, Option, None, Some, Result, Ok, Err, refl, ap, arith, length-take}
use Rattle.mailbox_mail.specs.declared.outcome.ReplyKind.{ReplyKind}
use Rattle.coe_codec.specs.Writing.{coe_text}
use Rattle.exchange_model.specs.Areas.{Areas}
use Rattle.exchange_model.specs.Exchange.{after, given}
use Rattle.protocol_models.specs.CoeMails.{CoeMail, mail, failed, unread, Size, Emergency, First, DownloadAnswer, FirstAnswer, Segment, SegmentAnswer, UploadSegmentAnswer, Abort, ListRequest, Information}
use Rattle.protocol_models.specs.Tables.{Target, list, Tables, AreLawful}
use Rattle.protocol_models.specs.CoeServer.{Server, idle, downloading, serve}
use Rattle.protocol_models.specs.CoeMeaning.{download, upload, information, meaning_of}
use Rattle.protocol_models.specs.CoeClient.{ends, mails_of}
use Rattle.protocol_models.specs.CoeModel.{full}
use Rattle.protocol_models.specs.CoeOctets.{body_heard}

-- 2000:01 of 4 octets, and 2002:01 of 1 to 200; 2F00:01 of 8
record Values : Type 0 where
  setpoint : List ℕ
  text : List ℕ

abbrev is_at : ℕ → Target → Bool
is_at index t = t.index == index && t.sub == 1 && not t.all

abbrev limits : Target → Option (ℕ × ℕ)
limits t =
    if is_at 0x2000 t then Some (4, 4)
    else if is_at 0x2002 t then Some (1, 200)
    else if is_at 0x2F00 t then Some (8, 8)
    else None

abbrev judged : Option (ℕ × ℕ) → ℕ → Option ℕ
judged None size = Some 0x06020000
judged (Some (least, most)) size = if nat_lt most size then Some 0x06070012 else if nat_lt size least then Some 0x06070013 else None

abbrev kept : Values → Target → List ℕ → Values
kept s t bytes =
    if is_at 0x2000 t then record s { setpoint = bytes }
    else if is_at 0x2002 t then record s { text = bytes }
    else s

abbrev stored_or : Values → Target → List ℕ → Option ℕ → Result Values ℕ
stored_or s t bytes None = Ok (kept s t bytes)
stored_or s t bytes (Some code) = Err code

abbrev value_of : Values → Target → Result (List ℕ) ℕ
value_of s t =
    if is_at 0x2000 t then Ok (take 16384 s.setpoint)
    else if is_at 0x2002 t then Ok (take 16384 s.text)
    else Err 0x06020000

-- the indexes 2000 to 201D and 2F00, behind their list type
abbrev rising : ℕ → ℕ → List ℕ
rising low zero = []
rising low (suc n) = low ∷ 0x20 ∷ rising (low + 1) n

abbrev all_objects : List ℕ
all_objects = 1 ∷ 0 ∷ rising 0 30 ++ (0x00 ∷ 0x2F ∷ [])

abbrev rows : Tables Values
rows = record {
  valid = λ s. true;
  check = λ s t size. judged (limits t) size;
  download = λ s t bytes. stored_or s t bytes (judged (limits t) (length bytes));
  upload = value_of;
  info = λ s a. Ok all_objects;
  packet = λ s bytes. (s, []);
}

if_short : (b : Bool) (x y : Result (List ℕ) ℕ) → ((bytes : List ℕ) → x ≡ Ok bytes → length bytes ≤ 16384) → ((bytes : List ℕ) → y ≡ Ok bytes → length bytes ≤ 16384) → (bytes : List ℕ) →
    (if b then x else y) ≡ Ok bytes → length bytes ≤ 16384
if_short true x y p q = p
if_short false x y p q = q

abbrev taken : List ℕ → Result (List ℕ) ℕ
taken value = Ok (take 16384 value)

taken_short : (bytes value : List ℕ) → taken value ≡ Ok bytes → length bytes ≤ 16384
taken_short bytes value e = let same : take 16384 value ≡ bytes = cc in omega (arith, ap length same, length-take 16384 value)

-- tables can be lawful
rows_lawful : AreLawful rows
rows_lawful = record {
  early = λ s t bytes code sound e. ap (stored_or s t bytes) e;
  short = λ s t bytes sound. if_short (is_at 0x2000 t) _ _ (λ bytes. taken_short bytes s.setpoint) (if_short (is_at 0x2002 t) _ _ (λ bytes. taken_short bytes s.text) (λ bytes e. absurd (cc))) bytes;
  stays = λ s changed t bytes sound is. refl;
  stays_cut = λ s octets sound. refl;
  short_info = λ s a bytes sound e. let same : all_objects ≡ bytes = cc in let long : length all_objects ≡ 64 = refl in omega (arith, long, ap length same);
}

abbrev areas : Areas
areas = record { out = 64; back = 64 }

abbrev start : Server Values
start = record { app = record { setpoint = 0 ∷ 0 ∷ 0 ∷ 0 ∷ []; text = 0 ∷ [] }; handled = 0; transfer = idle }

abbrev at : ℕ → Target
at index = record { index = index; sub = 1; all = false }

abbrev answers : Server Values → List CoeMail → List CoeMail
answers v ms = given (serve rows false 64) v ms

-- a download that emits: the answer, then the emergency
emergency_row : answers start (full rows false areas start (download (at 0x2F00) (0 ∷ 0x81 ∷ 5 ∷ 0 ∷ 0 ∷ 0 ∷ 0 ∷ 0 ∷ [])))
    ≡ mail (DownloadAnswer 0x2F00 1) ∷ mail (Emergency (record { items = 0 ∷ 0x81 ∷ 5 ∷ 0 ∷ 0 ∷ 0 ∷ 0 ∷ 0 ∷ [] })) ∷ []
emergency_row = refl

-- a download of 110 octets goes as 48, 55 and 7
abbrev long : List ℕ
long = replicate 48 1 ++ (replicate 55 2 ++ replicate 7 3)

long_row : full rows false areas start (download (at 0x2002) long)
    ≡ mail (First 0x2002 1 false 110 (record { items = replicate 48 1 })) ∷ mail (Segment false false (record { items = replicate 55 2 })) ∷ mail (Segment true true (record { items = replicate 7 3 })) ∷ []
long_row = refl

long_answers : answers start (full rows false areas start (download (at 0x2002) long)) ≡ mail (DownloadAnswer 0x2002 1) ∷ mail (SegmentAnswer false) ∷ mail (SegmentAnswer true) ∷ []
long_answers = refl

-- without its last segment nothing is stored and nothing handled, with it both
long_unfinished : (after (serve rows false 64) start (take 2 (full rows false areas start (download (at 0x2002) long)))).handled ≡ 0
long_unfinished = refl

long_stored : (after (serve rows false 64) start (full rows false areas start (download (at 0x2002) long))).app.text ≡ long
long_stored = refl

-- and comes back in an upload whole
abbrev loaded : Server Values
loaded = record { app = record { setpoint = 0 ∷ []; text = long }; handled = 1; transfer = idle }

upload_row : answers loaded (mails_of 64 (upload (at 0x2002)) 2)
    ≡ mail (FirstAnswer 0x2002 1 110 (record { items = replicate 48 1 })) ∷ mail (UploadSegmentAnswer false false (record { items = replicate 55 2 })) ∷ mail (UploadSegmentAnswer true true (record { items = replicate 7 3 })) ∷ []
upload_row = refl

upload_reply : ends 64 (upload (at 0x2002)) (answers loaded (mails_of 64 (upload (at 0x2002)) 2)) ≡ Some (ReplyKind.Value, long)
upload_reply = refl

-- a last segment of one octet
last_row : mails_of 64 (download (at 0x2002) (replicate 48 7 ++ (0xAA ∷ []))) 0
    ≡ mail (First 0x2002 1 false 49 (record { items = replicate 48 7 })) ∷ mail (Segment false true (record { items = 0xAA ∷ [] })) ∷ []
last_row = refl

-- a mail of a wrong size gets mailbox error 8, and leaves the transfer
size_row : answers (record start { transfer = downloading (at 0x2002) 49 (replicate 48 7) false }) (unread Size 2 0 0 ∷ []) ≡ failed 8 ∷ []
size_row = refl

-- refusals
absent_row : answers start (full rows false areas start (upload (record { index = 0x3000; sub = 0; all = false }))) ≡ mail (Abort 0x3000 0 0x06020000) ∷ []
absent_row = refl

long_refused : (meaning_of rows false start.app (download (at 0x2000) (1 ∷ 2 ∷ 3 ∷ 4 ∷ 5 ∷ []))).reply ≡ (ReplyKind.Abort 0x06070012, [])
long_refused = refl

short_refused : (meaning_of rows false start.app (download (at 0x2000) (1 ∷ 2 ∷ 3 ∷ []))).reply ≡ (ReplyKind.Abort 0x06070013, [])
short_refused = refl

-- a list of 31 objects, in two parts of 52 and 12 octets
list_row : answers start (mail (ListRequest 1) ∷ [])
    ≡ mail (Information 2 true 1 (record { items = take 52 all_objects })) ∷ mail (Information 2 false 0 (record { items = 0x19 ∷ 0x20 ∷ 0x1A ∷ 0x20 ∷ 0x1B ∷ 0x20 ∷ 0x1C ∷ 0x20 ∷ 0x1D ∷ 0x20 ∷ 0 ∷ 0x2F ∷ [] })) ∷ []
list_row = refl

list_reply : ends 64 (information (list 1)) (answers start (mail (ListRequest 1) ∷ [])) ≡ Some (ReplyKind.Value, all_objects)
list_reply = refl

-- the bodies of these mails
first_body : coe_text (First 0x2002 1 false 49 (record { items = replicate 48 7 })) ≡ 0 ∷ 0x20 ∷ 0x21 ∷ 2 ∷ 0x20 ∷ 1 ∷ 0x31 ∷ 0 ∷ 0 ∷ 0 ∷ replicate 48 7
first_body = refl

last_body : coe_text (Segment false true (record { items = 0xAA ∷ [] })) ≡ 0 ∷ 0x20 ∷ 0x0D ∷ 0xAA ∷ 0 ∷ 0 ∷ 0 ∷ 0 ∷ 0 ∷ 0 ∷ []
last_body = refl

full_body : coe_text (Segment false true (record { items = replicate 7 9 })) ≡ 0 ∷ 0x20 ∷ 0x01 ∷ replicate 7 9
full_body = refl

answer_body : coe_text (SegmentAnswer false) ≡ 0 ∷ 0x30 ∷ 0x20 ∷ replicate 7 0
answer_body = refl

abort_body : coe_text (Abort 0x3000 0 0x06020000) ≡ 0 ∷ 0x20 ∷ 0x80 ∷ 0 ∷ 0x30 ∷ 0 ∷ 0 ∷ 0 ∷ 2 ∷ 6 ∷ []
abort_body = refl

-- a segment of 8 octets with an unused count is of a wrong size, and the server answers it so
unused_heard : body_heard (0 ∷ 0x20 ∷ 3 ∷ 1 ∷ 2 ∷ 3 ∷ 4 ∷ 5 ∷ 6 ∷ 7 ∷ 8 ∷ []) ≡ unread Size 2 0x0201 3
unused_heard = refl

list_body : take 16 (coe_text (Information 2 true 1 (record { items = take 52 all_objects }))) ≡ 0 ∷ 0x80 ∷ 0x82 ∷ 0 ∷ 1 ∷ 0 ∷ 1 ∷ 0 ∷ 0 ∷ 0x20 ∷ 1 ∷ 0x20 ∷ 2 ∷ 0x20 ∷ 3 ∷ 0x20 ∷ []
list_body = refl

rest_body : coe_text (Information 2 false 0 (record { items = 0x19 ∷ 0x20 ∷ 0x1A ∷ 0x20 ∷ 0x1B ∷ 0x20 ∷ 0x1C ∷ 0x20 ∷ 0x1D ∷ 0x20 ∷ 0 ∷ 0x2F ∷ [] }))
    ≡ 0 ∷ 0x80 ∷ 2 ∷ 0 ∷ 0 ∷ 0 ∷ 0x19 ∷ 0x20 ∷ 0x1A ∷ 0x20 ∷ 0x1B ∷ 0x20 ∷ 0x1C ∷ 0x20 ∷ 0x1D ∷ 0x20 ∷ 0 ∷ 0x2F ∷ []
rest_body = refl

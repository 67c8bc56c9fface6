-- What a CoE server does with any mail: its answers are no fragments, and a packet that it emits is one that a download stored.
use Rattle.std.proofs.Common.{◌≡◌, ℕ, zero, suc, ◌-◌, ◌==◌, ◌||◌, not, nat_le, nat_lt, Bool, true, false, List, [], ◌∷◌, ◌++◌, map, take, drop, length, Option, Some, None, Result, Ok, Err, refl, if◌then◌else◌}
use Rattle.std.specs.Prelude.{⊤}
use Rattle.packets_heard.specs.of_protocol_models.CoeMails as Coe
use Rattle.packets_heard.specs.of_protocol_models.CoeMails.{CoeMail, mail, unread, failed, fragment, other, Abort, DownloadAnswer, SegmentAnswer, ExpeditedAnswer, FirstAnswer, UploadSegmentAnswer, Information, InformationError}
use Rattle.packets_heard.specs.of_protocol_models.CoeOctets as CoeOctets
use Rattle.packets_heard.specs.of_protocol_models.CoeServer.{Transfer, idle, downloading, uploading, Outcome, Emission, emission_of, ended, goes_on, silent, abort, download_answer, same, stored, takes_whole, begins, takes_first, takes_segment, is_expedited, opened, takes_upload_segment, parts_of, information_parts, answer_opcode, informed, unknown_command, takes_unread, coe_takes, coe_outcome, packet}
use Rattle.packets_heard.specs.of_protocol_models.Tables.{Target, nowhere, Ask, list, object, entry, Tables}
use Rattle.packets_heard.specs.of_link_mails.Body.{Body}
use Rattle.packets_heard.specs.of_master_hand.Joins.{fragment_in}
use Rattle.packets_heard.specs.Packets.{parts}
use Rattle.served_rings.specs.of_slave_model.Server.{told_by}

abbrev pub written : CoeMail → Body
written m = told_by CoeOctets.coe_mail_written m

-- the parts of information are no fragments
informed_parts : (fuel opcode part : ℕ) (bytes : List ℕ) → parts fragment_in (map written (information_parts fuel opcode part bytes)) ≡ []
informed_parts zero opcode part bytes = refl
informed_parts (suc fuel) opcode part bytes = by (nat_le (length bytes) part) (informed_parts fuel opcode part (drop part bytes))
  where
    by : (last : Bool) → parts fragment_in (map written (information_parts fuel opcode part (drop part bytes))) ≡ [] → parts fragment_in (map written (
        if last then mail (Information opcode false 0 (record { items = bytes })) ∷ []
        else mail (Information opcode true (parts_of part (length bytes - part)) (record { items = take part bytes })) ∷ information_parts fuel opcode part (drop part bytes))) ≡ []
    by true rest = refl
    by false rest = rest

-- of downloads to such entries alone
module _ (Entry : Target → Type 0) where
  -- a download that isn't finished, and one that a mail begins, is to such an entry
  abbrev pub OfTransfer : Transfer → Type 0
  OfTransfer idle = ⊤
  OfTransfer (downloading t size got toggle) = Entry t
  OfTransfer (uploading t rest toggle) = ⊤

  abbrev pub OfMessage : Coe.Coe → Type 0
  OfMessage (Coe.Expedited index sub all bytes) = Entry (record { index = index; sub = sub; all = all })
  OfMessage (Coe.First index sub all size bytes) = Entry (record { index = index; sub = sub; all = all })
  OfMessage _ = ⊤

  abbrev pub OfMail : CoeMail → Type 0
  OfMail (mail c) = OfMessage c
  OfMail _ = ⊤

-- of a server that takes no others, and whose packets are to fit so
module _ {S : Type 0} (Sound : S → Type 0) (Fits : List ℕ → Type 0) (Entry : Target → Type 0) where
  -- its answers are no fragments, a packet that it emits fits, and what it leaves is sound
  pub record Gives (x : Outcome S) : Type 0 where
    pub none : parts fragment_in (map written x.answers) ≡ []
    pub fits : (octets : List ℕ) → x.emission ≡ Some (packet octets) → Fits octets
    pub sound : Sound x.app

  -- what such a download stores is sound, and what it emits fits
  abbrev pub Stores : Tables S → Bool → S → Type 0
  Stores o eoe app = (t : Target) (bytes : List ℕ) (changed : S) → Entry t → o.download app t bytes ≡ Ok changed → ((octets : List ℕ) → emission_of eoe t bytes ≡ Some (packet octets) → Fits octets) × Sound changed

  none_sent : (octets : List ℕ) → (let e : Option Emission = None in e ≡ Some (packet octets)) → Fits octets
  none_sent octets e = absurd (cc)

  choice : (b : Bool) (r s : Outcome S) → Gives r → Gives s → Gives (if b then r else s)
  choice true r s p q = p
  choice false r s p q = q

  module _ (o : Tables S) (eoe : Bool) (room : ℕ) (app : S) (sound : Sound app) (store : Stores o eoe app) where
    is_over : (transfer : Transfer) (c : Coe.Coe) → Gives (ended app transfer (mail c))
    is_over transfer c = record { none = refl; fits = λ octets e. none_sent octets e; sound = sound }

    onward : (transfer : Transfer) (c : Coe.Coe) → Gives (goes_on app transfer (mail c))
    onward transfer c = record { none = refl; fits = λ octets e. none_sent octets e; sound = sound }

    fails : (transfer : Transfer) (detail : ℕ) → Gives (ended app transfer (failed detail))
    fails transfer detail = record { none = refl; fits = λ octets e. none_sent octets e; sound = sound }

    none_at_all : (transfer : Transfer) → Gives (silent app transfer)
    none_at_all transfer = record { none = refl; fits = λ octets e. none_sent octets e; sound = sound }

    aborted : (transfer : Transfer) (t : Target) (code : ℕ) → Gives (ended app transfer (abort t code))
    aborted transfer t code = is_over transfer (Abort t.index t.sub code)

    stores : (t : Target) (bytes : List ℕ) (c : Coe.Coe) → Entry t → (r : Result S ℕ) → o.download app t bytes ≡ r → Gives (stored eoe app t bytes (mail c) r)
    stores t bytes c free (Ok changed) done = (let k = store t bytes changed free done in record { none = refl; fits = k.0; sound = k.1 })
    stores t bytes c free (Err code) done = aborted idle t code

    whole : (t : Target) (bytes : List ℕ) (c : Coe.Coe) → Entry t → Gives (takes_whole o eoe app t bytes (mail c))
    whole t bytes c free = stores t bytes c free (o.download app t bytes) refl

    begun : (t : Target) (size : ℕ) (part : List ℕ) (r : Option ℕ) → Gives (begins app t size part r)
    begun t size part None = onward (downloading t size part false) (DownloadAnswer t.index t.sub)
    begun t size part (Some code) = aborted idle t code

    first : (t : Target) (size : ℕ) (part : List ℕ) → Entry t → Gives (takes_first o eoe app t size part)
    first t size part free = choice (size == length part) (takes_whole o eoe app t part (download_answer t)) (begins app t size part (o.check app t size)) (whole t part (DownloadAnswer t.index t.sub) free) (begun t size part (o.check app t size))

    segment : (transfer : Transfer) (toggle last : Bool) (part : List ℕ) → OfTransfer Entry transfer → Gives (takes_segment o eoe app transfer toggle last part)
    segment idle toggle last part free = aborted idle nowhere 0x05040001
    segment (uploading t rest expected) toggle last part free = aborted idle t 0x05040001
    segment (downloading t size got expected) toggle last part free = by (not (same expected toggle)) (nat_lt size (length (got ++ part))) last (nat_lt (length (got ++ part)) size)
      where
        by : (wrong long final short : Bool) → Gives (
            if wrong then ended app idle (abort t 0x05030000)
            else if long then ended app idle (abort t 0x06070012)
            else if final then (if short then ended app idle (abort t 0x06070013) else takes_whole o eoe app t (got ++ part) (mail (SegmentAnswer toggle)))
            else goes_on app (downloading t size (got ++ part) (not expected)) (mail (SegmentAnswer toggle)))
        by true long final short = aborted idle t 0x05030000
        by false true final short = aborted idle t 0x06070012
        by false false true true = aborted idle t 0x06070013
        by false false true false = whole t (got ++ part) (SegmentAnswer toggle) free
        by false false false short = onward (downloading t size (got ++ part) (not expected)) (SegmentAnswer toggle)

    opens : (t : Target) (r : Result (List ℕ) ℕ) → Gives (opened room app t r)
    opens t (Err code) = aborted idle t code
    opens t (Ok bytes) = by (is_expedited bytes) (nat_le (length bytes) (room - 16))
      where
        by : (short fits : Bool) → Gives (
            if short then ended app idle (mail (ExpeditedAnswer t.index t.sub (record { items = bytes })))
            else if fits then ended app idle (mail (FirstAnswer t.index t.sub (length bytes) (record { items = bytes })))
            else ended app (uploading t (drop (room - 16) bytes) false) (mail (FirstAnswer t.index t.sub (length bytes) (record { items = take (room - 16) bytes }))))
        by true fits = is_over idle (ExpeditedAnswer t.index t.sub (record { items = bytes }))
        by false true = is_over idle (FirstAnswer t.index t.sub (length bytes) (record { items = bytes }))
        by false false = is_over (uploading t (drop (room - 16) bytes) false) (FirstAnswer t.index t.sub (length bytes) (record { items = take (room - 16) bytes }))

    upload_segment : (transfer : Transfer) (toggle : Bool) → Gives (takes_upload_segment room app transfer toggle)
    upload_segment idle toggle = aborted idle nowhere 0x05040001
    upload_segment (downloading t size got expected) toggle = aborted idle t 0x05040001
    upload_segment (uploading t rest expected) toggle = by (not (same expected toggle)) (nat_le (length rest) (room - 9))
      where
        by : (wrong last : Bool) → Gives (
            if wrong then goes_on app idle (abort t 0x05030000)
            else if last then goes_on app idle (mail (UploadSegmentAnswer toggle true (record { items = rest })))
            else goes_on app (uploading t (drop (room - 9) rest) (not expected)) (mail (UploadSegmentAnswer toggle false (record { items = take (room - 9) rest }))))
        by true last = onward idle (Abort t.index t.sub 0x05030000)
        by false true = onward idle (UploadSegmentAnswer toggle true (record { items = rest }))
        by false false = onward (uploading t (drop (room - 9) rest) (not expected)) (UploadSegmentAnswer toggle false (record { items = take (room - 9) rest }))

    informs : (transfer : Transfer) (a : Ask) (r : Result (List ℕ) ℕ) → Gives (informed room app transfer a r)
    informs transfer a (Err code) = is_over transfer (InformationError code)
    informs transfer a (Ok bytes) = record { none = informed_parts (suc (length bytes)) (answer_opcode a) (room - 12) bytes; fits = λ octets e. none_sent octets e; sound = sound }

    unknown : (transfer : Transfer) (information : Bool) (index sub : ℕ) → Gives (unknown_command app transfer information index sub)
    unknown transfer true index sub = is_over transfer (InformationError 0x05040001)
    unknown transfer false index sub = is_over idle (Abort index sub 0x05040001)

    unreads : (transfer : Transfer) (fault : Coe.CoeFault) (service index sub : ℕ) → Gives (takes_unread app transfer fault service index sub)
    unreads transfer Coe.Short service index sub = fails transfer 6
    unreads transfer Coe.Service service index sub = fails transfer 4
    unreads transfer Coe.Command service index sub =
        choice (service == 1 || service == 3) (ended app transfer (failed 4)) (unknown_command app transfer (service == 8) index sub) (fails transfer 4) (unknown transfer (service == 8) index sub)
    unreads transfer Coe.Size service index sub = choice (service == 1 || service == 3) (ended app transfer (failed 4)) (ended app transfer (failed 8)) (fails transfer 4) (fails transfer 8)

    takes : (transfer : Transfer) (c : Coe.Coe) → OfTransfer Entry transfer → OfMessage Entry c → Gives (coe_takes o eoe room app transfer c)
    takes transfer (Coe.Expedited index sub all bytes) free fair = whole (record { index = index; sub = sub; all = all }) bytes.items (DownloadAnswer index sub) fair
    takes transfer (Coe.First index sub all size bytes) free fair = first (record { index = index; sub = sub; all = all }) size bytes.items fair
    takes transfer (Coe.Segment toggle last bytes) free fair = segment transfer toggle last bytes.items free
    takes transfer (Coe.Upload index sub all) free fair = let t : Target = record { index = index; sub = sub; all = all } in opens t (o.upload app t)
    takes transfer (Coe.UploadSegment toggle) free fair = upload_segment transfer toggle
    takes transfer (Abort index sub code) free fair = none_at_all idle
    takes transfer (Coe.ListRequest kind) free fair = informs transfer (list kind) (o.info app (list kind))
    takes transfer (Coe.ObjectRequest index) free fair = informs transfer (object index) (o.info app (object index))
    takes transfer (Coe.EntryRequest index sub info) free fair = informs transfer (entry index sub info) (o.info app (entry index sub info))
    takes transfer (Information opcode incomplete left bytes) free fair = unknown transfer true 0 0
    takes transfer (InformationError code) free fair = unknown transfer true 0 0
    takes transfer (Coe.Emergency octets) free fair = fails transfer 4
    takes transfer (DownloadAnswer index sub) free fair = fails transfer 4
    takes transfer (ExpeditedAnswer index sub bytes) free fair = fails transfer 4
    takes transfer (FirstAnswer index sub size bytes) free fair = fails transfer 4
    takes transfer (SegmentAnswer toggle) free fair = fails transfer 4
    takes transfer (UploadSegmentAnswer toggle last bytes) free fair = fails transfer 4

    pub outcome : (transfer : Transfer) (m : CoeMail) → OfTransfer Entry transfer → OfMail Entry m → Gives (coe_outcome o eoe room app transfer m)
    outcome transfer (mail c) free fair = takes transfer c free fair
    outcome transfer (unread fault service index sub) free fair = unreads transfer fault service index sub
    outcome transfer (failed detail) free fair = none_at_all transfer
    outcome transfer (fragment body) free fair = none_at_all transfer
    outcome transfer (other body) free fair = none_at_all transfer

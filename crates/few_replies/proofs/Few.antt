-- What the servers of a slave give for a mail are few mails, and no download to 2F01:01 is unfinished behind it that wasn't before.
use Rattle.std.proofs.Common.{◌≡◌, ℕ, zero, suc, ◌+◌, ◌-◌, ◌*◌, ◌/◌, ◌%◌, ◌<◌, ◌≤◌, ◌==◌, ◌&&◌, ◌||◌, not, nat_le, nat_lt, inl, inr, Bool, true, false, List, [], ◌∷◌, ◌++◌, take, drop, length, Option, Some, None, Result, Ok, Err, refl, ap, arith, append-nil, length-drop, le-leb, if◌then◌else◌}
use Rattle.std.proofs.lemmas.Bool.{cases_lt, lt-leb}
use Rattle.std.proofs.lemmas.List.{length-map}
use Rattle.std.proofs.lemmas.Nat.{le-div}
use Rattle.std.proofs.Math.Nat.{div-mul-le_self}
use Rattle.slave_parts.specs.of_mailbox_mail.declared.mail.MailFault.TheVariants.{UnknownKind}
use Rattle.slave_parts.specs.of_mailbox_mail.declared.mail.Kind.{Kind}
use Rattle.slave_parts.specs.of_link_mails.Body.{Body}
use Rattle.slave_parts.specs.of_eoe.Cutting.{blocks_of}
use Rattle.slave_parts.specs.of_eoe.Joining.{taken}
use Rattle.slave_parts.specs.of_eoe.declared.joining.Joined.{Joined}
use Rattle.slave_parts.specs.of_eoe.declared.joining.Joined.TheVariants.{More, Whole, Dropped}
use Rattle.slave_parts.specs.of_exchange_model.Refusing.{gated}
use Rattle.slave_parts.specs.of_protocol_models.CoeMails as Coe
use Rattle.slave_parts.specs.of_protocol_models.CoeMails.{CoeMail, mail, unread, failed, fragment, other, Abort, DownloadAnswer, SegmentAnswer, ExpeditedAnswer, FirstAnswer, UploadSegmentAnswer, Information, InformationError}
use Rattle.slave_parts.specs.of_protocol_models.CoeModel.{value_length}
use Rattle.slave_parts.specs.of_protocol_models.CoeOctets as CoeOctets
use Rattle.slave_parts.specs.of_protocol_models.Tables.{Target, nowhere, Ask, list, object, entry, Tables}
use Rattle.slave_parts.specs.of_protocol_models.CoeServer as CoeServer
use Rattle.slave_parts.specs.of_protocol_models.CoeServer.{Transfer, idle, downloading, uploading, Outcome, ended, goes_on, silent, abort, download_answer, same, stored, takes_whole, begins, takes_first, takes_segment, is_expedited, opened, takes_upload_segment, information_parts, informed, takes_ask, unknown_command, takes_unread, coe_takes, coe_outcome, emergency, packet, emission_of, issued}
use Rattle.slave_parts.specs.of_protocol_models.Files as Files
use Rattle.slave_parts.specs.of_protocol_models.FoeMails as Foe
use Rattle.slave_parts.specs.of_protocol_models.FoeOctets as FoeOctets
use Rattle.slave_parts.specs.of_protocol_models.FoeServer as FoeServer
use Rattle.slave_parts.specs.of_protocol_models.Elements as Elements
use Rattle.slave_parts.specs.of_protocol_models.SoeMails as Soe
use Rattle.slave_parts.specs.of_protocol_models.SoeOctets as SoeOctets
use Rattle.slave_parts.specs.of_protocol_models.SoeServer as SoeServer
use Rattle.slave_parts.specs.of_protocol_models.EoeMails as Eoe
use Rattle.slave_parts.specs.of_protocol_models.EoeOctets as EoeOctets
use Rattle.slave_parts.specs.of_protocol_models.EoeServer as EoeServer
use Rattle.slave_parts.specs.of_protocol_models.Network.{Network, Station}
use Rattle.slave_parts.specs.of_slave_model.Application.{Parts, ArePartsLawful, core_valid, station_valid, station_tables, station_files, station_elements, network}
use Rattle.slave_parts.specs.of_slave_model.Product.{served, side, refusal, protocol_of, serve_by, serve_other, serve}
use Rattle.slave_parts.specs.of_slave_model.Profile.{Protocol, Profile, IsProfile, serves}
use Rattle.slave_parts.specs.of_slave_model.Server.{Server as SlaveServer, seat, reseated, failure, heard_by, told_by, refused_gives, soe_quiet, eoe_quiet}
use Rattle.slave_parts.proofs.of_slave_model.Stations.{left_of, right_of, network_spelled}
use Rattle.few_replies.proofs.OfEoe.{packet_within}
use Rattle.few_replies.proofs.OfSoe.{fragments_within}
use Rattle.few_replies.proofs.Thirds.{one_less}
use Rattle.few_replies.specs.Most.{Tells, AreEnough, is_packet_entry, brings_packet, begins_message, begins_mail, begins_packet, is_packet_free}

-- fewer octets have no more parts
less_parts : (w m n : ℕ) → 0 < w → m ≤ n → m / w ≤ n / w
less_parts w m n some less =
    let whole : m / w * w ≤ m = div-mul-le_self m w in
    le-div (m / w) n w some (omega arith)

-- the parts of an information answer
parts_within : (w fuel opcode part : ℕ) (bytes : List ℕ) → 0 < w → w ≤ part → length (information_parts fuel opcode part bytes) ≤ suc (length bytes / w)
parts_within w zero opcode part bytes some wide = omega arith
parts_within w (suc fuel) opcode part bytes some wide = elim (cases_lt part (length bytes)) [
  | inr ends ↦ rw (le-leb (length bytes) part ends) (omega arith)
  | inl more ↦
      let later = parts_within w fuel opcode part (drop part bytes) some wide in
      let less = one_less w part (length bytes) some wide (omega arith) in
      rw (lt-leb (length bytes) part more) (omega (arith, later, less, ap (λ n. n / w) (length-drop part bytes)))
]

-- CoE
module _ {S : Type 0} (o : Tables S) (eoe : Bool) (room most : ℕ) (two : 2 ≤ most) (Told : Type 0) where
  -- few mails, if what the tables tell is short, and no download of a packet behind them
  record IsFew (x : Outcome S) : Type 0 where
    gives : Told → length (x.answers ++ (issued o x.app x.emission).1) ≤ most
    free : brings_packet x.transfer ≡ false

  choice : (b : Bool) (r s : Outcome S) → IsFew r → IsFew s → IsFew (if b then r else s)
  choice true r s p q = p
  choice false r s p q = q

  -- one answer
  one_ended : (app : S) (transfer : Transfer) (answer : CoeMail) → brings_packet transfer ≡ false → IsFew (ended app transfer answer)
  one_ended app transfer answer e = record { gives = λ is. omega arith; free = e }

  one_more : (app : S) (transfer : Transfer) (answer : CoeMail) → brings_packet transfer ≡ false → IsFew (goes_on app transfer answer)
  one_more app transfer answer e = record { gives = λ is. omega arith; free = e }

  none_at_all : (app : S) (transfer : Transfer) → brings_packet transfer ≡ false → IsFew (silent app transfer)
  none_at_all app transfer e = record { gives = λ is. omega arith; free = e }

  -- a download emits an emergency at most
  emits_one : (app : S) (t : Target) (bytes : List ℕ) → is_packet_entry t ≡ false → length (issued o app (emission_of eoe t bytes)).1 ≤ 1
  emits_one app t bytes e = by t.all (t.sub == 1) (t.index == 0x2F00) eoe (t.index == 0x2F01) e
    where
      by : (all sub alarm on net : Bool) → (not all && (sub && net)) ≡ false →
          length (issued o app (if all || not sub then None else if alarm then Some (emergency bytes) else if on && net then Some (packet bytes) else None)).1 ≤ 1
      by true sub alarm on net e = omega arith
      by false false alarm on net e = omega arith
      by false true true on net e = omega arith
      by false true false false net e = omega arith
      by false true false true false e = omega arith
      by false true false true true e = absurd (cc)

  stores : (app : S) (t : Target) (bytes : List ℕ) (answer : CoeMail) → is_packet_entry t ≡ false → (r : Result S ℕ) → IsFew (stored eoe app t bytes answer r)
  stores app t bytes answer e (Ok changed) = record { gives = λ is. omega (arith, emits_one changed t bytes e); free = refl }
  stores app t bytes answer e (Err code) = one_ended app idle (abort t code) refl

  module _ (app : S) where
    whole : (t : Target) (bytes : List ℕ) (answer : CoeMail) → is_packet_entry t ≡ false → IsFew (takes_whole o eoe app t bytes answer)
    whole t bytes answer e = stores app t bytes answer e (o.download app t bytes)

    begun : (t : Target) (size : ℕ) (part : List ℕ) → is_packet_entry t ≡ false → (r : Option ℕ) → IsFew (begins app t size part r)
    begun t size part e None = one_more app (downloading t size part false) (download_answer t) e
    begun t size part e (Some code) = one_ended app idle (abort t code) refl

    first : (t : Target) (size : ℕ) (part : List ℕ) → is_packet_entry t ≡ false → IsFew (takes_first o eoe app t size part)
    first t size part e = choice (size == length part) (takes_whole o eoe app t part (download_answer t)) (begins app t size part (o.check app t size)) (whole t part (download_answer t) e) (begun t size part e (o.check app t size))

    segment : (transfer : Transfer) (toggle last : Bool) (part : List ℕ) → brings_packet transfer ≡ false → IsFew (takes_segment o eoe app transfer toggle last part)
    segment idle toggle last part e = one_ended app idle (abort nowhere 0x05040001) refl
    segment (uploading t rest expected) toggle last part e = one_ended app idle (abort t 0x05040001) refl
    segment (downloading t size got expected) toggle last part e = by (not (same expected toggle)) (nat_lt size (length (got ++ part))) last (nat_lt (length (got ++ part)) size)
      where
        by : (wrong long final short : Bool) → IsFew (
            if wrong then ended app idle (abort t 0x05030000)
            else if long then ended app idle (abort t 0x06070012)
            else if final then (if short then ended app idle (abort t 0x06070013) else takes_whole o eoe app t (got ++ part) (mail (SegmentAnswer toggle)))
            else goes_on app (downloading t size (got ++ part) (not expected)) (mail (SegmentAnswer toggle)))
        by true long final short = one_ended app idle (abort t 0x05030000) refl
        by false true final short = one_ended app idle (abort t 0x06070012) refl
        by false false true true = one_ended app idle (abort t 0x06070013) refl
        by false false true false = whole t (got ++ part) (mail (SegmentAnswer toggle)) e
        by false false false short = one_more app (downloading t size (got ++ part) (not expected)) (mail (SegmentAnswer toggle)) e

    opens : (t : Target) (r : Result (List ℕ) ℕ) → IsFew (opened room app t r)
    opens t (Err code) = one_ended app idle (abort t code) refl
    opens t (Ok bytes) = by (is_expedited bytes) (nat_le (length bytes) (room - 16))
      where
        by : (short fits : Bool) → IsFew (
            if short then ended app idle (mail (ExpeditedAnswer t.index t.sub (record { items = bytes })))
            else if fits then ended app idle (mail (FirstAnswer t.index t.sub (length bytes) (record { items = bytes })))
            else ended app (uploading t (drop (room - 16) bytes) false) (mail (FirstAnswer t.index t.sub (length bytes) (record { items = take (room - 16) bytes }))))
        by true fits = one_ended app idle (mail (ExpeditedAnswer t.index t.sub (record { items = bytes }))) refl
        by false true = one_ended app idle (mail (FirstAnswer t.index t.sub (length bytes) (record { items = bytes }))) refl
        by false false = one_ended app (uploading t (drop (room - 16) bytes) false) (mail (FirstAnswer t.index t.sub (length bytes) (record { items = take (room - 16) bytes }))) refl

    upload_segment : (transfer : Transfer) (toggle : Bool) → IsFew (takes_upload_segment room app transfer toggle)
    upload_segment idle toggle = one_ended app idle (abort nowhere 0x05040001) refl
    upload_segment (downloading t size got expected) toggle = one_ended app idle (abort t 0x05040001) refl
    upload_segment (uploading t rest expected) toggle = by (not (same expected toggle)) (nat_le (length rest) (room - 9))
      where
        by : (wrong last : Bool) → IsFew (
            if wrong then goes_on app idle (abort t 0x05030000)
            else if last then goes_on app idle (mail (UploadSegmentAnswer toggle true (record { items = rest })))
            else goes_on app (uploading t (drop (room - 9) rest) (not expected)) (mail (UploadSegmentAnswer toggle false (record { items = take (room - 9) rest }))))
        by true last = one_more app idle (abort t 0x05030000) refl
        by false true = one_more app idle (mail (UploadSegmentAnswer toggle true (record { items = rest }))) refl
        by false false = one_more app (uploading t (drop (room - 9) rest) (not expected)) (mail (UploadSegmentAnswer toggle false (record { items = take (room - 9) rest }))) refl

    unknown : (transfer : Transfer) (information : Bool) (index sub : ℕ) → brings_packet transfer ≡ false → IsFew (unknown_command app transfer information index sub)
    unknown transfer true index sub e = one_ended app transfer (mail (InformationError 0x05040001)) e
    unknown transfer false index sub e = one_ended app idle (mail (Abort index sub 0x05040001)) refl

    unreads : (transfer : Transfer) (fault : Coe.CoeFault) (service index sub : ℕ) → brings_packet transfer ≡ false → IsFew (takes_unread app transfer fault service index sub)
    unreads transfer Coe.Short service index sub e = one_ended app transfer (failed 6) e
    unreads transfer Coe.Service service index sub e = one_ended app transfer (failed 4) e
    unreads transfer Coe.Command service index sub e =
        choice (service == 1 || service == 3) (ended app transfer (failed 4)) (unknown_command app transfer (service == 8) index sub) (one_ended app transfer (failed 4) e) (unknown transfer (service == 8) index sub e)
    unreads transfer Coe.Size service index sub e =
        choice (service == 1 || service == 3) (ended app transfer (failed 4)) (ended app transfer (failed 8)) (one_ended app transfer (failed 4) e) (one_ended app transfer (failed 8) e)

    -- what the tables tell has this many octets at most
    module _ (told : ℕ) (some : Told → 0 < room - 12) (enough : Told → suc (told / (room - 12)) ≤ most) (tells : Told → (a : Ask) → value_length (o.info app a) ≤ told) where
      informs : (transfer : Transfer) (a : Ask) → brings_packet transfer ≡ false → (r : Result (List ℕ) ℕ) → (Told → value_length r ≤ told) → IsFew (informed room app transfer a r)
      informs transfer a e (Err code) short = one_ended app transfer (mail (InformationError code)) e
      informs transfer a e (Ok bytes) short = record {
        gives = λ is. (
            let all = parts_within (room - 12) (suc (length bytes)) (CoeServer.answer_opcode a) (room - 12) bytes (some is) (omega arith) in
            let less = less_parts (room - 12) (length bytes) told (some is) (short is) in
            omega (arith, ap length (append-nil (information_parts (suc (length bytes)) (CoeServer.answer_opcode a) (room - 12) bytes)), all, less, enough is));
        free = e;
      }

      asks : (transfer : Transfer) (a : Ask) → brings_packet transfer ≡ false → IsFew (takes_ask o room app transfer a)
      asks transfer a e = informs transfer a e (o.info app a) (λ is. tells is a)

      takes : (transfer : Transfer) (c : Coe.Coe) → brings_packet transfer ≡ false → begins_message c ≡ false → IsFew (coe_takes o eoe room app transfer c)
      takes transfer (Coe.Expedited index sub all bytes) e f = let t : Target = record { index = index; sub = sub; all = all } in whole t bytes.items (download_answer t) f
      takes transfer (Coe.First index sub all size bytes) e f = first (record { index = index; sub = sub; all = all }) size bytes.items f
      takes transfer (Coe.Segment toggle last bytes) e f = segment transfer toggle last bytes.items e
      takes transfer (Coe.Upload index sub all) e f = let t : Target = record { index = index; sub = sub; all = all } in opens t (o.upload app t)
      takes transfer (Coe.UploadSegment toggle) e f = upload_segment transfer toggle
      takes transfer (Abort index sub code) e f = none_at_all app idle refl
      takes transfer (Coe.ListRequest kind) e f = asks transfer (list kind) e
      takes transfer (Coe.ObjectRequest index) e f = asks transfer (object index) e
      takes transfer (Coe.EntryRequest index sub info) e f = asks transfer (entry index sub info) e
      takes transfer (Information opcode incomplete left bytes) e f = unknown transfer true 0 0 e
      takes transfer (InformationError code) e f = unknown transfer true 0 0 e
      takes transfer (Coe.Emergency octets) e f = one_ended app transfer (failed 4) e
      takes transfer (DownloadAnswer index sub) e f = one_ended app transfer (failed 4) e
      takes transfer (ExpeditedAnswer index sub bytes) e f = one_ended app transfer (failed 4) e
      takes transfer (FirstAnswer index sub size bytes) e f = one_ended app transfer (failed 4) e
      takes transfer (SegmentAnswer toggle) e f = one_ended app transfer (failed 4) e
      takes transfer (UploadSegmentAnswer toggle last bytes) e f = one_ended app transfer (failed 4) e

      outcome : (transfer : Transfer) (m : CoeMail) → brings_packet transfer ≡ false → begins_mail m ≡ false → IsFew (coe_outcome o eoe room app transfer m)
      outcome transfer (mail c) e f = takes transfer c e f
      outcome transfer (unread fault service index sub) e f = unreads transfer fault service index sub e
      outcome transfer (failed detail) e f = none_at_all app transfer e
      outcome transfer (fragment body) e f = none_at_all app transfer e
      outcome transfer (other body) e f = none_at_all app transfer e

-- FoE: one answer at most
module _ {S : Type 0} (o : Files.Files S) (out back : ℕ) (app : S) where
  abbrev FoeOne : FoeServer.Outcome S → Type 0
  FoeOne x = length x.answers ≤ 1

  foe_choice : (b : Bool) (r s : FoeServer.Outcome S) → FoeOne r → FoeOne s → FoeOne (if b then r else s)
  foe_choice true r s p q = p
  foe_choice false r s p q = q

  foe_opens : (bytes : List ℕ) (r : Option ℕ) → FoeOne (FoeServer.opened back app bytes r)
  foe_opens bytes None = omega arith
  foe_opens bytes (Some code) = omega arith

  foe_begins : (name : List ℕ) (r : Option ℕ) → FoeOne (FoeServer.begun app name r)
  foe_begins name None = omega arith
  foe_begins name (Some code) = omega arith

  foe_closes : (name : List ℕ) (number : ℕ) (got : List ℕ) (told : ℕ) → FoeOne (FoeServer.closes o app name number got told)
  foe_closes name number got told = by (nat_lt told (o.busy app name))
    where
      by : (b : Bool) → FoeOne (if b then FoeServer.goes_on app (FoeServer.closing name number got (told + 1)) (Foe.mail (Foe.Busy told (o.busy app name))) else FoeServer.ended (o.put app name got) FoeServer.idle (FoeServer.ack number))
      by true = omega arith
      by false = omega arith

  foe_stores : (name : List ℕ) (number : ℕ) (got part : List ℕ) → FoeOne (FoeServer.stores o out app name number got part)
  foe_stores name number got part = by (not (o.has_room app (length (got ++ part)))) (FoeServer.is_last out part)
    where
      by : (full last : Bool) → FoeOne (
          if full then FoeServer.ended app FoeServer.idle (FoeServer.refusal 0x8003)
          else if last then FoeServer.closes o app name number (got ++ part) 0
          else FoeServer.goes_on app (FoeServer.writing name number (got ++ part)) (FoeServer.ack number))
      by true last = omega arith
      by false true = foe_closes name number (got ++ part) 0
      by false false = omega arith

  foe_data : (transfer : FoeServer.Transfer) (number : ℕ) (part : List ℕ) → FoeOne (FoeServer.takes_data o out app transfer number part)
  foe_data FoeServer.idle sent part = omega arith
  foe_data (FoeServer.reading number left) sent part = omega arith
  foe_data (FoeServer.writing name number got) sent part =
      foe_choice (sent == number + 1) (FoeServer.stores o out app name sent got part) (FoeServer.ended app FoeServer.idle (FoeServer.refusal 0x8005)) (foe_stores name sent got part) (omega arith)
  foe_data (FoeServer.closing name number got told) sent part =
      foe_choice (sent == number) (FoeServer.closes o app name number got told) (FoeServer.ended app FoeServer.idle (FoeServer.refusal 0x8005)) (foe_closes name number got told) (omega arith)

  foe_acks : (transfer : FoeServer.Transfer) (sent : ℕ) → FoeOne (FoeServer.takes_ack back app transfer sent)
  foe_acks FoeServer.idle sent = omega arith
  foe_acks (FoeServer.reading number left) sent = by (sent == number) (nat_lt (length left) (FoeServer.packet_room back))
    where
      by : (right ends : Bool) → FoeOne (
          if right then (if ends then FoeServer.silent app FoeServer.idle
          else FoeServer.goes_on app (FoeServer.reading (number + 1) (drop (FoeServer.packet_room back) left)) (FoeServer.packet_of back (number + 1) (drop (FoeServer.packet_room back) left)))
          else FoeServer.goes_on app FoeServer.idle (FoeServer.refusal 0x8005))
      by true true = omega arith
      by true false = omega arith
      by false ends = omega arith
  foe_acks (FoeServer.writing name number got) sent = omega arith
  foe_acks (FoeServer.closing name number got told) sent = omega arith

  foe_takes : (transfer : FoeServer.Transfer) (f : Foe.Foe) → FoeOne (FoeServer.foe_takes o out back app transfer f)
  foe_takes transfer (Foe.Read pass name) = foe_opens (o.get app name.items) (o.allowed app name.items pass false)
  foe_takes transfer (Foe.Write pass name) = foe_begins name.items (o.allowed app name.items pass true)
  foe_takes transfer (Foe.Data sent bytes) = foe_data transfer sent bytes.items
  foe_takes transfer (Foe.Ack sent) = foe_acks transfer sent
  foe_takes transfer (Foe.Error code) = omega arith
  foe_takes transfer (Foe.Busy done entire) = omega arith

  foe_unread : (transfer : FoeServer.Transfer) (fault : Foe.FoeFault) → FoeOne (FoeServer.takes_unread app transfer fault)
  foe_unread transfer Foe.Short = omega arith
  foe_unread transfer Foe.Opcode = omega arith
  foe_unread transfer Foe.Name = omega arith

  foe_outcome : (transfer : FoeServer.Transfer) (m : Foe.FoeMail) → FoeOne (FoeServer.foe_outcome o out back app transfer m)
  foe_outcome transfer (Foe.mail f) = foe_takes transfer f
  foe_outcome transfer (Foe.unread fault) = foe_unread transfer fault
  foe_outcome transfer (Foe.failed detail) = omega arith
  foe_outcome transfer (Foe.other body) = omega arith

-- SoE: the fragments of an element at most
module _ {S : Type 0} (o : Elements.Elements S) (room most : ℕ) (two : 2 ≤ most) (app : S) (element : ℕ) (some : 0 < room - 10) (enough : suc (element / (room - 10)) ≤ most) (tells : (t : Elements.Target) → value_length (o.read app t) ≤ element) where
  abbrev SoeFew : SoeServer.Outcome S → Type 0
  SoeFew x = length x.answers ≤ most

  soe_choice : (b : Bool) (r s : SoeServer.Outcome S) → SoeFew r → SoeFew s → SoeFew (if b then r else s)
  soe_choice true r s p q = p
  soe_choice false r s p q = q

  soe_asked : (t : Elements.Target) (r : Result (List ℕ) ℕ) → value_length r ≤ element → SoeFew (SoeServer.asked room app t r)
  soe_asked t (Ok bytes) short =
      let all = fragments_within (room - 10) (suc (length bytes)) 2 t (room - 10) bytes some (omega arith) in
      let less = less_parts (room - 10) (length bytes) element some short in
      omega (arith, all, less, enough)
  soe_asked t (Err code) short = omega arith

  soe_written : (t : Elements.Target) (r : Result S ℕ) → SoeFew (SoeServer.written app t r)
  soe_written t (Ok changed) = omega arith
  soe_written t (Err code) = omega arith

  soe_whole : (join : Option SoeServer.Join) (s : Soe.Soe) → SoeFew (SoeServer.takes_whole o room app join s)
  soe_whole join s =
      let t = SoeServer.target_of s in
      soe_choice (s.opcode == 1) (SoeServer.asked room app t (o.read app t)) (if s.opcode == 3 then SoeServer.written app t (o.write app t (SoeServer.gathered join s)) else SoeServer.answered app None (Soe.failed 4 ∷ []))
      (soe_asked t (o.read app t) (tells t))
      (soe_choice (s.opcode == 3) (SoeServer.written app t (o.write app t (SoeServer.gathered join s))) (SoeServer.answered app None (Soe.failed 4 ∷ [])) (soe_written t (o.write app t (SoeServer.gathered join s))) (omega arith))

  soe_unread : (join : Option SoeServer.Join) (fault : Soe.SoeFault) (incomplete : Bool) → SoeFew (SoeServer.takes_unread app join fault incomplete)
  soe_unread join Soe.Short incomplete = omega arith
  soe_unread join Soe.Opcode true = omega arith
  soe_unread join Soe.Opcode false = omega arith
  soe_unread join Soe.Incomplete incomplete = omega arith

  soe_outcome : (join : Option SoeServer.Join) (m : Soe.SoeMail) → SoeFew (SoeServer.soe_outcome o room app join m)
  soe_outcome join (Soe.mail s) = soe_choice s.incomplete (SoeServer.silent app (Some (SoeServer.joined join s))) (SoeServer.takes_whole o room app join s) (omega arith) (soe_whole join s)
  soe_outcome join (Soe.unread fault incomplete) = soe_unread join fault incomplete
  soe_outcome join (Soe.failed detail) = omega arith
  soe_outcome join (Soe.other body) = omega arith

-- EoE: the fragments of a packet that goes back at most
module _ {S : Type 0} (o : Network S) (room most : ℕ) (wide : 64 ≤ room) (two : 2 ≤ most) (enough : blocks_of 1514 ≤ most) (station : Station S) (short : (octets sent : List ℕ) → (o.packet station.app octets).1 ≡ Some sent → length sent ≤ 1514) where
  abbrev EoeFew : EoeServer.Outcome S → Type 0
  EoeFew x = length x.gives ≤ most

  eoe_sends : (frame : ℕ) (r : S × Option (List ℕ)) → ((sent : List ℕ) → r.1 ≡ Some sent → length sent ≤ 1514) → length (EoeServer.sends room frame r).1 ≤ most
  eoe_sends frame (app, None) fits = omega arith
  eoe_sends frame (app, Some octets) fits =
      let all = packet_within room frame octets wide in
      let few = fits octets refl in
      omega (arith, all, few, enough)

  eoe_joined : (last : Bool) (unfinished : Option _) (j : Joined) → EoeFew (EoeServer.joined o room station last unfinished j)
  eoe_joined last unfinished More = omega arith
  eoe_joined last unfinished (Whole p) = eoe_sends station.frame (o.packet station.app p.items) (λ sent e. short p.items sent e)
  eoe_joined last unfinished Dropped = omega arith

  eoe_set : (unfinished : Option _) (r : Option S) → EoeFew (EoeServer.set_answer station unfinished r)
  eoe_set unfinished (Some app) = omega arith
  eoe_set unfinished None = omega arith

  eoe_unread : (unfinished : Option _) (fault : Eoe.EoeFault) (kind : ℕ) → EoeFew (EoeServer.takes_unread station unfinished fault kind)
  eoe_unread unfinished Eoe.Short kind = omega arith
  eoe_unread unfinished Eoe.WrongType kind = by (kind % 2 == 0)
    where
      by : (b : Bool) → length (if b then Eoe.unsupported (kind + 1) ∷ [] else []) ≤ most
      by true = omega arith
      by false = omega arith
  eoe_unread unfinished Eoe.Offset kind = omega arith

  eoe_takes : (unfinished : Option _) (e : Eoe.Eoe) → EoeFew (EoeServer.eoe_takes o room station unfinished e)
  eoe_takes unfinished (Eoe.Part f) = eoe_joined f.last (taken unfinished f).unfinished (taken unfinished f).joined
  eoe_takes unfinished (Eoe.SetIp block) = eoe_set unfinished (EoeServer.addressed o room station.app block.items)
  eoe_takes unfinished Eoe.GetIp = omega arith
  eoe_takes unfinished (Eoe.SetIpAnswer result_code) = omega arith
  eoe_takes unfinished (Eoe.GetIpAnswer result_code block) = omega arith

  eoe_outcome : (unfinished : Option _) (m : Eoe.EoeMail) → EoeFew (EoeServer.eoe_outcome o room station unfinished m)
  eoe_outcome unfinished (Eoe.mail e) = eoe_takes unfinished e
  eoe_outcome unfinished (Eoe.unread fault kind) = eoe_unread unfinished fault kind
  eoe_outcome unfinished (Eoe.unsupported kind) = omega arith
  eoe_outcome unfinished (Eoe.failed detail) = omega arith
  eoe_outcome unfinished (Eoe.other body) = omega arith

-- a refusal is one mail at most
refuses_one : (i : Protocol) (b : Body) → length (refused_gives i b) ≤ 1
refuses_one Protocol.CoE b = omega arith
refuses_one Protocol.FoE b = omega arith
refuses_one Protocol.SoE b = quiet_or (soe_quiet (heard_by SoeOctets.soe_mail_heard (Soe.other []) b))
  where
    quiet_or : (q : Bool) → length (if q then [] else failure 2 ∷ []) ≤ 1
    quiet_or true = omega arith
    quiet_or false = omega arith
refuses_one Protocol.EoE b = quiet_or (eoe_quiet (heard_by EoeOctets.eoe_mail_heard (Eoe.other []) b))
  where
    quiet_or : (q : Bool) → length (if q then [] else failure 2 ∷ []) ≤ 1
    quiet_or true = omega arith
    quiet_or false = omega arith

-- no download to the entry is unfinished where none was before
pub not_true : (b : Bool) → not b ≡ true → b ≡ false
not_true true e = absurd (cc)
not_true false e = refl

-- THE SLAVE
module _ {T F I : Type 0} (o : Parts T F I) (p : Profile) where
  module _ (information element most : ℕ) (law : ArePartsLawful o) (profile : IsProfile p) (tells : Tells o information element) (enough : AreEnough p information element most) (al : ℕ) where
    serves_few : (i : Protocol) (j : SlaveServer T F I) (b : Body) → station_valid o j.app ≡ true → brings_packet j.sdo ≡ false → begins_packet b ≡ false → length ((served o p al i).serve (seat i j) b).1 ≤ most
    serves_few Protocol.CoE j b valid free anew =
        let m = heard_by CoeOctets.coe_mail_heard (other []) b in
        let tables = station_tables o p.back al in
        let x = coe_outcome tables p.has_eoe p.back j.app j.sdo m in
        let objects = left_of _ _ (left_of _ _ valid) in
        let few = outcome tables p.has_eoe p.back most enough.two (Unit {0}) j.app information (λ is. omega (arith, profile.back_least)) (λ is. enough.parts) (λ is a. tells.objects al j.app.app.objects a objects) j.sdo m free anew in
        omega (arith, length-map (x.answers ++ (issued tables x.app x.emission).1) (told_by CoeOctets.coe_mail_written), few.gives tt)
    serves_few Protocol.FoE j b valid free anew =
        let m = heard_by FoeOctets.foe_mail_heard (Foe.other []) b in
        let x = FoeServer.foe_outcome (station_files o al) p.out p.back j.app j.file m in
        omega (arith, enough.two, length-map x.answers (told_by FoeOctets.foe_mail_written), foe_outcome (station_files o al) p.out p.back j.app j.file m)
    serves_few Protocol.SoE j b valid free anew =
        let m = heard_by SoeOctets.soe_mail_heard (Soe.other []) b in
        let x = SoeServer.soe_outcome (station_elements o) p.back j.app j.join m in
        let core : core_valid o j.app.app ≡ true = left_of (core_valid o j.app.app) (nat_lt j.app.frame 16) valid in
        let rest : ((o.files 0).valid j.app.app.files && o.elements.valid j.app.app.idns) ≡ true = right_of ((o.tables 0).valid j.app.app.objects) ((o.files 0).valid j.app.app.files && o.elements.valid j.app.app.idns) core in
        let idns : o.elements.valid j.app.app.idns ≡ true = right_of ((o.files 0).valid j.app.app.files) (o.elements.valid j.app.app.idns) rest in
        let few = soe_outcome (station_elements o) p.back most enough.two j.app element (omega (arith, profile.back_least)) enough.fragments (λ t. tells.idns j.app.app.idns t idns) j.join m in
        omega (arith, length-map x.answers (told_by SoeOctets.soe_mail_written), few)
    serves_few Protocol.EoE j b valid free anew =
        let m = heard_by EoeOctets.eoe_mail_heard (Eoe.other []) b in
        let x = EoeServer.eoe_outcome (network o p) p.back j.app j.packet m in
        let core = left_of _ _ valid in
        let few = eoe_outcome (network o p) p.back most profile.back_least enough.two enough.blocks j.app (λ octets sent is. (network_spelled o law p profile).sent j.app.app octets sent core is) j.packet m in
        omega (arith, length-map x.gives (told_by EoeOctets.eoe_mail_written), few)

    sides_few : (i : Protocol) (j : SlaveServer T F I) (b : Body) → station_valid o j.app ≡ true → brings_packet j.sdo ≡ false → begins_packet b ≡ false → length ((side o p al i).serve (seat i j) b).1 ≤ most
    sides_few i j b valid free anew = go (serves p al i)
      where
        go : (on : Bool) → length ((gated on (served o p al i) (refusal o p al i)).serve (seat i j) b).1 ≤ most
        go true = serves_few i j b valid free anew
        go false = omega (arith, refuses_one i b, enough.two)

    others_few : (j : SlaveServer T F I) (kind : Kind) → length (serve_other o p al j kind).1 ≤ most
    others_few j Kind.Error = omega arith
    others_few j kind = omega (arith, enough.two)

    by_few : (j : SlaveServer T F I) (b : Body) (kind : Kind) (i : Option Protocol) → station_valid o j.app ≡ true → brings_packet j.sdo ≡ false → begins_packet b ≡ false → length (serve_by o p al j b kind i).1 ≤ most
    by_few j b kind (Some i) valid free anew = sides_few i j b valid free anew
    by_few j b kind None valid free anew = others_few j kind

    pub replies : (j : SlaveServer T F I) (b : Body) → station_valid o j.app ≡ true → is_packet_free j ≡ true → begins_packet b ≡ false → length (serve o p al j b).1 ≤ most
    replies j (Ok m) valid free anew = by_few j (Ok m) m.kind (protocol_of m.kind) valid (not_true _ free) anew
    replies j (Err UnknownKind) valid free anew = omega (arith, enough.two)
    replies j (Err fault) valid free anew = omega (arith, enough.two)

  -- the state behind it
  module _ (al : ℕ) where
    serves_free : (j : SlaveServer T F I) (b : Body) → brings_packet j.sdo ≡ false → begins_packet b ≡ false → brings_packet ((served o p al Protocol.CoE).serve (seat Protocol.CoE j) b).0.transfer ≡ false
    serves_free j b free anew = (outcome (station_tables o p.back al) p.has_eoe p.back 2 (omega arith) ⊥ j.app 0 (λ is. absurd is) (λ is. absurd is) (λ is. absurd is) j.sdo (heard_by CoeOctets.coe_mail_heard (other []) b) free anew).free

    sides_free : (i : Protocol) (j : SlaveServer T F I) (b : Body) → brings_packet j.sdo ≡ false → begins_packet b ≡ false → brings_packet (reseated i j ((side o p al i).serve (seat i j) b).0).sdo ≡ false
    sides_free Protocol.CoE j b free anew = go (serves p al Protocol.CoE)
      where
        go : (on : Bool) → brings_packet ((gated on (served o p al Protocol.CoE) (refusal o p al Protocol.CoE)).serve (seat Protocol.CoE j) b).0.transfer ≡ false
        go true = serves_free j b free anew
        go false = free
    sides_free Protocol.FoE j b free anew = free
    sides_free Protocol.SoE j b free anew = free
    sides_free Protocol.EoE j b free anew = free

    others_free : (j : SlaveServer T F I) (kind : Kind) → brings_packet j.sdo ≡ false → brings_packet (serve_other o p al j kind).0.sdo ≡ false
    others_free j Kind.Error free = free
    others_free j kind free = free

    by_free : (j : SlaveServer T F I) (b : Body) (kind : Kind) (i : Option Protocol) → brings_packet j.sdo ≡ false → begins_packet b ≡ false → brings_packet (serve_by o p al j b kind i).0.sdo ≡ false
    by_free j b kind (Some i) free anew = sides_free i j b free anew
    by_free j b kind None free anew = others_free j kind free

    pub frees : (j : SlaveServer T F I) (b : Body) → is_packet_free j ≡ true → begins_packet b ≡ false → is_packet_free (serve o p al j b).0 ≡ true
    frees j (Ok m) free anew = ap not (by_free j (Ok m) m.kind (protocol_of m.kind) (not_true _ free) anew)
    frees j (Err UnknownKind) free anew = free
    frees j (Err fault) free anew = free

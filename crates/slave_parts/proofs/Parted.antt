-- What a protocol's server does over its part of a station is what it does over the station.
use Rattle.std.proofs.Common.{◌≡◌, ℕ, ◌+◌, ◌-◌, ◌==◌, ◌||◌, not, nat_le, nat_lt, Bool, true, false, List, ◌++◌, length, Option, Some, None, Result, Ok, Err, refl}
use Rattle.std.specs.Prelude.{if◌then◌else◌}
use Rattle.eoe_server.specs.of_protocol_models.Network.{Station}
use Rattle.eoe_server.specs.of_protocol_models.Tables as CoeTables
use Rattle.eoe_server.specs.of_protocol_models.CoeMails as CoeMails
use Rattle.eoe_server.specs.of_protocol_models.CoeServer as Coe
use Rattle.eoe_server.specs.of_protocol_models.FoeMails as FoeMails
use Rattle.eoe_server.specs.of_protocol_models.FoeServer as Foe
use Rattle.eoe_server.specs.of_protocol_models.Elements as SoeElements
use Rattle.eoe_server.specs.of_protocol_models.SoeMails as SoeMails
use Rattle.eoe_server.specs.of_protocol_models.SoeServer as Soe
use Rattle.slave_model.specs.Application.{Core, Parts, station_tables, station_files, station_elements, stored, written}

-- of two ways, each seen through f
either : {X Y : Type 0} (f : X → Y) (b : Bool) {x y : X} {u v : Y} → u ≡ f x → v ≡ f y → (if b then u else v) ≡ f (if b then x else y)
either f true e k = e
either f false e k = k

module _ {T F I : Type 0} (o : Parts T F I) (s : Station (Core T F I)) where
  -- ---- SoE
  abbrev pub soe_seen : Soe.Outcome I → Soe.Outcome (Station (Core T F I))
  soe_seen x = record { app = record s { app = record s.app { idns = x.app } }; join = x.join; counts = x.counts; answers = x.answers }

  soe_asked : (room : ℕ) (t : SoeElements.Target) (r : Result (List ℕ) ℕ) → Soe.asked room s t r ≡ soe_seen (Soe.asked room s.app.idns t r)
  soe_asked room t (Ok bytes) = refl
  soe_asked room t (Err code) = refl

  soe_written : (t : SoeElements.Target) (r : Result I ℕ) → Soe.written s t (written s r) ≡ soe_seen (Soe.written s.app.idns t r)
  soe_written t (Ok changed) = refl
  soe_written t (Err code) = refl

  soe_takes : (room : ℕ) (join : Option Soe.Join) (m : SoeMails.Soe) → Soe.soe_takes (station_elements o) room s join m ≡ soe_seen (Soe.soe_takes o.elements room s.app.idns join m)
  soe_takes room join m =
      either soe_seen m.incomplete refl
      (either soe_seen (m.opcode == 1) (soe_asked room (Soe.target_of m) (o.elements.read s.app.idns (Soe.target_of m)))
      (either soe_seen (m.opcode == 3) (soe_written (Soe.target_of m) (o.elements.write s.app.idns (Soe.target_of m) (Soe.gathered join m))) refl))

  soe_unread : (join : Option Soe.Join) (fault : SoeMails.SoeFault) (incomplete : Bool) → Soe.takes_unread s join fault incomplete ≡ soe_seen (Soe.takes_unread s.app.idns join fault incomplete)
  soe_unread join SoeMails.Short incomplete = refl
  soe_unread join SoeMails.Opcode incomplete = either soe_seen incomplete refl refl
  soe_unread join SoeMails.Incomplete incomplete = refl

  pub soe_parted : (room : ℕ) (join : Option Soe.Join) (m : SoeMails.SoeMail) → Soe.soe_outcome (station_elements o) room s join m ≡ soe_seen (Soe.soe_outcome o.elements room s.app.idns join m)
  soe_parted room join (SoeMails.mail m) = soe_takes room join m
  soe_parted room join (SoeMails.unread fault incomplete) = soe_unread join fault incomplete
  soe_parted room join (SoeMails.failed detail) = refl
  soe_parted room join (SoeMails.other body) = refl

  -- ---- CoE
  abbrev pub coe_seen : Coe.Outcome T → Coe.Outcome (Station (Core T F I))
  coe_seen x = record { app = record s { app = record s.app { objects = x.app } }; transfer = x.transfer; counts = x.counts; answers = x.answers; emission = x.emission }

  module _ (room al : ℕ) (eoe : Bool) where
    coe_stored : (t : CoeTables.Target) (bytes : List ℕ) (answer : CoeMails.CoeMail) (r : Result T ℕ) → Coe.stored eoe s t bytes answer (stored s r) ≡ coe_seen (Coe.stored eoe s.app.objects t bytes answer r)
    coe_stored t bytes answer (Ok changed) = refl
    coe_stored t bytes answer (Err code) = refl

    coe_whole : (t : CoeTables.Target) (bytes : List ℕ) (answer : CoeMails.CoeMail) → Coe.takes_whole (station_tables o room al) eoe s t bytes answer ≡ coe_seen (Coe.takes_whole (o.tables al) eoe s.app.objects t bytes answer)
    coe_whole t bytes answer = coe_stored t bytes answer ((o.tables al).download s.app.objects t bytes)

    coe_begins : (t : CoeTables.Target) (size : ℕ) (part : List ℕ) (r : Option ℕ) → Coe.begins s t size part r ≡ coe_seen (Coe.begins s.app.objects t size part r)
    coe_begins t size part None = refl
    coe_begins t size part (Some code) = refl

    coe_first : (t : CoeTables.Target) (size : ℕ) (part : List ℕ) → Coe.takes_first (station_tables o room al) eoe s t size part ≡ coe_seen (Coe.takes_first (o.tables al) eoe s.app.objects t size part)
    coe_first t size part = either coe_seen (size == length part) (coe_whole t part (Coe.download_answer t)) (coe_begins t size part ((o.tables al).check s.app.objects t size))

    coe_segment : (transfer : Coe.Transfer) (toggle last : Bool) (part : List ℕ) → Coe.takes_segment (station_tables o room al) eoe s transfer toggle last part ≡ coe_seen (Coe.takes_segment (o.tables al) eoe s.app.objects transfer toggle last part)
    coe_segment Coe.idle toggle last part = refl
    coe_segment (Coe.uploading t rest expected) toggle last part = refl
    coe_segment (Coe.downloading t size got expected) toggle last part =
        either coe_seen (not (Coe.same expected toggle)) refl
        (either coe_seen (nat_lt size (length (got ++ part))) refl
        (either coe_seen last (either coe_seen (nat_lt (length (got ++ part)) size) refl (coe_whole t (got ++ part) (CoeMails.mail (CoeMails.SegmentAnswer toggle)))) refl))

    coe_opened : (t : CoeTables.Target) (r : Result (List ℕ) ℕ) → Coe.opened room s t r ≡ coe_seen (Coe.opened room s.app.objects t r)
    coe_opened t (Err code) = refl
    coe_opened t (Ok bytes) = either coe_seen (Coe.is_expedited bytes) refl (either coe_seen (nat_le (length bytes) (room - 16)) refl refl)

    coe_upload_segment : (transfer : Coe.Transfer) (toggle : Bool) → Coe.takes_upload_segment room s transfer toggle ≡ coe_seen (Coe.takes_upload_segment room s.app.objects transfer toggle)
    coe_upload_segment Coe.idle toggle = refl
    coe_upload_segment (Coe.downloading t size got expected) toggle = refl
    coe_upload_segment (Coe.uploading t rest expected) toggle = either coe_seen (not (Coe.same expected toggle)) refl (either coe_seen (nat_le (length rest) (room - 9)) refl refl)

    coe_informed : (transfer : Coe.Transfer) (a : CoeTables.Ask) (r : Result (List ℕ) ℕ) → Coe.informed room s transfer a r ≡ coe_seen (Coe.informed room s.app.objects transfer a r)
    coe_informed transfer a (Ok bytes) = refl
    coe_informed transfer a (Err code) = refl

    coe_unknown : (transfer : Coe.Transfer) (b : Bool) (index sub : ℕ) → Coe.unknown_command s transfer b index sub ≡ coe_seen (Coe.unknown_command s.app.objects transfer b index sub)
    coe_unknown transfer true index sub = refl
    coe_unknown transfer false index sub = refl

    coe_unread : (transfer : Coe.Transfer) (fault : CoeMails.CoeFault) (service index sub : ℕ) → Coe.takes_unread s transfer fault service index sub ≡ coe_seen (Coe.takes_unread s.app.objects transfer fault service index sub)
    coe_unread transfer CoeMails.Short service index sub = refl
    coe_unread transfer CoeMails.Service service index sub = refl
    coe_unread transfer CoeMails.Command service index sub = either coe_seen (service == 1 || service == 3) refl (coe_unknown transfer (service == 8) index sub)
    coe_unread transfer CoeMails.Size service index sub = either coe_seen (service == 1 || service == 3) refl refl

    coe_takes : (transfer : Coe.Transfer) (m : CoeMails.Coe) → Coe.coe_takes (station_tables o room al) eoe room s transfer m ≡ coe_seen (Coe.coe_takes (o.tables al) eoe room s.app.objects transfer m)
    coe_takes transfer (CoeMails.Expedited index sub all bytes) = coe_whole (record { index = index; sub = sub; all = all }) bytes.items (Coe.download_answer (record { index = index; sub = sub; all = all }))
    coe_takes transfer (CoeMails.First index sub all size bytes) = coe_first (record { index = index; sub = sub; all = all }) size bytes.items
    coe_takes transfer (CoeMails.Segment toggle last bytes) = coe_segment transfer toggle last bytes.items
    coe_takes transfer (CoeMails.Upload index sub all) = coe_opened (record { index = index; sub = sub; all = all }) ((o.tables al).upload s.app.objects (record { index = index; sub = sub; all = all }))
    coe_takes transfer (CoeMails.UploadSegment toggle) = coe_upload_segment transfer toggle
    coe_takes transfer (CoeMails.Abort index sub code) = refl
    coe_takes transfer (CoeMails.ListRequest kind) = coe_informed transfer (CoeTables.list kind) ((o.tables al).info s.app.objects (CoeTables.list kind))
    coe_takes transfer (CoeMails.ObjectRequest index) = coe_informed transfer (CoeTables.object index) ((o.tables al).info s.app.objects (CoeTables.object index))
    coe_takes transfer (CoeMails.EntryRequest index sub info) = coe_informed transfer (CoeTables.entry index sub info) ((o.tables al).info s.app.objects (CoeTables.entry index sub info))
    coe_takes transfer (CoeMails.Information opcode incomplete left bytes) = refl
    coe_takes transfer (CoeMails.InformationError code) = refl
    coe_takes transfer (CoeMails.Emergency octets) = refl
    coe_takes transfer (CoeMails.DownloadAnswer index sub) = refl
    coe_takes transfer (CoeMails.ExpeditedAnswer index sub bytes) = refl
    coe_takes transfer (CoeMails.FirstAnswer index sub size bytes) = refl
    coe_takes transfer (CoeMails.SegmentAnswer toggle) = refl
    coe_takes transfer (CoeMails.UploadSegmentAnswer toggle last bytes) = refl

    pub coe_parted : (transfer : Coe.Transfer) (m : CoeMails.CoeMail) → Coe.coe_outcome (station_tables o room al) eoe room s transfer m ≡ coe_seen (Coe.coe_outcome (o.tables al) eoe room s.app.objects transfer m)
    coe_parted transfer (CoeMails.mail m) = coe_takes transfer m
    coe_parted transfer (CoeMails.unread fault service index sub) = coe_unread transfer fault service index sub
    coe_parted transfer (CoeMails.failed detail) = refl
    coe_parted transfer (CoeMails.fragment body) = refl
    coe_parted transfer (CoeMails.other body) = refl

  -- ---- FoE
  abbrev pub foe_seen : Foe.Outcome F → Foe.Outcome (Station (Core T F I))
  foe_seen x = record { app = record s { app = record s.app { files = x.app } }; transfer = x.transfer; counts = x.counts; answers = x.answers }

  module _ (out back al : ℕ) where
    foe_opened : (bytes : List ℕ) (r : Option ℕ) → Foe.opened back s bytes r ≡ foe_seen (Foe.opened back s.app.files bytes r)
    foe_opened bytes None = refl
    foe_opened bytes (Some code) = refl

    foe_begun : (name : List ℕ) (r : Option ℕ) → Foe.begun s name r ≡ foe_seen (Foe.begun s.app.files name r)
    foe_begun name None = refl
    foe_begun name (Some code) = refl

    foe_closes : (name : List ℕ) (number : ℕ) (got : List ℕ) (told : ℕ) → Foe.closes (station_files o al) s name number got told ≡ foe_seen (Foe.closes (o.files al) s.app.files name number got told)
    foe_closes name number got told = either foe_seen (nat_lt told ((o.files al).busy s.app.files name)) refl refl

    foe_stores : (name : List ℕ) (number : ℕ) (got part : List ℕ) → Foe.stores (station_files o al) out s name number got part ≡ foe_seen (Foe.stores (o.files al) out s.app.files name number got part)
    foe_stores name number got part =
        either foe_seen (not ((o.files al).has_room s.app.files (length (got ++ part)))) refl
        (either foe_seen (Foe.is_last out part) (foe_closes name number (got ++ part) 0) refl)

    foe_data : (transfer : Foe.Transfer) (packet : ℕ) (part : List ℕ) → Foe.takes_data (station_files o al) out s transfer packet part ≡ foe_seen (Foe.takes_data (o.files al) out s.app.files transfer packet part)
    foe_data Foe.idle packet part = refl
    foe_data (Foe.reading number left) packet part = refl
    foe_data (Foe.writing name number got) packet part = either foe_seen (packet == number + 1) (foe_stores name packet got part) refl
    foe_data (Foe.closing name number got told) packet part = either foe_seen (packet == number) (foe_closes name number got told) refl

    foe_ack : (transfer : Foe.Transfer) (packet : ℕ) → Foe.takes_ack back s transfer packet ≡ foe_seen (Foe.takes_ack back s.app.files transfer packet)
    foe_ack Foe.idle packet = refl
    foe_ack (Foe.reading number left) packet = either foe_seen (packet == number) (either foe_seen (nat_lt (length left) (Foe.packet_room back)) refl refl) refl
    foe_ack (Foe.writing name number got) packet = refl
    foe_ack (Foe.closing name number got told) packet = refl

    foe_takes : (transfer : Foe.Transfer) (m : FoeMails.Foe) → Foe.foe_takes (station_files o al) out back s transfer m ≡ foe_seen (Foe.foe_takes (o.files al) out back s.app.files transfer m)
    foe_takes transfer (FoeMails.Read pass name) = foe_opened ((o.files al).get s.app.files name.items) ((o.files al).allowed s.app.files name.items pass false)
    foe_takes transfer (FoeMails.Write pass name) = foe_begun name.items ((o.files al).allowed s.app.files name.items pass true)
    foe_takes transfer (FoeMails.Data packet bytes) = foe_data transfer packet bytes.items
    foe_takes transfer (FoeMails.Ack packet) = foe_ack transfer packet
    foe_takes transfer (FoeMails.Error code) = refl
    foe_takes transfer (FoeMails.Busy done entire) = refl

    foe_unread : (transfer : Foe.Transfer) (fault : FoeMails.FoeFault) → Foe.takes_unread s transfer fault ≡ foe_seen (Foe.takes_unread s.app.files transfer fault)
    foe_unread transfer FoeMails.Short = refl
    foe_unread transfer FoeMails.Opcode = refl
    foe_unread transfer FoeMails.Name = refl

    pub foe_parted : (transfer : Foe.Transfer) (m : FoeMails.FoeMail) → Foe.foe_outcome (station_files o al) out back s transfer m ≡ foe_seen (Foe.foe_outcome (o.files al) out back s.app.files transfer m)
    foe_parted transfer (FoeMails.mail m) = foe_takes transfer m
    foe_parted transfer (FoeMails.unread fault) = foe_unread transfer fault
    foe_parted transfer (FoeMails.failed detail) = refl
    foe_parted transfer (FoeMails.other body) = refl

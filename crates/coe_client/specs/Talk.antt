-- What a client's state stands for: the mails that it has left to send, by what it will hear, and the reply that further mails complete.
use Rattle.std.specs.Prelude.{ℕ, zero, suc, ◌+◌, ◌-◌, ◌≤◌, ◌&&◌, nat_lt, nat_le, ◌==◌, Bool, true, false, List, [], ◌∷◌, length, take, drop, if◌then◌else◌, Option, None, Some}
use Rattle.object_dictionary.specs.declared.service.SdoService.{SdoService}
use Rattle.protocol_models.specs.of_exchange_model.Dialogue.{Turn, next}
use Rattle.protocol_models.specs.CoeMails.{Coe, CoeMail, mail, UploadSegmentAnswer, Upload, ListRequest, ObjectRequest, EntryRequest}
use Rattle.protocol_models.specs.Tables.{Target, nowhere, list, object, entry}
use Rattle.protocol_models.specs.CoeMeaning.{Service, download, upload, information, Reply}
use Rattle.protocol_models.specs.CoeServer.{parts_of}
use Rattle.protocol_models.specs.CoeClient.{segments, download_mails, requests, turn_of, at_end, segments_end, download_ends, parts_end, upload_ends, information_ends}
use Rattle.coe_client.specs.declared.state.Task.{Task}
use Rattle.coe_client.specs.declared.state.Unsent.{Unsent}
use Rattle.coe_client.specs.declared.state.Awaits.{Awaits}

-- a service as the model has it
abbrev pub service_view : SdoService → Service
service_view (SdoService.Download index sub bytes) = download (record { index = index; sub = sub; all = false }) bytes
service_view (SdoService.Upload index sub) = upload (record { index = index; sub = sub; all = false })
service_view (SdoService.DownloadAll index from bytes) = download (record { index = index; sub = from; all = true }) bytes
service_view (SdoService.UploadAll index from) = upload (record { index = index; sub = from; all = true })
service_view (SdoService.List kind) = information (list kind)
service_view (SdoService.ObjectInfo index) = information (object index)
service_view (SdoService.EntryInfo index sub info) = information (entry index sub info)

-- how many octets a service brings
abbrev pub octets_in : SdoService → ℕ
octets_in (SdoService.Download index sub bytes) = length bytes
octets_in (SdoService.DownloadAll index from bytes) = length bytes
octets_in _ = 0

-- a client's state: what is asked and its octets, what is not yet sent and how many mails of it may go, whether answers still let more go, and
-- what is awaited with the octets that came
pub record Talking : Type 0 where
  pub room : ℕ
  pub task : Task
  pub bytes : List ℕ
  pub unsent : Unsent
  pub quota : ℕ
  pub going : Bool
  pub awaits : Awaits
  pub value : List ℕ

-- the entry that is asked for
abbrev pub target_of : Task → Target
target_of (Task.Download index sub all) = record { index = index; sub = sub; all = all }
target_of (Task.Upload index sub all) = record { index = index; sub = sub; all = all }
target_of _ = nowhere

-- the request for a value, and requests for its segments: so many mails
abbrev pub upload_requests : Target → ℕ → List CoeMail
upload_requests t zero = []
upload_requests t (suc n) = mail (Upload t.index t.sub t.all) ∷ requests n false

-- the first mails of a service, at most so many
abbrev pub first_mails : ℕ → Task → List ℕ → ℕ → List CoeMail
first_mails room Task.Nothing bytes n = []
first_mails room (Task.Download index sub all) bytes n = take n (download_mails room (record { index = index; sub = sub; all = all }) bytes)
first_mails room (Task.Upload index sub all) bytes n = upload_requests (record { index = index; sub = sub; all = all }) n
first_mails room (Task.List kind) bytes n = take n (mail (ListRequest kind) ∷ [])
first_mails room (Task.Object index) bytes n = take n (mail (ObjectRequest index) ∷ [])
first_mails room (Task.Entry index sub info) bytes n = take n (mail (EntryRequest index sub info) ∷ [])

-- of the mails not yet sent the first, at most so many
abbrev pub sending : ℕ → Task → List ℕ → Unsent → ℕ → List CoeMail
sending room task bytes Unsent.Nothing n = []
sending room task bytes Unsent.First n = first_mails room task bytes n
sending room task bytes (Unsent.Segments from toggle) n = take n (segments (length bytes) (room - 9) toggle (drop from bytes))
sending room task bytes (Unsent.Requests toggle) n = requests n toggle

-- whether a client that decides so goes on
abbrev pub is_onward : Option Turn → Bool
is_onward (Some next) = true
is_onward _ = false

-- whether an answer lets the client send its next mail
abbrev pub lets_go : CoeMail → Bool
lets_go (mail c) = is_onward (turn_of c)
lets_go _ = false

-- how many mails more these answers let go
abbrev pub goes : List CoeMail → ℕ
goes [] = 0
goes (m ∷ ms) = if lets_go m then suc (goes ms) else 0

-- the same, unless no answer lets one go any more
abbrev pub goes_on : Bool → List CoeMail → ℕ
goes_on true ms = goes ms
goes_on false ms = 0

-- the mails that it has left to send in all, when it has heard these answers more
abbrev pub later : Talking → List CoeMail → List CoeMail
later c hs = sending c.room c.task c.bytes c.unsent (c.quota + goes_on c.going hs)

-- the reply that these mails complete behind those that it took
abbrev pub answers_from : ℕ → Target → List ℕ → List ℕ → Awaits → List CoeMail → Option Reply
answers_from room t bytes value Awaits.Nothing ms = None
answers_from room t bytes value Awaits.Acceptance ms = download_ends room t bytes ms
answers_from room t bytes value (Awaits.SegmentAnswers left toggle) ms = segments_end left toggle ms
answers_from room t bytes value Awaits.FirstAnswer ms = upload_ends t ms
answers_from room t bytes value (Awaits.Parts size toggle) ms = parts_end size value toggle ms
answers_from room t bytes value (Awaits.Information opcode) ms = information_ends opcode value ms
answers_from room t bytes value (Awaits.Over kind) ms = at_end ms (kind, value)

-- the reply that these mails complete behind those that the client took
abbrev pub awaited : Talking → List CoeMail → Option Reply
awaited c ms = answers_from c.room (target_of c.task) c.bytes c.value c.awaits ms

-- whether the reply of a service has come whole
abbrev pub is_replied : Awaits → Bool
is_replied (Awaits.Over kind) = true
is_replied _ = false

-- whether the octets that came fit what is awaited
abbrev pub is_sound : Awaits → List ℕ → Bool
is_sound Awaits.Nothing value = true
is_sound Awaits.Acceptance value = length value == 0
is_sound (Awaits.SegmentAnswers left toggle) value = nat_lt 0 left && length value == 0
is_sound Awaits.FirstAnswer value = length value == 0
is_sound (Awaits.Parts size toggle) value = nat_le (length value) size && nat_le size 16384
is_sound (Awaits.Information opcode) value = true
is_sound (Awaits.Over kind) value = true

-- whether octets are left where segments are
abbrev pub is_left : Unsent → List ℕ → Bool
is_left (Unsent.Segments from toggle) bytes = nat_lt from (length bytes)
is_left _ bytes = true

-- how many segments a download has behind its first mail
abbrev pub segments_behind : ℕ → List ℕ → ℕ
segments_behind room bytes = parts_of (room - 9) (length bytes - (room - 16))

-- how many mails of a download are not yet sent
abbrev pub unsent_mails : ℕ → List ℕ → Unsent → ℕ
unsent_mails room bytes Unsent.First = suc (segments_behind room bytes)
unsent_mails room bytes (Unsent.Segments from toggle) = parts_of (room - 9) (length bytes - from)
unsent_mails room bytes _ = 0

-- whether what is not yet sent are mails of a download
abbrev pub is_download : Task → Unsent → Bool
is_download task Unsent.Nothing = true
is_download (Task.Download index sub all) Unsent.First = true
is_download task (Unsent.Segments from toggle) = true
is_download task _ = false

-- A download's pace: of its mails no more are unsent than may go now and behind the answers that are awaited, the last one left out. So all were
-- sent where that one comes and no mail may go.
abbrev pub is_paced : ℕ → Task → List ℕ → Unsent → ℕ → Bool → Awaits → Bool
is_paced room task bytes unsent quota going Awaits.Acceptance = going && (is_download task unsent && nat_le (unsent_mails room bytes unsent) (quota + segments_behind room bytes))
is_paced room task bytes unsent quota going (Awaits.SegmentAnswers left toggle) = going && (is_download task unsent && nat_lt (unsent_mails room bytes unsent) (quota + left))
is_paced room task bytes unsent quota going _ = true

-- the same of a client with another number of mails that may go, and another answer awaited
abbrev pub paced_with : Talking → ℕ → Awaits → Bool
paced_with c quota awaits = is_paced c.room c.task c.bytes c.unsent quota c.going awaits

-- how many mails more what is awaited may let go, at most
abbrev pub ahead : Awaits → List ℕ → ℕ
ahead Awaits.Acceptance value = 16386
ahead (Awaits.SegmentAnswers left toggle) value = left
ahead Awaits.FirstAnswer value = 16386
ahead (Awaits.Parts size toggle) value = size - length value
ahead _ value = 0

-- a segment has octets
abbrev pub HasOctets : Coe → Type 0
HasOctets (UploadSegmentAnswer toggle last bytes) = 1 ≤ length bytes.items
HasOctets _ = Unit {0}

-- what a service awaits at first
abbrev pub IsFresh : Awaits → Type 0
IsFresh Awaits.Acceptance = Unit {0}
IsFresh Awaits.FirstAnswer = Unit {0}
IsFresh (Awaits.Information opcode) = Unit {0}
IsFresh _ = ⊥

-- a client that has begun a service
abbrev pub begun : ℕ → Task → List ℕ → Awaits → Talking
begun room task bytes awaits = record { room = room; task = task; bytes = bytes; unsent = Unsent.First; quota = 1; going = true; awaits = awaits; value = [] }

-- a client that has begun this service
abbrev pub begun_service : ℕ → SdoService → Talking
begun_service room (SdoService.Download index sub bytes) = begun room (Task.Download index sub false) bytes Awaits.Acceptance
begun_service room (SdoService.DownloadAll index from bytes) = begun room (Task.Download index from true) bytes Awaits.Acceptance
begun_service room (SdoService.Upload index sub) = begun room (Task.Upload index sub false) [] Awaits.FirstAnswer
begun_service room (SdoService.UploadAll index from) = begun room (Task.Upload index from true) [] Awaits.FirstAnswer
begun_service room (SdoService.List kind) = begun room (Task.List kind) [] (Awaits.Information 2)
begun_service room (SdoService.ObjectInfo index) = begun room (Task.Object index) [] (Awaits.Information 4)
begun_service room (SdoService.EntryInfo index sub info) = begun room (Task.Entry index sub info) [] (Awaits.Information 6)

-- What a service means at a slave's application: on whole values, without mails, mailboxes and frames.
use Rattle.std.specs.Prelude.{ℕ, ◌+◌, ◌==◌, Bool, true, false, if◌then◌else◌, List, [], length, Option, Some, None, option_map, Result, Ok, Err}
use Rattle.mailbox_mail.specs.declared.outcome.ReplyKind.{ReplyKind}
use Rattle.al_state.specs.Request as States
use Rattle.object_dictionary.specs.Dictionary as Objects
use Rattle.object_dictionary.specs.declared.service.SdoService.{SdoService}
use Rattle.object_dictionary.specs.declared.service.SdoService.TheVariants.{Download, Upload, DownloadAll, UploadAll, List as ObjectList, ObjectInfo, EntryInfo}
use Rattle.file_store.specs.Files.{Kept, allowed, has_room, put, get}
use Rattle.idn_table.specs.Idns as Idns
use Rattle.idn_table.specs.Idns.{read_at, write_at, target}
use Rattle.protocol_models.specs.CoeMeaning.{Service as Sdo, download, upload, information}
use Rattle.protocol_models.specs.CoeServer.{Emission, packet, emission_of}
use Rattle.protocol_models.specs.Tables as Tables
use Rattle.coe_server.specs.ObjectTables.{stores, reads, tells}
use Rattle.protocol_models.specs.Echo.{echo_of}
use Rattle.segment_plan.specs.declared.service.Service as Plan
use Rattle.segment_plan.specs.declared.service.Service.TheVariants as Asked
use Rattle.slave_model.specs.Profile.{Protocol, Profile, serves}
use Rattle.slave_model.specs.Server.{Reply}
use Rattle.promise.specs.Application.{App}

-- the application behind a service, the reply with its value, and what the slave sends of itself
pub record Meant : Type 0 where
  pub app : App
  pub reply : Reply
  pub emission : Option Emission

-- ---- what is served

-- the slave of an application, whose mailboxes have these lengths
abbrev pub profile_at : App → ℕ → ℕ → Profile
profile_at a out back = record { out = out; back = back; has_coe = a.«coe»; has_foe = a.foe; has_soe = a.soe; has_eoe = a.eoe; fixed_ip = a.fixed_ip; mac = a.mac }

-- whether a protocol is served in the AL state that stands; no length of a mailbox matters
abbrev pub is_served : App → Protocol → Bool
is_served a i = serves (profile_at a 0 0) a.al i

-- ---- replies

-- nothing changed, and there is no value
abbrev pub replied : App → ReplyKind → Meant
replied a kind = record { app = a; reply = (kind, []); emission = None }

-- nothing changed, and there is a value
abbrev pub valued : App → List ℕ → Meant
valued a value = record { app = a; reply = (ReplyKind.Value, value); emission = None }

-- ---- CoE

-- an entry by its subindex, or all entries from this subindex on
abbrev pub entry_at : ℕ → ℕ → Tables.Target
entry_at index sub = record { index = index; sub = sub; all = false }

-- all entries from this subindex on
abbrev pub all_from : ℕ → ℕ → Tables.Target
all_from index sub = record { index = index; sub = sub; all = true }

-- a service of CoE: a download, an upload or information
abbrev pub sdo_of : SdoService → Sdo
sdo_of (Download index sub bytes) = download (entry_at index sub) bytes
sdo_of (Upload index sub) = upload (entry_at index sub)
sdo_of (DownloadAll index from bytes) = download (all_from index from) bytes
sdo_of (UploadAll index from) = upload (all_from index from)
sdo_of (ObjectList kind) = information (Tables.list kind)
sdo_of (ObjectInfo index) = information (Tables.object index)
sdo_of (EntryInfo index sub info) = information (Tables.entry index sub info)

-- a download: stored, and what it emits, or refused by its abort code
abbrev pub downloaded : App → Tables.Target → List ℕ → Result Objects.Table ℕ → Meant
downloaded a t bytes (Ok objects) = record { app = record a { objects = objects }; reply = (ReplyKind.Done, []); emission = emission_of a.eoe t bytes }
downloaded a t bytes (Err code) = replied a (ReplyKind.Abort code)

-- a value or a description, or its abort code
abbrev pub told : App → Result (List ℕ) ℕ → Meant
told a (Ok bytes) = valued a bytes
told a (Err code) = replied a (ReplyKind.Abort code)

-- each service of CoE
abbrev pub sdo_meaning : App → Sdo → Meant
sdo_meaning a (download t bytes) = downloaded a t bytes (stores a.al a.objects t bytes)
sdo_meaning a (upload t) = told a (reads a.al a.objects t)
sdo_meaning a (information q) = told a (tells a.objects q)

-- ---- FoE

-- other files
abbrev pub with_files : App → Kept → App
with_files a kept = record a { files = kept }

-- a file that is read, or the code that refuses it
abbrev pub file_read : App → List ℕ → Option ℕ → Meant
file_read a name None = valued a (get a.files name)
file_read a name (Some code) = replied a (ReplyKind.FoeError code)

-- a file that is written in place of the old one, where the free blocks hold it, or the code that refuses it
abbrev pub file_written : App → List ℕ → List ℕ → Option ℕ → Meant
file_written a name bytes None =
    if has_room a.files (length bytes) then replied (with_files a (put a.files name bytes)) ReplyKind.Done
    else replied a (ReplyKind.FoeError 0x8003)
file_written a name bytes (Some code) = replied a (ReplyKind.FoeError code)

-- ---- SoE

-- an element that is read, or its code
abbrev pub element_read : App → Result (List ℕ) ℕ → Meant
element_read a (Ok bytes) = valued a bytes
element_read a (Err code) = replied a (ReplyKind.SoeError code)

-- an element that is written, or its code
abbrev pub element_written : App → Result Idns.Table ℕ → Meant
element_written a (Ok idns) = replied (record a { idns = idns }) ReplyKind.Done
element_written a (Err code) = replied a (ReplyKind.SoeError code)

-- ---- EoE

-- an address block takes the place of the old one, where that isn't fixed
abbrev pub addressed : App → List ℕ → Meant
addressed a block = if a.fixed_ip then replied a (ReplyKind.EoeResult 1) else replied (record a { block = block }) ReplyKind.Done

-- a packet has no effect, but that one of EtherType 88B5 to the slave or to all goes back
abbrev pub delivered : App → List ℕ → Meant
delivered a octets = record (replied a ReplyKind.Handed) { emission = option_map (λ sent. packet sent) (echo_of a.mac octets) }

-- ---- AL states

-- the code that refuses a change: a return to Init is none, but Bootstrap is where the slave hasn't it; the sync managers of a slave that was
-- brought up are right
abbrev pub state_refusal : App → ℕ → Option ℕ
state_refusal a to =
    if to == 1 then None
    else if to == 3 then (if a.boot then None else Some 0x0013)
    else States.refusal_of a.al to a.boot true

-- a return to Init opens PreOp again
abbrev pub opened : ℕ → ℕ
opened to = if to == 1 then 2 else to

-- a change of the AL state, or its refusal
abbrev pub state_meaning : App → ℕ → Option ℕ → Meant
state_meaning a to None = replied (record a { al = opened to }) ReplyKind.Done
state_meaning a to (Some code) = replied a (ReplyKind.StateRefused code)

-- ---- any service

-- the protocol of a service by mails; a change of the AL state has none
abbrev pub protocol_of : Plan.Service → Option Protocol
protocol_of (Asked.Sdo q) = Some Protocol.CoE
protocol_of (Asked.ReadFile name pass) = Some Protocol.FoE
protocol_of (Asked.WriteFile name pass bytes) = Some Protocol.FoE
protocol_of (Asked.ReadIdn drive idn elements) = Some Protocol.SoE
protocol_of (Asked.WriteIdn drive idn elements bytes) = Some Protocol.SoE
protocol_of (Asked.SetIp block) = Some Protocol.EoE
protocol_of Asked.GetIp = Some Protocol.EoE
protocol_of (Asked.Forward p) = Some Protocol.EoE
protocol_of (Asked.State to) = None

-- whether services of a protocol are carried out, or changes of the AL state
abbrev pub carries_out : App → Option Protocol → Bool
carries_out a (Some i) = is_served a i
carries_out a None = true

-- the reply of a service that isn't: a packet is handed over without effect, all else gets a mailbox error
abbrev pub refusal_of : Plan.Service → ReplyKind
refusal_of (Asked.Forward p) = ReplyKind.Handed
refusal_of _ = ReplyKind.MailboxError 2

-- a service that is carried out
abbrev pub carried_out : App → Plan.Service → Meant
carried_out a (Asked.Sdo q) = sdo_meaning a (sdo_of q)
carried_out a (Asked.ReadFile name pass) = file_read a name.items (allowed a.files name.items pass false a.al)
carried_out a (Asked.WriteFile name pass bytes) = file_written a name.items bytes (allowed a.files name.items pass true a.al)
carried_out a (Asked.ReadIdn drive idn elements) = element_read a (read_at a.idns (target drive idn elements))
carried_out a (Asked.WriteIdn drive idn elements bytes) = element_written a (write_at a.idns (target drive idn elements) bytes)
carried_out a (Asked.SetIp block) = addressed a block
carried_out a Asked.GetIp = valued a a.block
carried_out a (Asked.Forward p) = delivered a p.items
carried_out a (Asked.State to) = state_meaning a to (state_refusal a to)

-- a service as it stands with the application, but for its count
abbrev pub answered : App → Plan.Service → Meant
answered a service = if carries_out a (protocol_of service) then carried_out a service else replied a (refusal_of service)

-- each service counts but a change of the AL state
abbrev pub counts : Plan.Service → Bool
counts (Asked.State to) = false
counts _ = true

-- one service more than these, where it counts
abbrev pub counted : ℕ → Bool → Meant → Meant
counted handled true m = record m { app = record m.app { handled = handled + 1 } }
counted handled false m = m

-- WHAT A SERVICE MEANS: carried out as a whole, or refused
abbrev pub meaning_of : App → Plan.Service → Meant
meaning_of a service = counted a.handled (counts service) (answered a service)

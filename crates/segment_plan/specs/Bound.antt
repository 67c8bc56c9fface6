-- The frame bound: how many frames a run of a plan may take, by sizes alone.
use Rattle.std.specs.Prelude.{ℕ, ◌+◌, ◌*◌, ◌-◌, ◌/◌, ◌==◌, ◌&&◌, ◌||◌, List, [], ◌∷◌, length, sum_by, find, nat_le, nat_lt, slice_get, Option, option_map, unwrap_or, if◌then◌else◌}
use Rattle.std.specs.Str.{bytes_eq}
use Rattle.arrayvec.specs.ArrayVec.{ArrayVec}
use Rattle.file_store.specs.declared.file.FileSpec.{FileSpec}
use Rattle.object_dictionary.specs.declared.entry.EntrySpec.{EntrySpec}
use Rattle.object_dictionary.specs.declared.service.SdoService.{SdoService}
use Rattle.object_dictionary.specs.declared.service.SdoService.TheVariants.{Download, Upload, DownloadAll, UploadAll, List as ObjectList, ObjectInfo, EntryInfo}
use Rattle.segment_plan.specs.declared.slave.ObjectSpec.{ObjectSpec}
use Rattle.segment_plan.specs.declared.slave.SlaveSpec.{SlaveSpec}
use Rattle.segment_plan.specs.declared.service.Service.{Service}
use Rattle.segment_plan.specs.declared.service.Service.TheVariants.{Sdo, ReadFile, WriteFile, ReadIdn, WriteIdn, SetIp, GetIp, State, Forward}
use Rattle.segment_plan.specs.declared.plan.Scenario.{Scenario}

-- ---- sizes

-- the greatest size of the entry at a place, 0 where there is none
abbrev pub most_at : List EntrySpec → ℕ → ℕ
most_at entries place = unwrap_or (option_map (λ (e : EntrySpec). e.most) (slice_get entries place)) 0

-- the greatest size at a subindex: a variable's entry stands at 0, those of an array or record behind their count of one octet
abbrev pub most_of : ObjectSpec → ℕ → ℕ
most_of o sub = if o.code == 7 then most_at o.entries sub else if sub == 0 then 1 else most_at o.entries (sub - 1)

-- the same of an array whose one entry has this size
abbrev pub own_most : ℕ → ℕ → ℕ
own_most most sub = if sub == 0 then 1 else if sub == 1 then most else 0

-- the object of an index
abbrev pub object_of : SlaveSpec → ℕ → Option ObjectSpec
object_of slave index = find (λ (o : ObjectSpec). o.index == index) slave.objects

-- the greatest size of an entry of a slave, of the profile's own objects too; 0 where there is none
abbrev pub entry_most : SlaveSpec → ℕ → ℕ → ℕ
entry_most slave index sub =
    if slave.«coe» && index == 0x2F00 then own_most 8 sub
    else if slave.«coe» && slave.eoe && index == 0x2F01 then own_most 1514 sub
    else unwrap_or (option_map (λ o. most_of o sub) (object_of slave index)) 0

-- ---- one service

-- the octets that a service of CoE takes or brings at most
abbrev pub sdo_size : SlaveSpec → SdoService → ℕ
sdo_size slave (Download index sub bytes) = length bytes
sdo_size slave (Upload index sub) = entry_most slave index sub
sdo_size slave (DownloadAll index from bytes) = length bytes
sdo_size slave (UploadAll index from) = 16000
sdo_size slave (ObjectList kind) = 1024
sdo_size slave (ObjectInfo index) = 64
sdo_size slave (EntryInfo index sub info) = 64

-- the octets that a service takes or brings at most
abbrev pub size_of : SlaveSpec → Service → ℕ
size_of slave (Sdo service) = sdo_size slave service
size_of slave (ReadFile name pass) = 128 * slave.blocks
size_of slave (WriteFile name pass bytes) = length bytes
size_of slave (ReadIdn drive idn elements) = 4096
size_of slave (WriteIdn drive idn elements bytes) = length bytes
size_of slave (SetIp block) = 64
size_of slave GetIp = 64
size_of slave (State target) = 0
size_of slave (Forward packet) = 0

-- the smaller mailbox
abbrev pub smaller : SlaveSpec → ℕ
smaller slave = if nat_le slave.out_len slave.in_len then slave.out_len else slave.in_len

-- the mails of so many octets: two for each third of the smaller mailbox that is begun
abbrev pub mails_of : SlaveSpec → ℕ → ℕ
mails_of slave size = 6 + 2 * (size / (smaller slave / 3) + 1)

-- a packet of so many octets at each of n slaves and the host, and what that leads to
abbrev pub spread : ℕ → ℕ → ℕ
spread n size = (size + 31) / 32 * ((n + 1) * (n + 1))

-- the file of a name
abbrev pub file_of : SlaveSpec → List ℕ → Option (FileSpec × List ℕ)
file_of slave name = find (λ (f : FileSpec × List ℕ). bytes_eq f.0.name.items name) slave.files

-- how often a file answers by busy, 0 where there is none
abbrev pub busy_of : SlaveSpec → List ℕ → ℕ
busy_of slave name = unwrap_or (option_map (λ (f : FileSpec × List ℕ). f.0.busy) (file_of slave name)) 0

-- the packet that a download emits counts as one of the host's
abbrev pub emitted : ℕ → SdoService → ℕ
emitted n (Download index sub bytes) = if index == 0x2F01 && sub == 1 then spread n (length bytes) else 0
emitted n _ = 0

-- a return to Init takes a bring-up with it
abbrev pub state_work : ℕ → ℕ
state_work target = if target == 1 || target == 3 then 24 else 8

-- what a service counts at one of n slaves
abbrev pub work_of : ℕ → SlaveSpec → Service → ℕ
work_of n slave (Sdo service) = mails_of slave (sdo_size slave service) + emitted n service
work_of n slave (WriteFile name pass bytes) = mails_of slave (length bytes) + 2 * busy_of slave name.items
work_of n slave (State target) = state_work target
work_of n slave (Forward packet) = spread n (length packet.items)
work_of n slave service = mails_of slave (size_of slave service)

-- ---- the whole

-- what a service counts at its slave
abbrev pub addressed_work : List SlaveSpec → ℕ × Service → ℕ
addressed_work slaves row = unwrap_or (option_map (λ slave. work_of (length slaves) slave row.1) (slice_get slaves row.0)) 0

-- what all services count
abbrev pub services_work : List SlaveSpec → List (ℕ × Service) → ℕ
services_work slaves services = sum_by (addressed_work slaves) services

-- what all packets of the host count, at n slaves
abbrev pub host_work : ℕ → List (ArrayVec ℕ) → ℕ
host_work n host = sum_by (λ packet. spread n (length packet.items)) host

-- the greatest of a number and paces
abbrev pub slowest_of : ℕ → List ℕ → ℕ
slowest_of most [] = most
slowest_of most (pace ∷ paces) = slowest_of (if nat_lt most pace then pace else most) paces

-- the greatest pace
abbrev pub slowest : List ℕ → ℕ
slowest paces = slowest_of 0 paces

-- the bound, with so many datagrams heard
abbrev pub bound_of : Scenario → ℕ → ℕ
bound_of s grams =
    16 * slowest s.paces * (length s.slaves + 1)
    * (services_work s.slaves s.services + host_work (length s.slaves) s.host + 128 * grams + length s.lose + 2 * length s.slaves)

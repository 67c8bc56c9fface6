-- What holds of each plan.
use Rattle.std.specs.Prelude.{◌≡◌, ◌≢◌, ℕ, ◌==◌, ◌&&◌, ◌||◌, ◌%◌, ◌+◌, ◌^◌, ◌<◌, ◌≤◌, nat_le, nat_lt, Bool, List, [], ◌∷◌, ◌++◌, map, length, sum_by, slice_index, replicate, Option, Some, None, IfSome, true, false, if◌then◌else◌, All}
use Rattle.std.specs.List.{list_any}
use Rattle.std.specs.Str.{bytes_eq}
use Rattle.arrayvec.specs.ArrayVec.{ArrayVec}
use Rattle.file_store.specs.of_block_pool.Region.{blocks_for}
use Rattle.idn_table.specs.of_eoe.Address.{is_block}
use Rattle.file_store.specs.declared.file.FileSpec.{FileSpec}
use Rattle.object_dictionary.specs.declared.entry.EntrySpec.{EntrySpec}
use Rattle.object_dictionary.specs.declared.service.SdoService.{SdoService}
use Rattle.object_dictionary.specs.declared.service.SdoService.TheVariants.{Download, Upload, DownloadAll, UploadAll, List as ObjectList, ObjectInfo, EntryInfo}
use Rattle.object_dictionary.specs.declared.object.Object.{Object}
use Rattle.object_dictionary.specs.Entries.{is_entry, bound_refusal}
use Rattle.object_dictionary.specs.Sound.{is_object, is_rising}
use Rattle.segment_plan.specs.declared.slave.ObjectSpec.{ObjectSpec}
use Rattle.idn_table.specs.declared.spec.IdnSpec.{IdnSpec}
use Rattle.segment_plan.specs.declared.slave.SlaveSpec.{SlaveSpec}
use Rattle.segment_plan.specs.declared.service.Service.{Service}
use Rattle.segment_plan.specs.declared.service.Service.TheVariants.{Sdo, ReadFile, WriteFile, ReadIdn, WriteIdn, SetIp, GetIp, State, Forward}
use Rattle.segment_plan.specs.declared.plan.Scenario.{Scenario}
use Rattle.segment_plan.specs.Bound.{bound_of}

-- ---- objects

-- the data types: BOOLEAN, the integers of 8 to 64 bits, VISIBLE_STRING and OCTET_STRING
abbrev pub is_kind : ℕ → Bool
is_kind kind = (nat_le 1 kind && nat_le kind 7) || kind == 9 || kind == 10 || kind == 21 || kind == 27

-- an entry of a known type whose value is within its sizes and bounds
pub record IsEntry (e : EntrySpec) : Type 0 where
  pub kind : is_kind e.kind ≡ true
  pub access : e.access ≤ 1023
  pub entry : is_entry e ≡ true
  pub bounds : bound_refusal e e.value ≡ None

-- the codes of a variable, an array and a record
abbrev pub is_code : ℕ → Bool
is_code code = code == 7 || code == 8 || code == 9

-- what a dictionary keeps of an object, but for its index
abbrev pub kept : ObjectSpec → Object
kept o = record { code = o.code; name = o.name; entries = o.entries }

-- an object that a dictionary may have, and none of the profile's own
pub record IsObject (o : ObjectSpec) : Type 0 where
  pub some_index : 1 ≤ o.index
  pub index_fits : o.index ≤ 0xFFFF
  pub no_emergency : o.index ≢ 0x2F00
  pub no_packet : o.index ≢ 0x2F01
  pub code : is_code o.code ≡ true
  pub object : is_object (kept o) ≡ true
  pub entries : All IsEntry o.entries

-- the indexes of objects
abbrev pub indexes : List ObjectSpec → List ℕ
indexes objects = map (λ (o : ObjectSpec). o.index) objects

-- ---- files

-- a file with a name
abbrev pub has_name : List ℕ → FileSpec × List ℕ → Bool
has_name name file = bytes_eq file.0.name.items name

-- a file of a name that none of those before it has
abbrev pub is_new_file : List (FileSpec × List ℕ) → List ℕ → Bool
is_new_file before name = if list_any (has_name name) before then false else true

-- the blocks that files have
abbrev pub taken : List (FileSpec × List ℕ) → ℕ
taken files = sum_by (λ (f : FileSpec × List ℕ). blocks_for (length f.1)) files

-- a file with a name of 1 to 32 octets
pub record IsFile (file : FileSpec × List ℕ) : Type 0 where
  pub some_name : 1 ≤ length file.0.name.items
  pub short_name : length file.0.name.items ≤ 32
  pub busy : file.0.busy ≤ 15
  pub size : length file.1 ≤ 131072

-- files each of whose names is new behind those before it
abbrev pub are_new_files : List (FileSpec × List ℕ) → List (FileSpec × List ℕ) → Bool
are_new_files before [] = true
are_new_files before (file ∷ files) = is_new_file before file.0.name.items && are_new_files (before ++ file ∷ []) files

-- ---- IDNs

-- an IDN of this drive and number
abbrev pub has_key : ℕ → ℕ → IdnSpec → Bool
has_key drive number idn = idn.drive == drive && idn.number == number

-- an IDN whose drive and number none of those before it has
abbrev pub is_new_idn : List IdnSpec → ℕ → ℕ → Bool
is_new_idn before drive number = if list_any (has_key drive number) before then false else true

-- IDNs each of which is new behind those before it
abbrev pub are_new_idns : List IdnSpec → List IdnSpec → Bool
are_new_idns before [] = true
are_new_idns before (idn ∷ idns) = is_new_idn before idn.drive idn.number && are_new_idns (before ++ idn ∷ []) idns

-- whether a value of these sizes is an integer: of one size up to 8 octets
abbrev pub is_integer : ℕ → ℕ → Bool
is_integer least most = least == most && nat_le most 8

-- a bound stands only at an integer, and fits its size
abbrev pub is_bound : ℕ → ℕ → Option ℕ → Bool
is_bound least most None = true
is_bound least most (Some bound) = is_integer least most && nat_lt bound (256 ^ most)

-- an IDN whose value is within its sizes
pub record IsIdn (i : IdnSpec) : Type 0 where
  pub drive : i.drive ≤ 7
  pub number : i.number ≤ 0xFFFF
  pub label : IfSome i.label (λ text. length text ≤ 40)
  pub unit : IfSome i.unit (λ text. length text ≤ 40)
  pub some_size : 1 ≤ i.least
  pub sizes : i.least ≤ i.most
  pub size_fits : i.most ≤ 4096
  pub value_least : i.least ≤ length i.value
  pub value_most : length i.value ≤ i.most
  pub min : is_bound i.least i.most i.min ≡ true
  pub max : is_bound i.least i.most i.max ≡ true

-- ---- slaves

-- the state in which a slave is brought up: PreOp, or Bootstrap where it has that
abbrev pub is_start : Bool → ℕ → Bool
is_start boot start = start == 2 || (boot && start == 3)

-- the MAC address where EoE is served: 6 octets of which the first is even
abbrev pub is_mac : Bool → List ℕ → Bool
is_mac true mac = slice_index mac 0 % 2 == 0
is_mac false mac = bytes_eq mac (replicate 6 0)

-- a slave with all its numbers within their ranges
pub record IsSlave (s : SlaveSpec) : Type 0 where
  pub some_name : 1 ≤ length s.name
  pub short_name : length s.name ≤ 32
  pub some_station : 1 ≤ s.station
  pub station_fits : s.station ≤ 0xFFFF
  pub out_least : 64 ≤ s.out_len
  pub out_most : s.out_len ≤ 1486
  pub in_least : 64 ≤ s.in_len
  pub in_most : s.in_len ≤ 1486
  pub start : is_start s.boot s.start ≡ true
  pub some_blocks : 1 ≤ s.blocks
  pub few_blocks : s.blocks ≤ 1024
  pub mac : is_mac s.eoe s.mac ≡ true
  pub few_objects : length s.objects ≤ 256
  pub objects : All IsObject s.objects
  pub rising : is_rising (indexes s.objects) ≡ true
  pub few_files : length s.files ≤ 32
  pub files : All IsFile s.files
  pub fits : taken s.files ≤ s.blocks
  pub few_idns : length s.idns ≤ 256
  pub idns : All IsIdn s.idns

-- ---- services

-- a service of CoE whose numbers are within their fields, and whose value isn't empty
abbrev pub IsSdo : SdoService → Type 0
IsSdo (Download index sub bytes) = (index ≤ 0xFFFF) × (sub ≤ 0xFF) × (1 ≤ length bytes) × (length bytes ≤ 8000)
IsSdo (Upload index sub) = (index ≤ 0xFFFF) × (sub ≤ 0xFF)
IsSdo (DownloadAll index from bytes) = (index ≤ 0xFFFF) × (from ≤ 0xFF) × (1 ≤ length bytes) × (length bytes ≤ 16000)
IsSdo (UploadAll index from) = (index ≤ 0xFFFF) × (from ≤ 0xFF)
IsSdo (ObjectList kind) = kind ≤ 0xFFFF
IsSdo (ObjectInfo index) = index ≤ 0xFFFF
IsSdo (EntryInfo index sub info) = (index ≤ 0xFFFF) × (sub ≤ 0xFF) × (info ≡ 0)

-- the target of a state service: an AL state but Bootstrap, or a return to Init and then Bootstrap
abbrev pub is_target : ℕ → Bool
is_target target = target == 1 || target == 2 || target == 3 || target == 4 || target == 8

-- a name of 1 to 32 octets
abbrev pub IsName : ArrayVec ℕ → Type 0
IsName name = (1 ≤ length name.items) × (length name.items ≤ 32)

-- a service whose numbers are within their fields; no script hands over a packet
abbrev pub IsService : Service → Type 0
IsService (Sdo service) = IsSdo service
IsService (ReadFile name pass) = IsName name
IsService (WriteFile name pass bytes) = IsName name × (length bytes ≤ 131072)
IsService (ReadIdn drive idn elements) = (drive ≤ 7) × (idn ≤ 0xFFFF) × (elements ≤ 0xFF)
IsService (WriteIdn drive idn elements bytes) = (drive ≤ 7) × (idn ≤ 0xFFFF) × (elements ≤ 0xFF) × (1 ≤ length bytes) × (length bytes ≤ 4096)
IsService (SetIp block) = (is_block block ≡ true) × (length block ≤ 1476)
IsService GetIp = Unit {0}
IsService (State target) = is_target target ≡ true
IsService (Forward packet) = ⊥

-- a service of one of so many slaves
pub record IsAddressed (slaves : ℕ) (row : ℕ × Service) : Type 0 where
  pub target : row.0 < slaves
  pub service : IsService row.1

-- ---- the whole

-- a packet of 14 to 1,514 octets
abbrev pub IsPacket : ArrayVec ℕ → Type 0
IsPacket packet = (14 ≤ length packet.items) × (length packet.items ≤ 1514)

-- frames whose numbers rise from this one on, each lost behind at most so many slaves
abbrev pub are_lost_from : ℕ → ℕ → List (ℕ × ℕ) → Bool
are_lost_from slaves least [] = true
are_lost_from slaves least (row ∷ rows) = nat_le least row.0 && nat_le row.1 slaves && are_lost_from slaves (row.0 + 1) rows

-- lost frames whose numbers rise, each lost behind at most so many slaves
abbrev pub are_lost : ℕ → List (ℕ × ℕ) → Bool
are_lost slaves rows = are_lost_from slaves 0 rows

-- the place of the first value that one before it equals
abbrev pub repeated_from : {K : Type 0} → (K → K → Bool) → List K → ℕ → List K → Option ℕ
repeated_from same before place [] = None
repeated_from same before place (k ∷ ks) = if list_any (same k) before then Some place else repeated_from same (before ++ k ∷ []) (place + 1) ks

-- slaves of one name
abbrev pub is_same_name : SlaveSpec → SlaveSpec → Bool
is_same_name s other = bytes_eq other.name s.name

-- slaves of one station address
abbrev pub is_same_station : SlaveSpec → SlaveSpec → Bool
is_same_station s other = other.station == s.station

-- the second slave of a name
abbrev pub repeated_name : List SlaveSpec → Option ℕ
repeated_name slaves = repeated_from is_same_name [] 0 slaves

-- the second slave of a station address
abbrev pub repeated_station : List SlaveSpec → Option ℕ
repeated_station slaves = repeated_from is_same_station [] 0 slaves

-- a pace is 1 to 16
abbrev pub IsPace : ℕ → Type 0
IsPace pace = (1 ≤ pace) × (pace ≤ 16)

-- the slaves, services and packets of a plan, within the limits
pub record IsLaid (s : Scenario) : Type 0 where
  pub retry : s.retry ≤ 15
  pub recover : s.recover ≤ 15
  pub budget : IfSome s.budget (λ frames. (1 ≤ frames) × (frames ≤ 100000000))
  pub few_lost : length s.lose ≤ 4096
  pub some_slave : 1 ≤ length s.slaves
  pub few_slaves : length s.slaves ≤ 16
  pub slaves : All IsSlave s.slaves
  pub few_services : length s.services ≤ 4096
  pub services : All (IsAddressed (length s.slaves)) s.services
  pub few_packets : length s.host ≤ 4096
  pub host : All IsPacket s.host
  pub paces : length s.paces ≡ length s.slaves
  pub pace : All IsPace s.paces

-- where no budget is given, the frame bound is one
abbrev pub is_bounded_by : Option ℕ → ℕ → Bool
is_bounded_by (Some budget) bound = true
is_bounded_by None bound = nat_le bound 100000000

-- the same of a plan, with no datagrams heard
abbrev pub is_bounded : Scenario → Bool
is_bounded s = is_bounded_by s.budget (bound_of s 0)

-- a plan: no name and no station address twice, the lost frames rise, and where no budget is given the bound is one
pub record IsPlan (s : Scenario) : Type 0 where
  pub laid : IsLaid s
  pub names : repeated_name s.slaves ≡ None
  pub stations : repeated_station s.slaves ≡ None
  pub lose : are_lost (length s.slaves) s.lose ≡ true
  pub bound : is_bounded s ≡ true

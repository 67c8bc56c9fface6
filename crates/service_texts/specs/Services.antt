-- Services of a slave in words.
use Rattle.std.specs.Prelude.{ℕ, ◌==◌, List, ◌++◌, length, codes, if◌then◌else◌}
use Rattle.std.specs.Fmt.{decimal}
use Rattle.object_dictionary.specs.declared.service.SdoService.{SdoService}
use Rattle.object_dictionary.specs.declared.service.SdoService.TheVariants as sdos
use Rattle.segment_plan.specs.declared.slave.SlaveSpec.{SlaveSpec}
use Rattle.segment_plan.specs.declared.service.Service.{Service}
use Rattle.segment_plan.specs.declared.service.Service.TheVariants as services
use Rattle.value_texts.specs.of_reply_text.Reply.{hex_of}
use Rattle.value_texts.specs.Texts.{quoted}
use Rattle.value_texts.specs.Values.{value_text}
use Rattle.value_texts.specs.Names.{kind_at, names_text, object_text}
use Rattle.value_texts.specs.Whole.{whole_text}
use Rattle.value_texts.specs.Idns.{element_text, idn_text}
use Rattle.value_texts.specs.Blocks.{block_text}
use Rattle.service_texts.specs.Packets.{gets_text}
use Rattle.service_texts.specs.States.{state_text}

-- an index and a subindex behind a word
unfoldable pub place_text : List ℕ → ℕ → ℕ → List ℕ
place_text word index sub = word ++ (hex_of 4 index ++ (codes ":" ++ hex_of 2 sub))

-- an index behind a word
unfoldable pub object_place : List ℕ → ℕ → List ℕ
object_place word index = word ++ hex_of 4 index

-- the subindex that complete access begins at
unfoldable pub from_text : ℕ → List ℕ
from_text from = codes " from " ++ decimal from

-- the write of an entry
unfoldable pub download_text : SlaveSpec → ℕ → ℕ → List ℕ → List ℕ
download_text slave index sub octets =
    place_text (codes "download ") index sub ++ (names_text slave index sub ++ (codes " = " ++ value_text (kind_at slave index sub) octets))

-- the read of an entry
unfoldable pub upload_text : SlaveSpec → ℕ → ℕ → List ℕ
upload_text slave index sub = place_text (codes "upload ") index sub ++ names_text slave index sub

-- an object by complete access
unfoldable pub whole_place : List ℕ → SlaveSpec → ℕ → ℕ → List ℕ
whole_place word slave index from = object_place word index ++ (object_text slave index ++ from_text from)

-- the write of an object
unfoldable pub download_all_text : SlaveSpec → ℕ → ℕ → List ℕ → List ℕ
download_all_text slave index from octets = whole_place (codes "download_all ") slave index from ++ (codes " = " ++ whole_text slave index from octets)

-- the question for a list of objects
unfoldable pub list_service : ℕ → List ℕ
list_service kind =
    if kind == 0 then codes "list counts"
    else if kind == 1 then codes "list all objects"
    else codes "list kind " ++ decimal kind

-- a service of CoE
unfoldable pub sdo_text : SlaveSpec → SdoService → List ℕ
sdo_text slave (sdos.Download index sub octets) = download_text slave index sub octets
sdo_text slave (sdos.Upload index sub) = upload_text slave index sub
sdo_text slave (sdos.DownloadAll index from octets) = download_all_text slave index from octets
sdo_text slave (sdos.UploadAll index from) = whole_place (codes "upload_all ") slave index from
sdo_text slave (sdos.List kind) = list_service kind
sdo_text slave (sdos.ObjectInfo index) = object_place (codes "object ") index
sdo_text slave (sdos.EntryInfo index sub info) = place_text (codes "entry ") index sub

-- a file by its name, behind a word
unfoldable pub named : List ℕ → List ℕ → List ℕ
named word name = word ++ quoted name

-- how many octets are written
unfoldable pub sized : ℕ → List ℕ
sized size = if size == 1 then codes " = " ++ (decimal size ++ codes " octet") else codes " = " ++ (decimal size ++ codes " octets")

-- the write of a file
unfoldable pub write_file_text : List ℕ → ℕ → List ℕ
write_file_text name size = named (codes "write_file ") name ++ sized size

-- an element of an IDN, behind a word
unfoldable pub idn_place : List ℕ → ℕ → ℕ → ℕ → List ℕ
idn_place word drive idn elements = word ++ (decimal idn ++ (codes " of drive " ++ (decimal drive ++ (codes ", " ++ element_text elements))))

-- the write of an element
unfoldable pub write_idn_text : SlaveSpec → ℕ → ℕ → ℕ → List ℕ → List ℕ
write_idn_text slave drive idn elements octets =
    idn_place (codes "write_idn ") drive idn elements ++ (codes " = " ++ idn_text slave drive idn elements octets)

-- the write of the address block
unfoldable pub set_ip_text : List ℕ → List ℕ
set_ip_text block = codes "set_ip = " ++ block_text block

-- the question for an AL state
unfoldable pub target_text : ℕ → List ℕ
target_text target = codes "state " ++ state_text target

-- A SERVICE, with the names that the slave's plan has for what it is about, and what is written by its type
unfoldable pub service_text : SlaveSpec → Service → List ℕ
service_text slave (services.Sdo sdo) = sdo_text slave sdo
service_text slave (services.ReadFile name pass) = named (codes "read_file ") name.items
service_text slave (services.WriteFile name pass octets) = write_file_text name.items (length octets)
service_text slave (services.ReadIdn drive idn elements) = idn_place (codes "read_idn ") drive idn elements
service_text slave (services.WriteIdn drive idn elements octets) = write_idn_text slave drive idn elements octets
service_text slave (services.SetIp block) = set_ip_text block
service_text slave services.GetIp = codes "get_ip"
service_text slave (services.State target) = target_text target
service_text slave (services.Forward packet) = gets_text packet.items

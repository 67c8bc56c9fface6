use Rattle.std.specs.Prelude.{◌≡◌, ℕ, Bool, true, ◌+◌, ◌-◌, ◌*◌, ◌<◌, ◌≤◌, ⊤, List, [], ◌∷◌, ◌++◌, length, replicate}
use Rattle.byteorder.specs.Endian.{little_bytes}
use Rattle.coe_codec.specs.Fields.{bit}
use Rattle.coe_codec.specs.Reading.{is_information}
use Rattle.coe_codec.specs.declared.message.Coe.{Coe}
use Rattle.coe_codec.specs.declared.message.Coe.TheVariants.{Emergency, Expedited, First, Upload, DownloadAnswer, ExpeditedAnswer, FirstAnswer, Segment, SegmentAnswer, UploadSegment, UploadSegmentAnswer, Abort, ListRequest, ObjectRequest, EntryRequest, Information, InformationError}

-- the messages that have a spelling: values of 1 octet or more in expedited forms and segments, first parts within their size
abbrev pub HasSpelling : Coe → Type 0
HasSpelling (Emergency octets) = length octets.items ≡ 8
HasSpelling (Expedited index sub all bytes) = 1 ≤ length bytes.items
HasSpelling (First index sub all size bytes) = length bytes.items ≤ size
HasSpelling (ExpeditedAnswer index sub bytes) = 1 ≤ length bytes.items
HasSpelling (FirstAnswer index sub size bytes) = length bytes.items ≤ size
HasSpelling (Segment toggle last bytes) = 1 ≤ length bytes.items
HasSpelling (UploadSegmentAnswer toggle last bytes) = 1 ≤ length bytes.items
HasSpelling (Information opcode incomplete left bytes) = is_information opcode ≡ true
HasSpelling _ = ⊤

-- the ranges of the numbers that a message has in more than one octet
abbrev pub IsRanged : Coe → Type 0
IsRanged (Emergency octets) = ⊤
IsRanged (Expedited index sub all bytes) = index < 65536
IsRanged (First index sub all size bytes) = (index < 65536) × (size < 4294967296)
IsRanged (Upload index sub all) = index < 65536
IsRanged (DownloadAnswer index sub) = index < 65536
IsRanged (ExpeditedAnswer index sub bytes) = index < 65536
IsRanged (FirstAnswer index sub size bytes) = (index < 65536) × (size < 4294967296)
IsRanged (Segment toggle last bytes) = ⊤
IsRanged (SegmentAnswer toggle) = ⊤
IsRanged (UploadSegment toggle) = ⊤
IsRanged (UploadSegmentAnswer toggle last bytes) = ⊤
IsRanged (Abort index sub code) = (index < 65536) × (code < 4294967296)
IsRanged (ListRequest kind) = kind < 65536
IsRanged (ObjectRequest index) = index < 65536
IsRanged (EntryRequest index sub info) = index < 65536
IsRanged (Information opcode incomplete left bytes) = left < 65536
IsRanged (InformationError code) = code < 4294967296

-- an expedited form has at most 4 octets
abbrev pub IsFew : Coe → Type 0
IsFew (Expedited index sub all bytes) = length bytes.items ≤ 4
IsFew (ExpeditedAnswer index sub bytes) = length bytes.items ≤ 4
IsFew _ = ⊤

-- header, command, index and subindex of an SDO form
abbrev pub target : ℕ → ℕ → ℕ → ℕ → List ℕ
target service command index sub = 0 ∷ 16 * service ∷ command ∷ (little_bytes 2 index ++ sub ∷ [])

-- header, opcode, reserved octet and fragments left of an information form
abbrev pub opcode_head : ℕ → ℕ → List ℕ
opcode_head opcode left = 0 ∷ 128 ∷ opcode ∷ 0 ∷ little_bytes 2 left

-- a segment's command: its mark of the last one, its unused count and its toggle
abbrev pub command_of_segment : Bool → Bool → List ℕ → ℕ
command_of_segment toggle last part = bit last + 2 * (7 - length part) + 16 * bit toggle

-- an expedited form's command without complete access: its unused count, and the bits for expedited and for the size
abbrev pub command_of_expedited : ℕ → List ℕ → ℕ
command_of_expedited specifier part = 32 * specifier + 3 + 4 * (4 - length part)

-- the fields in front of a message's part
abbrev pub head_of : Coe → List ℕ
head_of (Emergency octets) = 0 ∷ 16 ∷ []
head_of (Expedited index sub all bytes) = target 2 (command_of_expedited 1 bytes.items + 16 * bit all) index sub
head_of (First index sub all size bytes) = target 2 (33 + 16 * bit all) index sub ++ little_bytes 4 size
head_of (Upload index sub all) = target 2 (64 + 16 * bit all) index sub
head_of (DownloadAnswer index sub) = target 3 96 index sub
head_of (ExpeditedAnswer index sub bytes) = target 3 (command_of_expedited 2 bytes.items) index sub
head_of (FirstAnswer index sub size bytes) = target 3 65 index sub ++ little_bytes 4 size
head_of (Segment toggle last bytes) = 0 ∷ 32 ∷ command_of_segment toggle last bytes.items ∷ []
head_of (SegmentAnswer toggle) = 0 ∷ 48 ∷ (32 + 16 * bit toggle) ∷ []
head_of (UploadSegment toggle) = 0 ∷ 32 ∷ (96 + 16 * bit toggle) ∷ []
head_of (UploadSegmentAnswer toggle last bytes) = 0 ∷ 48 ∷ command_of_segment toggle last bytes.items ∷ []
head_of (Abort index sub code) = target 2 128 index sub ++ little_bytes 4 code
head_of (ListRequest kind) = opcode_head 1 0 ++ little_bytes 2 kind
head_of (ObjectRequest index) = opcode_head 3 0 ++ little_bytes 2 index
head_of (EntryRequest index sub info) = opcode_head 5 0 ++ (little_bytes 2 index ++ sub ∷ info ∷ [])
head_of (Information opcode incomplete left bytes) = opcode_head (opcode + 128 * bit incomplete) left
head_of (InformationError code) = opcode_head 7 0 ++ little_bytes 4 code

-- the octets that a message carries
abbrev pub part_of : Coe → List ℕ
part_of (Emergency octets) = octets.items
part_of (Expedited index sub all bytes) = bytes.items
part_of (First index sub all size bytes) = bytes.items
part_of (ExpeditedAnswer index sub bytes) = bytes.items
part_of (FirstAnswer index sub size bytes) = bytes.items
part_of (Segment toggle last bytes) = bytes.items
part_of (UploadSegmentAnswer toggle last bytes) = bytes.items
part_of (Information opcode incomplete left bytes) = bytes.items
part_of _ = []

-- how many unused octets a message ends with
abbrev pub padding_of : Coe → ℕ
padding_of (Expedited index sub all bytes) = 4 - length bytes.items
padding_of (ExpeditedAnswer index sub bytes) = 4 - length bytes.items
padding_of (Segment toggle last bytes) = 7 - length bytes.items
padding_of (UploadSegmentAnswer toggle last bytes) = 7 - length bytes.items
padding_of (Upload index sub all) = 4
padding_of (DownloadAnswer index sub) = 4
padding_of (SegmentAnswer toggle) = 7
padding_of (UploadSegment toggle) = 7
padding_of _ = 0

-- the one spelling of a message
abbrev pub coe_text : Coe → List ℕ
coe_text message = head_of message ++ (part_of message ++ replicate (padding_of message) 0)

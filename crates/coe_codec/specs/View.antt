-- A CoE message as it stands in a body.
use Rattle.std.specs.Prelude.{ℕ, ◌≤◌, length, Bool, List, Result, Ok, Err}
use Rattle.std.specs.Borrow.{Bor}
use Rattle.arrayvec.specs.ArrayVec.{ArrayVec}
use Rattle.coe_codec.specs.declared.message.Coe.{Coe}
use Rattle.coe_codec.specs.declared.message.Coe.TheVariants.{Emergency, Expedited, First, Upload, DownloadAnswer, ExpeditedAnswer, FirstAnswer, Segment, SegmentAnswer, UploadSegment, UploadSegmentAnswer, Abort, ListRequest, ObjectRequest, EntryRequest, Information, InformationError}
use Rattle.coe_codec.specs.declared.message.CoeFault.{CoeFault}
use Rattle.coe_codec.specs.declared.viewing.CoeView.{CoeView}
use Rattle.coe_codec.specs.declared.viewing.CoeView.TheVariants.{Emergency as VEmergency, Expedited as VExpedited, First as VFirst, Upload as VUpload, DownloadAnswer as VDownloadAnswer, ExpeditedAnswer as VExpeditedAnswer, FirstAnswer as VFirstAnswer, Segment as VSegment, SegmentAnswer as VSegmentAnswer, UploadSegment as VUploadSegment, UploadSegmentAnswer as VUploadSegmentAnswer, Abort as VAbort, ListRequest as VListRequest, ObjectRequest as VObjectRequest, EntryRequest as VEntryRequest, Information as VInformation, InformationError as VInformationError}

-- the message that is seen
abbrev pub coe_seen : CoeView → Coe
coe_seen (VEmergency octets) = Emergency (record { items = octets.now })
coe_seen (VExpedited index sub all bytes) = Expedited index sub all (record { items = bytes.now })
coe_seen (VFirst index sub all size bytes) = First index sub all size (record { items = bytes.now })
coe_seen (VUpload index sub all) = Upload index sub all
coe_seen (VDownloadAnswer index sub) = DownloadAnswer index sub
coe_seen (VExpeditedAnswer index sub bytes) = ExpeditedAnswer index sub (record { items = bytes.now })
coe_seen (VFirstAnswer index sub size bytes) = FirstAnswer index sub size (record { items = bytes.now })
coe_seen (VSegment toggle last bytes) = Segment toggle last (record { items = bytes.now })
coe_seen (VSegmentAnswer toggle) = SegmentAnswer toggle
coe_seen (VUploadSegment toggle) = UploadSegment toggle
coe_seen (VUploadSegmentAnswer toggle last bytes) = UploadSegmentAnswer toggle last (record { items = bytes.now })
coe_seen (VAbort index sub code) = Abort index sub code
coe_seen (VListRequest kind) = ListRequest kind
coe_seen (VObjectRequest index) = ObjectRequest index
coe_seen (VEntryRequest index sub info) = EntryRequest index sub info
coe_seen (VInformation opcode incomplete left bytes) = Information opcode incomplete left (record { items = bytes.now })
coe_seen (VInformationError code) = InformationError code

-- what a view of a body comes to
abbrev pub seen : Result CoeView CoeFault → Result Coe CoeFault
seen (Ok v) = Ok (coe_seen v)
seen (Err fault) = Err fault

-- the complete size and a first part that is seen
abbrev pub first_seen : Result (ℕ × Bor (List ℕ)) CoeFault → Result (ℕ × ArrayVec ℕ) CoeFault
first_seen (Ok v) = Ok (v.0, record { items = v.1.now })
first_seen (Err fault) = Err fault

-- whether a segment is the last, and its octets that are seen
abbrev pub segment_seen : Result (Bool × Bor (List ℕ)) CoeFault → Result (Bool × ArrayVec ℕ) CoeFault
segment_seen (Ok v) = Ok (v.0, record { items = v.1.now })
segment_seen (Err fault) = Err fault

-- what is read: a first part is within its complete size, an expedited value has at most 4 octets, a segment has some
abbrev pub IsWithin : CoeView → Type 0
IsWithin (VFirst index sub all size bytes) = (length bytes.now ≤ size) × (length bytes.now ≤ 1470)
IsWithin (VExpedited index sub all bytes) = length bytes.now ≤ 4
IsWithin (VExpeditedAnswer index sub bytes) = length bytes.now ≤ 4
IsWithin (VSegment toggle last bytes) = 1 ≤ length bytes.now
IsWithin (VUploadSegmentAnswer toggle last bytes) = 1 ≤ length bytes.now
IsWithin _ = Unit {0}

-- what can be written: the octets fit their form
abbrev pub IsCapped : CoeView → Type 0
IsCapped (VEmergency octets) = length octets.now ≤ 8
IsCapped (VExpedited index sub all bytes) = length bytes.now ≤ 4
IsCapped (VFirst index sub all size bytes) = length bytes.now ≤ 1470
IsCapped (VExpeditedAnswer index sub bytes) = length bytes.now ≤ 4
IsCapped (VFirstAnswer index sub size bytes) = length bytes.now ≤ 1470
IsCapped (VSegment toggle last bytes) = length bytes.now ≤ 1477
IsCapped (VUploadSegmentAnswer toggle last bytes) = length bytes.now ≤ 1477
IsCapped (VInformation opcode incomplete left bytes) = length bytes.now ≤ 1474
IsCapped _ = Unit {0}

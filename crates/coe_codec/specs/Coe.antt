use Rattle.std.specs.Prelude.{◌≡◌, ℕ, Bool, true, false, ◌≤◌, ◌⊎◌, List, length, take, drop, slice_index}
use Rattle.ec_fields.specs.Fields.{number_at}
use Rattle.coe_codec.specs.Fields.{service_in, specifier_in, flag_in, opcode_in}
use Rattle.coe_codec.specs.Reading.{expedited_part, first_fits, segment_fits, segment_part, is_information}
use Rattle.coe_codec.specs.declared.message.Coe.{Coe}
use Rattle.coe_codec.specs.declared.message.Coe.TheVariants.{Emergency, Expedited, First, Upload, DownloadAnswer, ExpeditedAnswer, FirstAnswer, Segment, SegmentAnswer, UploadSegment, UploadSegmentAnswer, Abort, ListRequest, ObjectRequest, EntryRequest, Information, InformationError}

-- a body that says of itself which service it carries, with at least so many octets
pub record IsOf (body : List ℕ) (service least : ℕ) : Type 0 where
  pub long : least ≤ length body
  pub service_is : service_in body ≡ service

-- an SDO form by its service and command specifier
pub record IsSdo (body : List ℕ) (service specifier : ℕ) : Type 0 where
  pub form : IsOf body service 10
  pub specifier_is : specifier_in body ≡ specifier

-- the entry that an SDO form names
pub record IsTarget (body : List ℕ) (index sub : ℕ) : Type 0 where
  pub index_is : number_at 2 body 3 ≡ index
  pub sub_is : slice_index body 5 ≡ sub

-- all octets of a value, in an expedited form
pub record IsExpedited (body part : List ℕ) : Type 0 where
  pub expedited : flag_in body 2 ≡ true
  pub part_is : expedited_part body ≡ part

-- the complete size and the first part of a value, in a normal form
pub record IsFirst (body : List ℕ) (size : ℕ) (part : List ℕ) : Type 0 where
  pub normal : flag_in body 2 ≡ false
  pub sized : flag_in body 1 ≡ true
  pub size_is : number_at 4 body 6 ≡ size
  pub part_is : drop 10 body ≡ part
  pub within : first_fits body ≡ true

-- a segment by its toggle, its mark of the last one and its octets
pub record IsSegment (body : List ℕ) (toggle last : Bool) (part : List ℕ) : Type 0 where
  pub toggle_is : flag_in body 16 ≡ toggle
  pub last_is : flag_in body 1 ≡ last
  pub part_is : segment_part body ≡ part
  pub fits : segment_fits body ≡ true

-- an abort by its code
abbrev pub IsAbort : List ℕ → ℕ → ℕ → ℕ → ℕ → Type 0
IsAbort body service index sub code = IsSdo body service 4 × IsTarget body index sub × (number_at 4 body 6 ≡ code)

-- an information form by its opcode, with at least so many octets
pub record IsOpcode (body : List ℕ) (opcode least : ℕ) : Type 0 where
  pub form : IsOf body 8 least
  pub opcode_is : opcode_in body ≡ opcode

-- the CoE grammar: what each field of a body is. Bits and octets that no field names are ignored
abbrev pub IsCoe : List ℕ → Coe → Type 0
IsCoe body (Emergency octets) = IsOf body 1 10 × (take 8 (drop 2 body) ≡ octets.items)
IsCoe body (Expedited index sub all bytes) = IsSdo body 2 1 × IsTarget body index sub × (flag_in body 16 ≡ all) × IsExpedited body bytes.items
IsCoe body (First index sub all size bytes) = IsSdo body 2 1 × IsTarget body index sub × (flag_in body 16 ≡ all) × IsFirst body size bytes.items
IsCoe body (Upload index sub all) = IsSdo body 2 2 × IsTarget body index sub × (flag_in body 16 ≡ all)
IsCoe body (DownloadAnswer index sub) = IsSdo body 3 3 × IsTarget body index sub
IsCoe body (ExpeditedAnswer index sub bytes) = IsSdo body 3 2 × IsTarget body index sub × (flag_in body 1 ≡ true) × IsExpedited body bytes.items
IsCoe body (FirstAnswer index sub size bytes) = IsSdo body 3 2 × IsTarget body index sub × IsFirst body size bytes.items
IsCoe body (Segment toggle last bytes) = IsSdo body 2 0 × IsSegment body toggle last bytes.items
IsCoe body (SegmentAnswer toggle) = IsSdo body 3 1 × (flag_in body 16 ≡ toggle)
IsCoe body (UploadSegment toggle) = IsSdo body 2 3 × (flag_in body 16 ≡ toggle)
IsCoe body (UploadSegmentAnswer toggle last bytes) = IsSdo body 3 0 × IsSegment body toggle last bytes.items
IsCoe body (Abort index sub code) = IsAbort body 2 index sub code ⊎ IsAbort body 3 index sub code
IsCoe body (ListRequest kind) = IsOpcode body 1 8 × (number_at 2 body 6 ≡ kind)
IsCoe body (ObjectRequest index) = IsOpcode body 3 8 × (number_at 2 body 6 ≡ index)
IsCoe body (EntryRequest index sub info) =
    IsOpcode body 5 10 × (number_at 2 body 6 ≡ index) × (slice_index body 8 ≡ sub) × (slice_index body 9 ≡ info)
IsCoe body (Information opcode incomplete left bytes) =
    IsOpcode body opcode 6 × (is_information opcode ≡ true) × (flag_in body 128 ≡ incomplete) × (number_at 2 body 4 ≡ left) × (drop 6 body ≡ bytes.items)
IsCoe body (InformationError code) = IsOpcode body 7 10 × (number_at 4 body 6 ≡ code)

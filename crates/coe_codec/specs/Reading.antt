use Rattle.std.specs.Prelude.{ℕ, Bool, ◌-◌, ◌==◌, ◌||◌, ◌&&◌, not, nat_lt, nat_le, if◌then◌else◌, List, length, take, drop, slice_index, Result, Ok, Err}
use Rattle.arrayvec.specs.ArrayVec.{ArrayVec}
use Rattle.ec_fields.specs.Fields.{number_at}
use Rattle.coe_codec.specs.Fields.{service_in, specifier_in, flag_in, unused_in, missing_in, opcode_in}
use Rattle.coe_codec.specs.declared.message.Coe.{Coe}
use Rattle.coe_codec.specs.declared.message.Coe.TheVariants.{Emergency, Expedited, First, Upload, DownloadAnswer, ExpeditedAnswer, FirstAnswer, Segment, SegmentAnswer, UploadSegment, UploadSegmentAnswer, Abort, ListRequest, ObjectRequest, EntryRequest, Information, InformationError}
use Rattle.coe_codec.specs.declared.message.CoeFault.{CoeFault}
use Rattle.coe_codec.specs.declared.message.CoeFault.TheVariants.{Short, Service, Command, Size}

-- the octets of an expedited value: four less the unused ones, which count where the size bit is set
abbrev pub expedited_part : List ℕ → List ℕ
expedited_part body = take (4 - (if flag_in body 1 then missing_in body else 0)) (drop 6 body)

-- whether a first part is within the complete size
abbrev pub first_fits : List ℕ → Bool
first_fits body = nat_le (length body - 10) (number_at 4 body 6)

-- whether a segment's unused count is at most 6, and 0 where the segment has more than 7 octets
abbrev pub segment_fits : List ℕ → Bool
segment_fits body = not (unused_in body == 7) && (nat_le (length body) 10 || unused_in body == 0)

-- the octets of a segment
abbrev pub segment_part : List ℕ → List ℕ
segment_part body = take (length body - 3 - unused_in body) (drop 3 body)

-- the complete size and the first part
abbrev pub first_read : List ℕ → Result (ℕ × ArrayVec ℕ) CoeFault
first_read body = if first_fits body then Ok (number_at 4 body 6, record { items = drop 10 body }) else Err Size

-- whether a segment is the last, and its octets
abbrev pub segment_read : List ℕ → Result (Bool × ArrayVec ℕ) CoeFault
segment_read body = if segment_fits body then Ok (flag_in body 1, record { items = segment_part body }) else Err Size

-- the abort in a body
abbrev pub abort_in : List ℕ → Coe
abort_in body = Abort (number_at 2 body 3) (slice_index body 5) (number_at 4 body 6)

-- an initiate download
abbrev pub download_read : List ℕ → Result Coe CoeFault
download_read body =
    if flag_in body 2 then Ok (Expedited (number_at 2 body 3) (slice_index body 5) (flag_in body 16) (record { items = expedited_part body }))
    else if flag_in body 1
    then (if first_fits body
    then Ok (First (number_at 2 body 3) (slice_index body 5) (flag_in body 16) (number_at 4 body 6) (record { items = drop 10 body }))
    else Err Size)
    else Err Command

-- the answer to an initiate upload
abbrev pub upload_answer_read : List ℕ → Result Coe CoeFault
upload_answer_read body =
    if flag_in body 1
    then (if flag_in body 2 then Ok (ExpeditedAnswer (number_at 2 body 3) (slice_index body 5) (record { items = expedited_part body }))
    else if first_fits body
    then Ok (FirstAnswer (number_at 2 body 3) (slice_index body 5) (number_at 4 body 6) (record { items = drop 10 body }))
    else Err Size)
    else Err Command

-- an SDO request
abbrev pub request_read : List ℕ → Result Coe CoeFault
request_read body =
    if specifier_in body == 0
    then (if segment_fits body then Ok (Segment (flag_in body 16) (flag_in body 1) (record { items = segment_part body })) else Err Size)
    else if specifier_in body == 1 then download_read body
    else if specifier_in body == 2 then Ok (Upload (number_at 2 body 3) (slice_index body 5) (flag_in body 16))
    else if specifier_in body == 3 then Ok (UploadSegment (flag_in body 16))
    else if specifier_in body == 4 then Ok (abort_in body)
    else Err Command

-- an SDO answer
abbrev pub answer_read : List ℕ → Result Coe CoeFault
answer_read body =
    if specifier_in body == 0
    then (if segment_fits body then Ok (UploadSegmentAnswer (flag_in body 16) (flag_in body 1) (record { items = segment_part body })) else Err Size)
    else if specifier_in body == 1 then Ok (SegmentAnswer (flag_in body 16))
    else if specifier_in body == 2 then upload_answer_read body
    else if specifier_in body == 3 then Ok (DownloadAnswer (number_at 2 body 3) (slice_index body 5))
    else if specifier_in body == 4 then Ok (abort_in body)
    else Err Command

-- whether an opcode is that of an information answer
abbrev pub is_information : ℕ → Bool
is_information opcode = opcode == 2 || (opcode == 4 || opcode == 6)

-- an information form
abbrev pub information_read : List ℕ → Result Coe CoeFault
information_read body =
    if opcode_in body == 1 && nat_le 8 (length body) then Ok (ListRequest (number_at 2 body 6))
    else if opcode_in body == 3 && nat_le 8 (length body) then Ok (ObjectRequest (number_at 2 body 6))
    else if opcode_in body == 5 && nat_le 10 (length body) then Ok (EntryRequest (number_at 2 body 6) (slice_index body 8) (slice_index body 9))
    else if opcode_in body == 7 && nat_le 10 (length body) then Ok (InformationError (number_at 4 body 6))
    else if is_information (opcode_in body)
    then Ok (Information (opcode_in body) (flag_in body 128) (number_at 2 body 4) (record { items = drop 6 body }))
    else Err Command

-- what a body reads as
abbrev pub coe_read : List ℕ → Result Coe CoeFault
coe_read body =
    if nat_lt (length body) 2 then Err Short
    else if service_in body == 1
    then (if nat_lt (length body) 10 then Err Short else Ok (Emergency (record { items = take 8 (drop 2 body) })))
    else if service_in body == 2 then (if nat_lt (length body) 10 then Err Short else request_read body)
    else if service_in body == 3 then (if nat_lt (length body) 10 then Err Short else answer_read body)
    else if service_in body == 8 then (if nat_lt (length body) 6 then Err Short else information_read body)
    else Err Service

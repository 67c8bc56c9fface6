use Rattle.std.proofs.Common.{◌≡◌, ◌∙◌, refl, ℕ, ◌≤◌, Bool, true, List, length, take, drop, slice_index, Ok, arith, ◌⊎◌, inl, inr}
use Rattle.std.proofs.lemmas.Bool.{le-ltb, le-leb}
use Rattle.std.proofs.lemmas.Bool.Decides.{nat_tests}
use Rattle.arrayvec.specs.ArrayVec.{ArrayVec}
use Rattle.ec_fields.specs.Fields.{number_at}
use Rattle.coe_codec.specs.Coe.{IsOf, IsSdo, IsTarget, IsExpedited, IsFirst, IsSegment, IsAbort, IsOpcode, IsCoe}
use Rattle.coe_codec.specs.Fields.{flag_in}
use Rattle.coe_codec.specs.Reading.{coe_read, request_read, answer_read, information_read, is_information}
use Rattle.coe_codec.specs.declared.message.Coe.{Coe}
use Rattle.coe_codec.specs.declared.message.Coe.TheVariants.{Emergency, Expedited, First, Upload, DownloadAnswer, ExpeditedAnswer, FirstAnswer, Segment, SegmentAnswer, UploadSegment, UploadSegmentAnswer, Abort, ListRequest, ObjectRequest, EntryRequest, Information, InformationError}

-- an SDO request is judged by its specifier
request_part : (body : List ℕ) → IsOf body 2 10 → coe_read body ≡ request_read body
request_part body form = rw (le-ltb (length body) 2 (omega (arith, form.long)), form.service_is, le-ltb (length body) 10 form.long) refl

-- and so is an SDO answer
answer_part : (body : List ℕ) → IsOf body 3 10 → coe_read body ≡ answer_read body
answer_part body form = rw (le-ltb (length body) 2 (omega (arith, form.long)), form.service_is, le-ltb (length body) 10 form.long) refl

-- an information form is judged by its opcode
information_part : (body : List ℕ) → IsOf body 8 6 → coe_read body ≡ information_read body
information_part body form = rw (le-ltb (length body) 2 (omega (arith, form.long)), form.service_is, le-ltb (length body) 6 form.long) refl

upload_only :
    (body : List ℕ) (index sub : ℕ) (all : Bool) → IsSdo body 2 2 → IsTarget body index sub → flag_in body 16 ≡ all
    → coe_read body ≡ Ok (Upload index sub all)
upload_only body index sub all is of all_is =
    request_part body is.form ∙ rw (is.specifier_is, of.index_is, of.sub_is, all_is) refl

emergency_only : (body : List ℕ) (octets : ArrayVec ℕ) → IsOf body 1 10 → take 8 (drop 2 body) ≡ octets.items → coe_read body ≡ Ok (Emergency octets)
emergency_only body octets form is =
    rw (le-ltb (length body) 2 (omega (arith, form.long)), form.service_is, le-ltb (length body) 10 form.long, is) refl

expedited_only :
    (body : List ℕ) (index sub : ℕ) (all : Bool) (bytes : ArrayVec ℕ) → IsSdo body 2 1 → IsTarget body index sub → flag_in body 16 ≡ all
    → IsExpedited body bytes.items → coe_read body ≡ Ok (Expedited index sub all bytes)
expedited_only body index sub all bytes is of all_is part =
    request_part body is.form ∙ rw (is.specifier_is, part.expedited, of.index_is, of.sub_is, all_is, part.part_is) refl

first_only :
    (body : List ℕ) (index sub : ℕ) (all : Bool) (size : ℕ) (bytes : ArrayVec ℕ) → IsSdo body 2 1 → IsTarget body index sub
    → flag_in body 16 ≡ all → IsFirst body size bytes.items → coe_read body ≡ Ok (First index sub all size bytes)
first_only body index sub all size bytes is of all_is part =
    request_part body is.form
    ∙ rw (is.specifier_is, part.normal, part.sized, part.within, of.index_is, of.sub_is, all_is, part.size_is, part.part_is) refl

download_answer_only :
    (body : List ℕ) (index sub : ℕ) → IsSdo body 3 3 → IsTarget body index sub → coe_read body ≡ Ok (DownloadAnswer index sub)
download_answer_only body index sub is of = answer_part body is.form ∙ rw (is.specifier_is, of.index_is, of.sub_is) refl

expedited_answer_only :
    (body : List ℕ) (index sub : ℕ) (bytes : ArrayVec ℕ) → IsSdo body 3 2 → IsTarget body index sub → flag_in body 1 ≡ true
    → IsExpedited body bytes.items → coe_read body ≡ Ok (ExpeditedAnswer index sub bytes)
expedited_answer_only body index sub bytes is of sized part =
    answer_part body is.form ∙ rw (is.specifier_is, sized, part.expedited, of.index_is, of.sub_is, ← part.part_is, sized) refl

first_answer_only :
    (body : List ℕ) (index sub size : ℕ) (bytes : ArrayVec ℕ) → IsSdo body 3 2 → IsTarget body index sub → IsFirst body size bytes.items
    → coe_read body ≡ Ok (FirstAnswer index sub size bytes)
first_answer_only body index sub size bytes is of part =
    answer_part body is.form
    ∙ rw (is.specifier_is, part.sized, part.normal, part.within, of.index_is, of.sub_is, part.size_is, part.part_is) refl

segment_only :
    (body : List ℕ) (toggle last : Bool) (bytes : ArrayVec ℕ) → IsSdo body 2 0 → IsSegment body toggle last bytes.items
    → coe_read body ≡ Ok (Segment toggle last bytes)
segment_only body toggle last bytes is part =
    request_part body is.form ∙ rw (is.specifier_is, part.fits, part.toggle_is, part.last_is, part.part_is) refl

segment_answer_only : (body : List ℕ) (toggle : Bool) → IsSdo body 3 1 → flag_in body 16 ≡ toggle → coe_read body ≡ Ok (SegmentAnswer toggle)
segment_answer_only body toggle is toggle_is = answer_part body is.form ∙ rw (is.specifier_is, toggle_is) refl

upload_segment_only : (body : List ℕ) (toggle : Bool) → IsSdo body 2 3 → flag_in body 16 ≡ toggle → coe_read body ≡ Ok (UploadSegment toggle)
upload_segment_only body toggle is toggle_is = request_part body is.form ∙ rw (is.specifier_is, toggle_is) refl

upload_segment_answer_only :
    (body : List ℕ) (toggle last : Bool) (bytes : ArrayVec ℕ) → IsSdo body 3 0 → IsSegment body toggle last bytes.items
    → coe_read body ≡ Ok (UploadSegmentAnswer toggle last bytes)
upload_segment_answer_only body toggle last bytes is part =
    answer_part body is.form ∙ rw (is.specifier_is, part.fits, part.toggle_is, part.last_is, part.part_is) refl

abort_only :
    (body : List ℕ) (index sub code : ℕ) → IsAbort body 2 index sub code ⊎ IsAbort body 3 index sub code
    → coe_read body ≡ Ok (Abort index sub code)
abort_only body index sub code (inl is) =
    request_part body is.0.form ∙ rw (is.0.specifier_is, is.1.index_is, is.1.sub_is, is.2) refl
abort_only body index sub code (inr is) =
    answer_part body is.0.form ∙ rw (is.0.specifier_is, is.1.index_is, is.1.sub_is, is.2) refl

-- an information form of more octets is one of the least
least_form : (body : List ℕ) (opcode least : ℕ) → 6 ≤ least → IsOpcode body opcode least → IsOf body 8 6
least_form body opcode least more is = record { long = omega (arith, is.form.long, more); service_is = is.form.service_is }

list_only : (body : List ℕ) (kind : ℕ) → IsOpcode body 1 8 → number_at 2 body 6 ≡ kind → coe_read body ≡ Ok (ListRequest kind)
list_only body kind is kind_is =
    information_part body (least_form body 1 8 (omega arith) is) ∙ rw (is.opcode_is, le-leb 8 (length body) is.form.long, kind_is) refl

object_only : (body : List ℕ) (index : ℕ) → IsOpcode body 3 8 → number_at 2 body 6 ≡ index → coe_read body ≡ Ok (ObjectRequest index)
object_only body index is index_is =
    information_part body (least_form body 3 8 (omega arith) is) ∙ rw (is.opcode_is, le-leb 8 (length body) is.form.long, index_is) refl

entry_only :
    (body : List ℕ) (index sub info : ℕ) → IsOpcode body 5 10 → number_at 2 body 6 ≡ index → slice_index body 8 ≡ sub
    → slice_index body 9 ≡ info → coe_read body ≡ Ok (EntryRequest index sub info)
entry_only body index sub info is index_is sub_is info_is =
    information_part body (least_form body 5 10 (omega arith) is)
    ∙ rw (is.opcode_is, le-leb 10 (length body) is.form.long, index_is, sub_is, info_is) refl

error_only : (body : List ℕ) (code : ℕ) → IsOpcode body 7 10 → number_at 4 body 6 ≡ code → coe_read body ≡ Ok (InformationError code)
error_only body code is code_is =
    information_part body (least_form body 7 10 (omega arith) is) ∙ rw (is.opcode_is, le-leb 10 (length body) is.form.long, code_is) refl

-- the opcodes of information answers
information_cases : (opcode : ℕ) → is_information opcode ≡ true → (opcode ≡ 2) ⊎ ((opcode ≡ 4) ⊎ (opcode ≡ 6))
information_cases opcode is = grind (arith, nat_tests)

part_only :
    (body : List ℕ) (opcode : ℕ) (incomplete : Bool) (left : ℕ) (bytes : ArrayVec ℕ) → (opcode ≡ 2) ⊎ ((opcode ≡ 4) ⊎ (opcode ≡ 6))
    → IsOpcode body opcode 6 → flag_in body 128 ≡ incomplete → number_at 2 body 4 ≡ left → drop 6 body ≡ bytes.items
    → coe_read body ≡ Ok (Information opcode incomplete left bytes)
part_only body opcode incomplete left bytes (inl two) is incomplete_is left_is part_is =
    information_part body is.form ∙ rw (is.opcode_is, two, incomplete_is, left_is, part_is) refl
part_only body opcode incomplete left bytes (inr (inl four)) is incomplete_is left_is part_is =
    information_part body is.form ∙ rw (is.opcode_is, four, incomplete_is, left_is, part_is) refl
part_only body opcode incomplete left bytes (inr (inr six)) is incomplete_is left_is part_is =
    information_part body is.form ∙ rw (is.opcode_is, six, incomplete_is, left_is, part_is) refl

-- a body reads as the message that its fields are
pub read-only : (body : List ℕ) (message : Coe) → IsCoe body message → coe_read body ≡ Ok message
read-only body (Emergency octets) is = emergency_only body octets is.0 is.1
read-only body (Expedited index sub all bytes) is = expedited_only body index sub all bytes is.0 is.1 is.2 is.3
read-only body (First index sub all size bytes) is = first_only body index sub all size bytes is.0 is.1 is.2 is.3
read-only body (Upload index sub all) is = upload_only body index sub all is.0 is.1 is.2
read-only body (DownloadAnswer index sub) is = download_answer_only body index sub is.0 is.1
read-only body (ExpeditedAnswer index sub bytes) is = expedited_answer_only body index sub bytes is.0 is.1 is.2 is.3
read-only body (FirstAnswer index sub size bytes) is = first_answer_only body index sub size bytes is.0 is.1 is.2
read-only body (Segment toggle last bytes) is = segment_only body toggle last bytes is.0 is.1
read-only body (SegmentAnswer toggle) is = segment_answer_only body toggle is.0 is.1
read-only body (UploadSegment toggle) is = upload_segment_only body toggle is.0 is.1
read-only body (UploadSegmentAnswer toggle last bytes) is = upload_segment_answer_only body toggle last bytes is.0 is.1
read-only body (Abort index sub code) is = abort_only body index sub code is
read-only body (ListRequest kind) is = list_only body kind is.0 is.1
read-only body (ObjectRequest index) is = object_only body index is.0 is.1
read-only body (EntryRequest index sub info) is = entry_only body index sub info is.0 is.1 is.2 is.3
read-only body (Information opcode incomplete left bytes) is =
    part_only body opcode incomplete left bytes (information_cases opcode is.1) is.0 is.2 is.3 is.4
read-only body (InformationError code) is = error_only body code is.0 is.1

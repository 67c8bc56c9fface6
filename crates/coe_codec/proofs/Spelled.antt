use Rattle.std.proofs.Common.{◌≡◌, ◌∙◌, ap, sym, refl, ℕ, ◌+◌, ◌-◌, ◌*◌, ◌/◌, ◌%◌, ◌<◌, ◌≤◌, Bool, true, false, not, ◌&&◌, ◌||◌, ◌==◌, nat_le, List, [], ◌∷◌, ◌++◌, length, take, replicate, arith, inl, length-append}
use Rattle.std.proofs.lemmas.Bool.{le-leb}
use Rattle.std.proofs.lemmas.Bool.Decides.{nat_tests}
use Rattle.std.proofs.lemmas.List.{append-nil, length-replicate}
use Rattle.std.proofs.Math.Seq.{take-append_seam}
use Rattle.byteorder.specs.Endian.{little_bytes}
use Rattle.arrayvec.specs.ArrayVec.{ArrayVec}
use Rattle.ec_fields.specs.Fields.{number_at}
use Rattle.ec_fields.proofs.Cells.{two_read, four_read}
use Rattle.coe_codec.specs.Coe.{IsSdo, IsTarget, IsFirst, IsSegment, IsCoe}
use Rattle.coe_codec.specs.Fields.{unused_in, bit}
use Rattle.coe_codec.specs.Reading.{is_information}
use Rattle.coe_codec.specs.Writing.{HasSpelling, IsRanged, IsFew, coe_text, target, command_of_segment}
use Rattle.coe_codec.specs.declared.message.Coe.{Coe}
use Rattle.coe_codec.specs.declared.message.Coe.TheVariants.{Emergency, Expedited, First, Upload, DownloadAnswer, ExpeditedAnswer, FirstAnswer, Segment, SegmentAnswer, UploadSegment, UploadSegmentAnswer, Abort, ListRequest, ObjectRequest, EntryRequest, Information, InformationError}

-- a flag as a number is 0 or 1
bit_small : (b : Bool) → bit b ≤ 1
bit_small true = omega arith
bit_small false = omega arith

-- the test of a flag's number is the flag
bit_test : (b : Bool) (n : ℕ) → n ≡ bit b → (n == 1) ≡ b
bit_test true n e = rw e refl
bit_test false n e = rw e refl

-- an SDO form without a part, by its command
sdo_form :
    (service command specifier index sub : ℕ) (rest : List ℕ) → 4 ≤ length rest → 16 * service / 16 ≡ service → command / 32 ≡ specifier
    → IsSdo (target service command index sub ++ rest) service specifier
sdo_form service command specifier index sub rest long service_is specifier_is =
    record { form = record { long = omega arith; service_is = service_is }; specifier_is = specifier_is }

sdo_target :
    (service command index sub : ℕ) (rest : List ℕ) → index < 65536 → IsTarget (target service command index sub ++ rest) index sub
sdo_target service command index sub rest small = record { index_is = two_read index small; sub_is = refl }

emergency_spelled : (octets : ArrayVec ℕ) → length octets.items ≡ 8 → IsCoe (coe_text (Emergency octets)) (Emergency octets)
emergency_spelled octets eight = (
  record { long = omega (arith, eight, length-append octets.items []); service_is = refl },
  ap (λ n. take n (octets.items ++ [])) (sym eight) ∙ take-append_seam octets.items [],
)

upload_spelled : (index sub : ℕ) (all : Bool) → index < 65536 → IsCoe (coe_text (Upload index sub all)) (Upload index sub all)
upload_spelled index sub true small = (sdo_form 2 80 2 index sub (replicate 4 0) (omega arith) refl refl, sdo_target 2 80 index sub (replicate 4 0) small, refl)
upload_spelled index sub false small = (sdo_form 2 64 2 index sub (replicate 4 0) (omega arith) refl refl, sdo_target 2 64 index sub (replicate 4 0) small, refl)

download_answer_spelled : (index sub : ℕ) → index < 65536 → IsCoe (coe_text (DownloadAnswer index sub)) (DownloadAnswer index sub)
download_answer_spelled index sub small =
    (sdo_form 3 96 3 index sub (replicate 4 0) (omega arith) refl refl, sdo_target 3 96 index sub (replicate 4 0) small)

abort_spelled :
    (index sub code : ℕ) → index < 65536 → code < 4294967296 → IsCoe (coe_text (Abort index sub code)) (Abort index sub code)
abort_spelled index sub code small fits =
    inl (sdo_form 2 128 4 index sub (little_bytes 4 code) (omega arith) refl refl, sdo_target 2 128 index sub (little_bytes 4 code) small, four_read code fits)

-- a list of more than four octets is no expedited value
too_many : (a b c d e : ℕ) (rest : List ℕ) → length (a ∷ b ∷ c ∷ d ∷ e ∷ rest) ≤ 4 → ⊥
too_many a b c d e rest few = omega arith

expedited_spelled :
    (index sub : ℕ) (all : Bool) (part : List ℕ) → 1 ≤ length part → length part ≤ 4 → index < 65536
    → IsCoe (coe_text (Expedited index sub all (record { items = part }))) (Expedited index sub all (record { items = part }))
expedited_spelled index sub all [] some few small = absurd (omega (arith, some))
expedited_spelled index sub true (a ∷ []) some few small = (
  sdo_form 2 63 1 index sub (a ∷ 0 ∷ 0 ∷ 0 ∷ []) (omega arith) refl refl,
  sdo_target 2 63 index sub (a ∷ 0 ∷ 0 ∷ 0 ∷ []) small,
  refl,
  record { expedited = refl; part_is = refl },
)
expedited_spelled index sub true (a ∷ b ∷ []) some few small = (
  sdo_form 2 59 1 index sub (a ∷ b ∷ 0 ∷ 0 ∷ []) (omega arith) refl refl,
  sdo_target 2 59 index sub (a ∷ b ∷ 0 ∷ 0 ∷ []) small,
  refl,
  record { expedited = refl; part_is = refl },
)
expedited_spelled index sub true (a ∷ b ∷ c ∷ []) some few small = (
  sdo_form 2 55 1 index sub (a ∷ b ∷ c ∷ 0 ∷ []) (omega arith) refl refl,
  sdo_target 2 55 index sub (a ∷ b ∷ c ∷ 0 ∷ []) small,
  refl,
  record { expedited = refl; part_is = refl },
)
expedited_spelled index sub true (a ∷ b ∷ c ∷ d ∷ []) some few small = (
  sdo_form 2 51 1 index sub (a ∷ b ∷ c ∷ d ∷ []) (omega arith) refl refl,
  sdo_target 2 51 index sub (a ∷ b ∷ c ∷ d ∷ []) small,
  refl,
  record { expedited = refl; part_is = refl },
)
expedited_spelled index sub false (a ∷ []) some few small = (
  sdo_form 2 47 1 index sub (a ∷ 0 ∷ 0 ∷ 0 ∷ []) (omega arith) refl refl,
  sdo_target 2 47 index sub (a ∷ 0 ∷ 0 ∷ 0 ∷ []) small,
  refl,
  record { expedited = refl; part_is = refl },
)
expedited_spelled index sub false (a ∷ b ∷ []) some few small = (
  sdo_form 2 43 1 index sub (a ∷ b ∷ 0 ∷ 0 ∷ []) (omega arith) refl refl,
  sdo_target 2 43 index sub (a ∷ b ∷ 0 ∷ 0 ∷ []) small,
  refl,
  record { expedited = refl; part_is = refl },
)
expedited_spelled index sub false (a ∷ b ∷ c ∷ []) some few small = (
  sdo_form 2 39 1 index sub (a ∷ b ∷ c ∷ 0 ∷ []) (omega arith) refl refl,
  sdo_target 2 39 index sub (a ∷ b ∷ c ∷ 0 ∷ []) small,
  refl,
  record { expedited = refl; part_is = refl },
)
expedited_spelled index sub false (a ∷ b ∷ c ∷ d ∷ []) some few small = (
  sdo_form 2 35 1 index sub (a ∷ b ∷ c ∷ d ∷ []) (omega arith) refl refl,
  sdo_target 2 35 index sub (a ∷ b ∷ c ∷ d ∷ []) small,
  refl,
  record { expedited = refl; part_is = refl },
)
expedited_spelled index sub all (a ∷ b ∷ c ∷ d ∷ e ∷ rest) some few small = absurd (too_many a b c d e rest few)

expedited_answer_spelled :
    (index sub : ℕ) (part : List ℕ) → 1 ≤ length part → length part ≤ 4 → index < 65536
    → IsCoe (coe_text (ExpeditedAnswer index sub (record { items = part }))) (ExpeditedAnswer index sub (record { items = part }))
expedited_answer_spelled index sub [] some few small = absurd (omega (arith, some))
expedited_answer_spelled index sub (a ∷ []) some few small = (
  sdo_form 3 79 2 index sub (a ∷ 0 ∷ 0 ∷ 0 ∷ []) (omega arith) refl refl,
  sdo_target 3 79 index sub (a ∷ 0 ∷ 0 ∷ 0 ∷ []) small,
  refl,
  record { expedited = refl; part_is = refl },
)
expedited_answer_spelled index sub (a ∷ b ∷ []) some few small = (
  sdo_form 3 75 2 index sub (a ∷ b ∷ 0 ∷ 0 ∷ []) (omega arith) refl refl,
  sdo_target 3 75 index sub (a ∷ b ∷ 0 ∷ 0 ∷ []) small,
  refl,
  record { expedited = refl; part_is = refl },
)
expedited_answer_spelled index sub (a ∷ b ∷ c ∷ []) some few small = (
  sdo_form 3 71 2 index sub (a ∷ b ∷ c ∷ 0 ∷ []) (omega arith) refl refl,
  sdo_target 3 71 index sub (a ∷ b ∷ c ∷ 0 ∷ []) small,
  refl,
  record { expedited = refl; part_is = refl },
)
expedited_answer_spelled index sub (a ∷ b ∷ c ∷ d ∷ []) some few small = (
  sdo_form 3 67 2 index sub (a ∷ b ∷ c ∷ d ∷ []) (omega arith) refl refl,
  sdo_target 3 67 index sub (a ∷ b ∷ c ∷ d ∷ []) small,
  refl,
  record { expedited = refl; part_is = refl },
)
expedited_answer_spelled index sub (a ∷ b ∷ c ∷ d ∷ e ∷ rest) some few small = absurd (too_many a b c d e rest few)

-- a normal form's size and part, where the part is within the size
first_form :
    (service command index sub size : ℕ) (part : List ℕ) → size < 4294967296 → length part ≤ size → command / 2 % 2 ≡ 0 → command / 1 % 2 ≡ 1
    → IsFirst ((target service command index sub ++ little_bytes 4 size) ++ (part ++ [])) size part
first_form service command index sub size part fits within normal sized =
    let len : length (part ++ []) ≡ length part = ap length (append-nil part) in
    record {
      normal = rw normal refl;
      sized = rw sized refl;
      size_is = four_read size fits;
      part_is = append-nil part;
      within = le-leb _ _ (let read : number_at 4 (little_bytes 4 size) 0 ≡ size = four_read size fits in omega (arith, read, len, within));
    }

first_spelled :
    (index sub : ℕ) (all : Bool) (size : ℕ) (bytes : ArrayVec ℕ) → length bytes.items ≤ size → index < 65536 → size < 4294967296
    → IsCoe (coe_text (First index sub all size bytes)) (First index sub all size bytes)
first_spelled index sub true size bytes within small fits = (
  sdo_form 2 49 1 index sub (little_bytes 4 size ++ (bytes.items ++ [])) (omega arith) refl refl,
  sdo_target 2 49 index sub (little_bytes 4 size ++ (bytes.items ++ [])) small,
  refl,
  first_form 2 49 index sub size bytes.items fits within refl refl,
)
first_spelled index sub false size bytes within small fits = (
  sdo_form 2 33 1 index sub (little_bytes 4 size ++ (bytes.items ++ [])) (omega arith) refl refl,
  sdo_target 2 33 index sub (little_bytes 4 size ++ (bytes.items ++ [])) small,
  refl,
  first_form 2 33 index sub size bytes.items fits within refl refl,
)

first_answer_spelled :
    (index sub size : ℕ) (bytes : ArrayVec ℕ) → length bytes.items ≤ size → index < 65536 → size < 4294967296
    → IsCoe (coe_text (FirstAnswer index sub size bytes)) (FirstAnswer index sub size bytes)
first_answer_spelled index sub size bytes within small fits = (
  sdo_form 3 65 2 index sub (little_bytes 4 size ++ (bytes.items ++ [])) (omega arith) refl refl,
  sdo_target 3 65 index sub (little_bytes 4 size ++ (bytes.items ++ [])) small,
  first_form 3 65 index sub size bytes.items fits within refl refl,
)

-- the unused count of a written segment
segment_ok :
    (unused n len : ℕ) → 1 ≤ len → unused ≡ 7 - len → n ≡ 3 + (len + (7 - len))
    → (not (unused == 7) && (nat_le n 10 || unused == 0)) ≡ true
segment_ok unused n len some is whole = grind (arith, nat_tests)

-- a segment's flags, unused count and octets
segment_form :
    (service : ℕ) (toggle last : Bool) (part : List ℕ) → 1 ≤ length part
    → IsSegment (0 ∷ 16 * service ∷ command_of_segment toggle last part ∷ (part ++ replicate (7 - length part) 0)) toggle last part
segment_form service toggle last part some =
    let body : List ℕ = 0 ∷ 16 * service ∷ command_of_segment toggle last part ∷ (part ++ replicate (7 - length part) 0) in
    let t : bit toggle ≤ 1 = bit_small toggle in
    let l : bit last ≤ 1 = bit_small last in
    let whole : length body ≡ 3 + (length part + (7 - length part)) =
    omega (arith, length-append part (replicate (7 - length part) 0), length-replicate {A = ℕ} (7 - length part) 0) in
    let unused : unused_in body ≡ 7 - length part = omega (arith, t, l, some) in
    record {
      toggle_is = bit_test toggle _ (omega (arith, t, l, some));
      last_is = bit_test last _ (omega (arith, t, l, some));
      part_is =
          (let n : length body - 3 - unused_in body ≡ length part = omega (arith, whole, unused) in
          ap (λ k. take k (part ++ replicate (7 - length part) 0)) n ∙ take-append_seam part (replicate (7 - length part) 0));
      fits = segment_ok (unused_in body) (length body) (length part) some unused whole;
    }

segment_sdo :
    (service command : ℕ) (part : List ℕ) → command < 32 → 16 * service / 16 ≡ service
    → IsSdo (0 ∷ 16 * service ∷ command ∷ (part ++ replicate (7 - length part) 0)) service 0
segment_sdo service command part small service_is =
    record {
      form =
          record {
            long = omega (arith, length-append part (replicate (7 - length part) 0), length-replicate {A = ℕ} (7 - length part) 0);
            service_is = service_is;
          };
      specifier_is = omega (arith, small);
    }

segment_command_small : (toggle last : Bool) (part : List ℕ) → 1 ≤ length part → command_of_segment toggle last part < 32
segment_command_small toggle last part some = omega (arith, bit_small toggle, bit_small last, some)

segment_spelled : (toggle last : Bool) (bytes : ArrayVec ℕ) → 1 ≤ length bytes.items → IsCoe (coe_text (Segment toggle last bytes)) (Segment toggle last bytes)
segment_spelled toggle last bytes some = (
  segment_sdo 2 (command_of_segment toggle last bytes.items) bytes.items (segment_command_small toggle last bytes.items some) refl,
  segment_form 2 toggle last bytes.items some,
)

upload_segment_answer_spelled :
    (toggle last : Bool) (bytes : ArrayVec ℕ) → 1 ≤ length bytes.items
    → IsCoe (coe_text (UploadSegmentAnswer toggle last bytes)) (UploadSegmentAnswer toggle last bytes)
upload_segment_answer_spelled toggle last bytes some = (
  segment_sdo 3 (command_of_segment toggle last bytes.items) bytes.items (segment_command_small toggle last bytes.items some) refl,
  segment_form 3 toggle last bytes.items some,
)

segment_answer_spelled : (toggle : Bool) → IsCoe (coe_text (SegmentAnswer toggle)) (SegmentAnswer toggle)
segment_answer_spelled true = (record { form = record { long = omega arith; service_is = refl }; specifier_is = refl }, refl)
segment_answer_spelled false = (record { form = record { long = omega arith; service_is = refl }; specifier_is = refl }, refl)

upload_segment_spelled : (toggle : Bool) → IsCoe (coe_text (UploadSegment toggle)) (UploadSegment toggle)
upload_segment_spelled true = (record { form = record { long = omega arith; service_is = refl }; specifier_is = refl }, refl)
upload_segment_spelled false = (record { form = record { long = omega arith; service_is = refl }; specifier_is = refl }, refl)

list_spelled : (kind : ℕ) → kind < 65536 → IsCoe (coe_text (ListRequest kind)) (ListRequest kind)
list_spelled kind small = (record { form = record { long = omega arith; service_is = refl }; opcode_is = refl }, two_read kind small)

object_spelled : (index : ℕ) → index < 65536 → IsCoe (coe_text (ObjectRequest index)) (ObjectRequest index)
object_spelled index small = (record { form = record { long = omega arith; service_is = refl }; opcode_is = refl }, two_read index small)

entry_spelled : (index sub info : ℕ) → index < 65536 → IsCoe (coe_text (EntryRequest index sub info)) (EntryRequest index sub info)
entry_spelled index sub info small =
    (record { form = record { long = omega arith; service_is = refl }; opcode_is = refl }, two_read index small, refl, refl)

error_spelled : (code : ℕ) → code < 4294967296 → IsCoe (coe_text (InformationError code)) (InformationError code)
error_spelled code small = (record { form = record { long = omega arith; service_is = refl }; opcode_is = refl }, four_read code small)

-- the opcodes of information answers fit beside the mark of more parts
opcode_small : (opcode : ℕ) → is_information opcode ≡ true → opcode < 128
opcode_small opcode is = grind (arith, nat_tests)

information_spelled :
    (opcode : ℕ) (incomplete : Bool) (left : ℕ) (bytes : ArrayVec ℕ) → is_information opcode ≡ true → left < 65536
    → IsCoe (coe_text (Information opcode incomplete left bytes)) (Information opcode incomplete left bytes)
information_spelled opcode incomplete left bytes is small =
    let fits : opcode < 128 = opcode_small opcode is in
    let mark : bit incomplete ≤ 1 = bit_small incomplete in (
      record { form = record { long = omega arith; service_is = refl }; opcode_is = omega (arith, fits, mark) },
      is,
      bit_test incomplete _ (omega (arith, fits, mark)),
      two_read left small,
      append-nil bytes.items,
    )

-- what is written is a spelling of its message
pub write-spelled : (message : Coe) → HasSpelling message → IsRanged message → IsFew message → IsCoe (coe_text message) message
write-spelled (Emergency octets) fits ranged few = emergency_spelled octets fits
write-spelled (Expedited index sub all bytes) fits ranged few = expedited_spelled index sub all bytes.items fits few ranged
write-spelled (First index sub all size bytes) fits ranged few = first_spelled index sub all size bytes fits ranged.0 ranged.1
write-spelled (Upload index sub all) fits ranged few = upload_spelled index sub all ranged
write-spelled (DownloadAnswer index sub) fits ranged few = download_answer_spelled index sub ranged
write-spelled (ExpeditedAnswer index sub bytes) fits ranged few = expedited_answer_spelled index sub bytes.items fits few ranged
write-spelled (FirstAnswer index sub size bytes) fits ranged few = first_answer_spelled index sub size bytes fits ranged.0 ranged.1
write-spelled (Segment toggle last bytes) fits ranged few = segment_spelled toggle last bytes fits
write-spelled (SegmentAnswer toggle) fits ranged few = segment_answer_spelled toggle
write-spelled (UploadSegment toggle) fits ranged few = upload_segment_spelled toggle
write-spelled (UploadSegmentAnswer toggle last bytes) fits ranged few = upload_segment_answer_spelled toggle last bytes fits
write-spelled (Abort index sub code) fits ranged few = abort_spelled index sub code ranged.0 ranged.1
write-spelled (ListRequest kind) fits ranged few = list_spelled kind ranged
write-spelled (ObjectRequest index) fits ranged few = object_spelled index ranged
write-spelled (EntryRequest index sub info) fits ranged few = entry_spelled index sub info ranged
write-spelled (Information opcode incomplete left bytes) fits ranged few = information_spelled opcode incomplete left bytes fits ranged
write-spelled (InformationError code) fits ranged few = error_spelled code ranged

-- One entry: what it may hold, and why it refuses a value.
use Rattle.std.specs.Prelude.{◌≡◌, ℕ, ◌+◌, ◌==◌, ◌&&◌, ◌||◌, nat_lt, nat_le, Bool, false, List, [], length, if◌then◌else◌, Option, None, Some, Result, Ok, Err, ℤ, pos, int_lt}
use Rattle.byteorder.specs.Endian.{little_number, twos_complement}
use Rattle.ec_fields.specs.Fields.{bits_of}
use Rattle.object_dictionary.specs.declared.entry.EntrySpec.{EntrySpec}
use Rattle.object_dictionary.specs.declared.refusals.TheConstants.{NOT_READABLE, NOT_WRITABLE, NOT_IN_STATE, TOO_LONG, TOO_SHORT, ABOVE_MAXIMUM, BELOW_MINIMUM}

-- VISIBLE_STRING and OCTET_STRING
abbrev pub is_text : ℕ → Bool
is_text kind = kind == 9 || kind == 10

-- INTEGER8, 16, 32 and 64
abbrev pub is_signed : ℕ → Bool
is_signed kind = kind == 2 || kind == 3 || kind == 4 || kind == 21

-- the octets of a value of a numeric type
abbrev pub size_of_kind : ℕ → ℕ
size_of_kind kind =
    if kind == 21 || kind == 27 then 8
    else if kind == 4 || kind == 7 then 4
    else if kind == 3 || kind == 6 then 2
    else 1

-- the number that octets of a numeric type stand for
abbrev pub number_in : ℕ → List ℕ → ℤ
number_in kind bytes = if is_signed kind then twos_complement (length bytes) (little_number (length bytes) bytes) else pos (little_number (length bytes) bytes)

-- whether a number is above its greatest, where there is one
abbrev pub exceeds : ℤ → Option ℤ → Bool
exceeds number None = false
exceeds number (Some most) = int_lt most number

-- whether a number is below its least, where there is one
abbrev pub falls_below : ℤ → Option ℤ → Bool
falls_below number None = false
falls_below number (Some least) = int_lt number least

-- a BOOLEAN is 0 or 1
abbrev pub number_refusal : ℕ → Option ℤ → Option ℤ → ℤ → Option ℕ
number_refusal kind min max number =
    if exceeds number max || (kind == 1 && int_lt (pos 1) number) then Some ABOVE_MAXIMUM
    else if falls_below number min then Some BELOW_MINIMUM
    else None

-- why bounds refuse a value that has its size: strings have no bounds
abbrev pub value_refusal : ℕ → Option ℤ → Option ℤ → List ℕ → Option ℕ
value_refusal kind min max bytes = if is_text kind then None else number_refusal kind min max (number_in kind bytes)

-- why an entry's bounds refuse a value
abbrev pub bound_refusal : EntrySpec → List ℕ → Option ℕ
bound_refusal e bytes = value_refusal e.kind e.min e.max bytes

-- the bit of a state among the three of an access field: PreOp, SafeOp, Op
abbrev pub state_bit : ℕ → ℕ
state_bit al = if al == 2 then 0 else if al == 4 then 1 else 2

-- why an entry is not read: in no state, or not in this one
abbrev pub read_refusal : ℕ → EntrySpec → Option ℕ
read_refusal al e =
    if bits_of e.access 0 3 == 0 then Some NOT_READABLE
    else if bits_of e.access (state_bit al) 1 == 0 then Some NOT_IN_STATE
    else None

-- why an entry is not written: in no state, or not in this one
abbrev pub write_refusal : ℕ → EntrySpec → Option ℕ
write_refusal al e =
    if bits_of e.access 3 3 == 0 then Some NOT_WRITABLE
    else if bits_of e.access (3 + state_bit al) 1 == 0 then Some NOT_IN_STATE
    else None

-- a value of this size where one of `least` to `most` octets is wanted
abbrev pub size_refusal : ℕ → ℕ → ℕ → Option ℕ
size_refusal least most size = if nat_lt most size then Some TOO_LONG else if nat_lt size least then Some TOO_SHORT else None

-- the earlier refusal of two
abbrev pub or_else : Option ℕ → Option ℕ → Option ℕ
or_else None later = later
or_else (Some code) later = Some code

-- what is refused, or done
abbrev pub unless : {X : Type 0} → Option ℕ → X → Result X ℕ
unless None x = Ok x
unless (Some code) x = Err code

-- why an entry refuses a download by its size alone
abbrev pub check_entry : ℕ → EntrySpec → ℕ → Option ℕ
check_entry al e size = or_else (write_refusal al e) (size_refusal e.least e.most size)

-- an entry with another value
abbrev pub with_value : EntrySpec → List ℕ → EntrySpec
with_value e bytes = record { kind = e.kind; access = e.access; least = e.least; most = e.most; min = e.min; max = e.max; name = e.name; value = bytes }

-- an entry behind a download: the size is looked at first, then the value
abbrev pub download_entry : ℕ → EntrySpec → List ℕ → Result EntrySpec ℕ
download_entry al e bytes = unless (or_else (check_entry al e (length bytes)) (bound_refusal e bytes)) (with_value e bytes)

-- the value of an entry
abbrev pub upload_entry : ℕ → EntrySpec → Result (List ℕ) ℕ
upload_entry al e = unless (read_refusal al e) e.value

-- Which entries a dictionary may have: a numeric type has its one size, a value 1 octet or more, and it is within the sizes.
abbrev pub is_entry : EntrySpec → Bool
is_entry e =
    (is_text e.kind || e.most == size_of_kind e.kind) && nat_le 1 e.least && nat_le e.least e.most && nat_le e.most 8000
    && nat_le e.least (length e.value) && nat_le (length e.value) e.most && nat_le (length e.name) 40

-- ---- what calls answer

-- a table after a download, by the abort code that the call answers
abbrev pub Stores : {S : Type 0} → Result S ℕ → Option ℕ → S → S → Type 0
Stores download None old new = download ≡ Ok new
Stores download (Some code) old new = (download ≡ Err code) × (new ≡ old)

-- a value that is read, by the abort code that the call answers
abbrev pub Reads : Result (List ℕ) ℕ → Option ℕ → List ℕ → Type 0
Reads value None octets = value ≡ Ok octets
Reads value (Some code) octets = (value ≡ Err code) × (octets ≡ [])

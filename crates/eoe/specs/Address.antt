-- The address block of EoE (ETG.1000.6, "EoE set IP parameter").
use Rattle.std.specs.Prelude.{◌≡◌, ◌≤◌, ℕ, ◌+◌, ◌-◌, ◌^◌, ◌==◌, ◌&&◌, Bool, false, nat_le, if◌then◌else◌, List, [], ◌∷◌, length, take, slice_index, Option, None, Some}

-- the octets of the fields in the order of their flags: MAC address, IP address, subnet mask, default gateway, DNS server, DNS name
abbrev pub field_sizes : List ℕ
field_sizes = 6 ∷ 4 ∷ 4 ∷ 4 ∷ 4 ∷ 32 ∷ []

-- how many octets these fields have in all
abbrev pub total : List ℕ → ℕ
total [] = 0
total (size ∷ sizes) = size + total sizes

-- an address block: the flags of the first fields, which are the lowest bits, three zeros, and these fields
pub record IsBlock (octets : List ℕ) : Type 0 where
  pub count : ℕ
  pub fields : List ℕ
  pub most : count ≤ 6
  pub text : octets ≡ (2 ^ count - 1) ∷ 0 ∷ 0 ∷ 0 ∷ fields
  pub size : total (take count field_sizes) ≡ length fields

-- the octets of the fields that these flags name
abbrev pub fields_size : ℕ → Option ℕ
fields_size flags =
    if flags == 0x00 then Some 0
    else if flags == 0x01 then Some 6
    else if flags == 0x03 then Some 10
    else if flags == 0x07 then Some 14
    else if flags == 0x0F then Some 18
    else if flags == 0x1F then Some 22
    else if flags == 0x3F then Some 54
    else None

-- whether flags that name fields of this size stand before as many octets; other flags stand before none
abbrev pub is_size : Option ℕ → ℕ → Bool
is_size None size = false
is_size (Some wanted) size = wanted == size

-- whether octets are an address block, by the octets in their places
abbrev pub is_block : List ℕ → Bool
is_block octets =
    nat_le 4 (length octets) && slice_index octets 1 == 0 && slice_index octets 2 == 0 && slice_index octets 3 == 0
    && is_size (fields_size (slice_index octets 0)) (length octets - 4)

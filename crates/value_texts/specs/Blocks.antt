-- Address blocks of EoE (ETG.1000.6, "EoE set IP parameter").
use Rattle.std.specs.Prelude.{ℕ, ◌+◌, ◌==◌, nat_lt, not, List, [], ◌++◌, length, take, drop, slice_index, position, codes, Option, Some, None, if◌then◌else◌}
use Rattle.std.specs.Fmt.{decimal}
use Rattle.reply_text.specs.Reply.{hex_of}
use Rattle.eoe.specs.Address.{is_block}
use Rattle.value_texts.specs.Texts.{quoted, octets_text}

-- a MAC address at a place
unfoldable pub mac_text : List ℕ → ℕ → List ℕ
mac_text octets at =
    hex_of 2 (slice_index octets at) ++ (codes ":" ++ (hex_of 2 (slice_index octets (at + 1)) ++ (codes ":" ++ (hex_of 2 (slice_index octets (at + 2))
    ++ (codes ":" ++ (hex_of 2 (slice_index octets (at + 3)) ++ (codes ":" ++ (hex_of 2 (slice_index octets (at + 4)) ++ (codes ":" ++ hex_of 2 (slice_index octets (at + 5)))))))))))

-- an IP address at a place, whose last octet stands first
unfoldable pub address_text : List ℕ → ℕ → List ℕ
address_text octets at =
    decimal (slice_index octets (at + 3)) ++ (codes "." ++ (decimal (slice_index octets (at + 2)) ++ (codes "." ++ (decimal (slice_index octets (at + 1))
    ++ (codes "." ++ decimal (slice_index octets at))))))

-- an IP address behind its word, where the block goes so far
unfoldable pub address_at : List ℕ → List ℕ → ℕ → List ℕ
address_at word octets at = if nat_lt (length octets) (at + 4) then [] else word ++ address_text octets at

-- octets up to a place, where there is one
abbrev pub up_to : Option ℕ → List ℕ → List ℕ
up_to (Some end) octets = take end octets
up_to None octets = octets

-- the octets of a name, up to the first that is 0
unfoldable pub name_of : List ℕ → List ℕ
name_of octets = up_to (position (λ octet. octet == 0) octets) octets

-- the DNS name, where the block has one
unfoldable pub name_at : List ℕ → List ℕ
name_at octets = if nat_lt 26 (length octets) then codes ", name " ++ quoted (name_of (drop 26 octets)) else []

-- the fields of a block that has a MAC address
unfoldable pub fields_text : List ℕ → List ℕ
fields_text octets =
    codes "MAC " ++ (mac_text octets 4 ++ (address_at (codes ", IP ") octets 10 ++ (address_at (codes ", mask ") octets 14
    ++ (address_at (codes ", gateway ") octets 18 ++ (address_at (codes ", DNS ") octets 22 ++ name_at octets)))))

-- AN ADDRESS BLOCK by those fields whose flags are set, or octets that are none
unfoldable pub block_text : List ℕ → List ℕ
block_text octets =
    if not (is_block octets) then octets_text octets
    else if nat_lt (length octets) 10 then codes "no address"
    else fields_text octets

use Rattle.std.specs.Prelude.{ℕ, ◌==◌, ◌%◌, Bool, nat_lt, if◌then◌else◌, List, [], ◌∷◌, ◌++◌, length, drop, slice_index, slice_set, slice_get, position, option_map, Option, None, Some}
use Rattle.byteorder.specs.Endian.{big_number}
use Rattle.eoe_switch.specs.declared.addresses.Learned.{Learned}

-- the address at a place of a packet, as a number
abbrev pub address_at : List ℕ → ℕ → ℕ
address_at packet at = big_number 6 (drop at packet)

-- an address whose first octet is odd is that of a group
abbrev pub is_group : List ℕ → ℕ → Bool
is_group packet at = slice_index packet at % 2 == 1

-- the place of an address among those that are known
abbrev pub place_of : ℕ → List Learned → Option ℕ
place_of address learned = position (λ e. e.address == address) learned

-- the port of the entry at a place
abbrev pub port_at : List Learned → Option ℕ → Option ℕ
port_at learned None = None
port_at learned (Some at) = option_map (λ (e : Learned). e.port) (slice_get learned at)

-- the port of an address
abbrev pub port_of : ℕ → List Learned → Option ℕ
port_of address learned = port_at learned (place_of address learned)

-- the known addresses with the one at a place moved to a port, or with a new one where there is room for it
abbrev pub learned_at : List Learned → ℕ → ℕ → Option ℕ → List Learned
learned_at learned address port (Some at) = slice_set learned at (record { address = address; port = port })
learned_at learned address port None =
    if nat_lt (length learned) 64 then learned ++ record { address = address; port = port } ∷ [] else learned

-- the known addresses where this one stands at this port
abbrev pub learned_with : List Learned → ℕ → ℕ → List Learned
learned_with learned address port = learned_at learned address port (place_of address learned)

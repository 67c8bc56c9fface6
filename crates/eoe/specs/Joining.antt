use Rattle.std.specs.Prelude.{◌≡◌, ◌≤◌, ℕ, ◌+◌, ◌-◌, ◌*◌, ◌==◌, ◌&&◌, not, Bool, true, false, nat_le, nat_lt, if◌then◌else◌, List, [], ◌∷◌, ◌++◌, length, take, Option, None, Some}
use Rattle.eoe.specs.declared.joining.Joined.{Joined}
use Rattle.eoe.specs.declared.joining.Joined.TheVariants.{More, Whole, Dropped}
use Rattle.eoe.specs.declared.joining.Unfinished.{Unfinished}
use Rattle.eoe.specs.declared.message.Fragment.{Fragment}
use Rattle.eoe.specs.Cutting.{blocks_of}

-- the octets of a packet with further ones; one that outgrows 1,514 octets keeps none from then on
abbrev pub extended : Unfinished → List ℕ → List ℕ
extended u bytes = if nat_le (u.size + length bytes) 1514 then u.octets.items ++ bytes else []

-- a packet with the octets of a fragment
abbrev pub added : Unfinished → List ℕ → Unfinished
added u bytes = record u { size = u.size + length bytes; octets = record { items = extended u bytes } }

-- no more octets are kept than came
abbrev pub IsWithin : Unfinished → Type 0
IsWithin u = length u.octets.items ≤ u.size

-- a packet that goes on, or none
abbrev pub going_on : Bool → Unfinished → Option Unfinished
going_on true u = Some u
going_on false u = None

-- a fragment goes on with a packet: its frame number, the next number, and the offset where its octets end
abbrev pub is_awaited : Unfinished → Fragment → Bool
is_awaited u f = f.frame == u.frame && f.number == u.number + 1 && 32 * f.offset == u.size

-- a fragment other than 0 goes on with the unfinished packet
abbrev pub continued : Option Unfinished → Fragment → Option Unfinished
continued None f = None
continued (Some u) f = if is_awaited u f then Some (record u { number = f.number }) else None

-- the packet that a fragment belongs to, before its octets: fragment 0 starts one
abbrev pub awaited : Option Unfinished → Fragment → Option Unfinished
awaited before f =
    if f.number == 0 then Some (record { frame = f.frame; number = 0; blocks = f.offset; size = 0; octets = record { items = [] } })
    else continued before f

-- the octets of a last fragment without its time stamp, None where it is too short for one
abbrev pub payload_of : Fragment → Option (List ℕ)
payload_of f =
    if not f.stamped then Some f.bytes.items
    else if nat_lt (length f.bytes.items) 4 then None
    else Some (take (length f.bytes.items - 4) f.bytes.items)

-- 14 to 1,514 octets, and as many blocks as fragment 0 said
abbrev pub is_packet : Unfinished → Bool
is_packet u = nat_le 14 u.size && nat_le u.size 1514 && blocks_of u.size == u.blocks

-- a packet whose last octets came
abbrev pub finished : Unfinished → Joined
finished u = if is_packet u then Whole u.octets else Dropped

-- a packet with the octets of its last fragment
abbrev pub ended : Unfinished → Option (List ℕ) → Joined
ended u None = Dropped
ended u (Some bytes) = finished (added u bytes)

-- a packet that is whole, or was dropped
abbrev pub ended_by : Bool → Unfinished → Joined
ended_by true u = Whole u.octets
ended_by false u = Dropped

-- what is unfinished behind a fragment, and what became of it
pub record Taken : Type 0 where
  pub unfinished : Option Unfinished
  pub joined : Joined

-- a fragment of a packet, or of none
abbrev pub taken_by : Fragment → Option Unfinished → Taken
taken_by f None = record { unfinished = None; joined = Dropped }
taken_by f (Some u) =
    if f.last then record { unfinished = None; joined = ended u (payload_of f) }
    else record { unfinished = Some (added u f.bytes.items); joined = More }

-- what a reassembler makes of a fragment
abbrev pub taken : Option Unfinished → Fragment → Taken
taken before f = taken_by f (awaited before f)

-- what it makes of fragments in order
abbrev pub joins : Option Unfinished → List Fragment → List Joined
joins before [] = []
joins before (f ∷ fs) = (taken before f).joined ∷ joins (taken before f).unfinished fs

-- more for each but the last, and then the whole packet
abbrev pub GivesWhole : List ℕ → List Joined → Type 0
GivesWhole packet [] = ⊥
GivesWhole packet (Whole p ∷ []) = p.items ≡ packet
GivesWhole packet (Whole p ∷ j ∷ js) = ⊥
GivesWhole packet (More ∷ js) = GivesWhole packet js
GivesWhole packet (Dropped ∷ js) = ⊥

use Rattle.std.specs.Prelude.{ℕ, zero, suc, ◌+◌, ◌*◌, ◌/◌, ◌%◌, ◌^◌, ◌≡◌, ◌<◌, ◌≤◌, ◌==◌, false, nat_lt, nat_le, if◌then◌else◌, List, [], ◌∷◌, length, take, drop, Option, None, Some}
use Rattle.eoe.specs.declared.message.Fragment.{Fragment}

-- how many blocks of 32 octets there are, the last one begun
abbrev pub blocks_of : ℕ → ℕ
blocks_of n = (n + 31) / 32

-- a packet on its way into fragments of `size` octets, with number and place of the next
pub record Cutting : Type 0 where
  pub packet : List ℕ
  pub size : ℕ
  pub frame : ℕ
  pub number : ℕ
  pub at : ℕ

-- fragments of 32 to 1,476 octets in whole blocks, of which each took at least a block, with a frame number of four bits
pub record IsCutting (size frame number at : ℕ) : Type 0 where
  pub least : 32 ≤ size
  pub greatest : size ≤ 1476
  pub whole : size % 32 ≡ 0
  pub framed : frame < 2 ^ 4
  pub counted : 32 * number ≤ at
  pub short : at < 2990

-- fragment `k` of a packet, at place `at`: its offset is its place in blocks, and that of fragment 0 the
-- blocks of the packet
abbrev pub fragment_at : List ℕ → ℕ → ℕ → ℕ → ℕ → Fragment
fragment_at packet size frame k at = record {
  last = nat_le (length packet) (at + size);
  stamped = false;
  number = k;
  offset = if k == 0 then blocks_of (length packet) else at / 32;
  frame = frame;
  bytes = record { items = take size (drop at packet) };
}

-- the next fragment, None behind the last
abbrev pub next_fragment : Cutting → Option Fragment
next_fragment c =
    if nat_lt c.at (length c.packet) then Some (fragment_at c.packet c.size c.frame c.number c.at) else None

-- the packet behind its next fragment
abbrev pub cutting_after : Cutting → Cutting
cutting_after c = if nat_lt c.at (length c.packet) then record c { number = c.number + 1; at = c.at + c.size } else c

-- fragment `k` of a packet, at place `at`, and those behind it, of which there are at most `most`
abbrev pub fragments_from : List ℕ → ℕ → ℕ → ℕ → ℕ → ℕ → List Fragment
fragments_from packet size frame zero k at = []
fragments_from packet size frame (suc most) k at =
    if nat_lt at (length packet)
    then fragment_at packet size frame k at ∷ fragments_from packet size frame most (k + 1) (at + size) else []

-- all fragments of a packet
abbrev pub fragments_of : List ℕ → ℕ → ℕ → List Fragment
fragments_of packet size frame = fragments_from packet size frame (length packet) 0 0

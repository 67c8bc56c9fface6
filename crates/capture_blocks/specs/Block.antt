use Rattle.std.specs.Prelude.{◌≡◌, ◌≢◌, ℕ, ◌+◌, ◌-◌, ◌%◌, ◌<◌, ◌≤◌, ◌^◌, ◌==◌, ◌||◌, not, nat_lt, if◌then◌else◌, List, ◌++◌, length, Option, None, Some, Result, Ok, Err}
use Rattle.capture_blocks.specs.declared.block.BlockAt.{BlockAt}
use Rattle.capture_blocks.specs.declared.block.BlockFault.{BlockFault}
use Rattle.capture_blocks.specs.declared.block.BlockFault.TheVariants.{Cut, Damaged}
use Rattle.capture_blocks.specs.declared.order.Order.{Order}
use Rattle.capture_blocks.specs.declared.order.Order.TheVariants.{LowFirst, HighFirst}
use Rattle.capture_blocks.specs.Order.{number_in, octets_in}

-- the type of a section header, 0A0D0D0A, the same in both byte orders
abbrev pub section : ℕ
section = 168627466

-- the byte order magic of a section header, 1A2B3C4D
abbrev pub magic : ℕ
magic = 439041101

-- the fewest octets of a block, by its type
abbrev pub least_of : ℕ → ℕ
least_of kind =
    if kind == section then 28 else if kind == 1 then 20 else if kind == 2 then 32 else if kind == 3 then 16
    else if kind == 5 then 24 else if kind == 6 then 32 else 12

-- a block: its byte order, its type and its body
pub record Block : Type 0 where
  pub order : Order
  pub kind : ℕ
  pub body : List ℕ

-- how many octets a block has
abbrev pub size_of : Block → ℕ
size_of b = 12 + length b.body

-- a block's octets: type, length, body, and the length once more
abbrev pub block_text : Block → List ℕ
block_text b = octets_in b.order 4 b.kind ++ (octets_in b.order 4 (size_of b) ++ (b.body ++ octets_in b.order 4 (size_of b)))

-- a body that begins with the byte order magic, in this order
abbrev pub BeginsWithMagic : Order → List ℕ → Type 0
BeginsWithMagic order body = (behind : List ℕ) × (body ≡ octets_in order 4 magic ++ behind)

-- a block may stand behind one of this byte order: a section header tells its own, every other block keeps it; its length is whole words
pub record IsBlock (before : Order) (b : Block) : Type 0 where
  pub told : b.kind ≡ section → BeginsWithMagic b.order b.body
  pub kept : b.kind ≢ section → b.order ≡ before
  pub kind : b.kind < 2 ^ 32
  pub small : size_of b < 2 ^ 32
  pub words : size_of b % 4 ≡ 0
  pub least : least_of b.kind ≤ size_of b

-- the byte order that a section header's octets tell
abbrev pub magic_in : List ℕ → Option Order
magic_in octets =
    if number_in LowFirst 4 octets 8 == magic then Some LowFirst
    else if number_in HighFirst 4 octets 8 == magic then Some HighFirst else None

-- the byte order of a block of this type
abbrev pub order_in : Order → ℕ → List ℕ → Option Order
order_in before kind octets = if kind == section then magic_in octets else Some before

-- what the octets read as whose byte order and type are known
abbrev pub block_by : ℕ → List ℕ → Option Order → Result BlockAt BlockFault
block_by kind octets None = Err Damaged
block_by kind octets (Some order) =
    if not (number_in order 4 octets 4 % 4 == 0) || nat_lt (number_in order 4 octets 4) (least_of kind) then Err Damaged
    else if nat_lt (length octets) (number_in order 4 octets 4) then Err Cut
    else if not (number_in order 4 octets (number_in order 4 octets 4 - 4) == number_in order 4 octets 4) then Err Damaged
    else Ok (record { order = order; kind = kind; size = number_in order 4 octets 4 })

-- what octets read as behind a block of this byte order: the block that begins them, or its fault
abbrev pub block_read : Order → List ℕ → Result BlockAt BlockFault
block_read before octets =
    if nat_lt (length octets) 12 then Err Cut
    else block_by (number_in before 4 octets 0) octets (order_in before (number_in before 4 octets 0) octets)

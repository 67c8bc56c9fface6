use Rattle.std.specs.Prelude.{◌≡◌, ℕ, Bool, false, ◌<◌, ◌≤◌, List, [], ◌∷◌, length, map, vec_capacity}
use Rattle.std.specs.List.{concat}
use Rattle.std.specs.Global.{Box, Vec}
use Rattle.arrayvec.specs.ArrayVec.{ArrayVec}

-- a block in the heap
abbrev pub Boxed : Type 0
Boxed = Box (ArrayVec ℕ)

-- the octets of a block
abbrev pub items_of : Boxed → List ℕ
items_of block = block.value.items

-- a block without octets
abbrev pub IsEmpty : Boxed → Type 0
IsEmpty block = items_of block ≡ []

-- the octets of blocks, one behind the other
abbrev pub octets_of : List Boxed → List ℕ
octets_of blocks = concat (map items_of blocks)

-- blocks of which all but the last are full, and the last isn't empty
abbrev pub IsPacked : List (List ℕ) → Type 0
IsPacked [] = Unit {0}
IsPacked (block ∷ []) = (1 ≤ length block) × (length block ≤ 128)
IsPacked (block ∷ next ∷ blocks) = (length block ≡ 128) × IsPacked (next ∷ blocks)

-- what holds of a place for a chain
pub record IsChain (live : Bool) (blocks : Vec Boxed) (len room : ℕ) : Type 0 where
  pub packed : IsPacked (map items_of blocks.items)
  pub len_is : len ≡ length (octets_of blocks.items)
  pub closed : live ≡ false → blocks.items ≡ []
  pub fits : length blocks.items ≤ room
  pub kept : room ≤ vec_capacity blocks
  pub small : room < 4294967296

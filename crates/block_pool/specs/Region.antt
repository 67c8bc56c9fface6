use Rattle.std.specs.Prelude.{◌≡◌, ℕ, true, ◌+◌, ◌/◌, ◌<◌, ◌++◌, List, length, get_or, slice_set, Some, is_some, unwrap_or, Option, None, []}

-- a region: the octets of the chain at each place, where one is live, and how many blocks are free
pub record Region : Type 0 where
  pub chains : List (Option (List ℕ))
  pub free : ℕ

-- a chain is live at a place
abbrev pub IsLive : Region → ℕ → Type 0
IsLive region place = is_some (get_or region.chains place None) ≡ true

-- a chain is live at each place
abbrev pub AllLive : Region → Type 0
AllLive region = (place : ℕ) → place < length region.chains → IsLive region place

-- the octets of the chain at a place
abbrev pub chain_of : Region → ℕ → List ℕ
chain_of region place = unwrap_or (get_or region.chains place None) []

-- the blocks of so many octets
abbrev pub blocks_for : ℕ → ℕ
blocks_for octets = (octets + 127) / 128

-- an empty chain at a place where none was; all else stays
abbrev pub Begins : Region → ℕ → Region → Type 0
Begins old place new =
    (place < length old.chains) × (get_or old.chains place None ≡ None) × (new ≡ record old { chains = slice_set old.chains place (Some []) })

-- octets behind those of the chain, in blocks that were free; all else stays
abbrev pub Appends : Region → ℕ → List ℕ → Region → Type 0
Appends old place octets new =
    (new.chains ≡ slice_set old.chains place (Some (chain_of old place ++ octets)))
    × (new.free + blocks_for (length (chain_of old place) + length octets) ≡ old.free + blocks_for (length (chain_of old place)))

-- no chain at the place any more, and its blocks free; all else stays
abbrev pub Closes : Region → ℕ → Region → Type 0
Closes old place new =
    (new.chains ≡ slice_set old.chains place None) × (new.free ≡ old.free + blocks_for (length (chain_of old place)))

use Rattle.std.specs.Prelude.{◌≡◌, ℕ, ◌+◌, ◌<◌, ◌≤◌, List, length, map, sum_by, vec_capacity, All, if◌then◌else◌, Option, Some, None}
use Rattle.std.specs.Global.{Vec}
use Rattle.block_pool.specs.Blocks.{Boxed, IsEmpty}
use Rattle.block_pool.specs.Chained.{Chained}

-- the octets of the chain at a place, where one is live
abbrev pub live_octets : Chained → Option (List ℕ)
live_octets chain = if chain.live then Some chain.octets else None

-- the octets at each place, where a chain is live
abbrev pub chains_of : List Chained → List (Option (List ℕ))
chains_of chains = map live_octets chains

-- what holds of a pool: free blocks are empty, each block is free or in one chain, and each place has room for all of them
pub record IsPool (free : Vec Boxed) (chains : List Chained) (blocks : ℕ) : Type 0 where
  pub empty : All IsEmpty free.items
  pub total : length free.items + sum_by (λ chain. chain.blocks) chains ≡ blocks
  pub rooms : All (λ (chain : Chained). chain.room ≡ blocks) chains
  pub kept : blocks ≤ vec_capacity free
  pub small : blocks < 4294967296

-- Two chains that share the blocks of one region.
use Rattle.std.specs.Prelude.{◌≡◌, ℕ, ◌+◌, ◌≤◌, ◌⊎◌, List, [], length, Option, Some, None}
use Rattle.block_pool.specs.Region.{Region, IsLive, chain_of, blocks_for}

-- the octets of a chain; none where it isn't begun
abbrev pub octets_at : Region → Option ℕ → List ℕ
octets_at region None = []
octets_at region (Some place) = chain_of region place

-- a chain that is begun is live
abbrev pub IsSound : Region → Option ℕ → Type 0
IsSound region None = Unit {0}
IsSound region (Some place) = IsLive region place

-- a region of two places, whose 256 blocks are free or in one of these two chains of at most 16,384 octets; no other is live
pub record AreChains (region : Region) (one other : Option ℕ) : Type 0 where
  pub places : length region.chains ≡ 2
  pub one_live : IsSound region one
  pub other_live : IsSound region other
  pub apart : (place : ℕ) → one ≡ Some place → other ≡ Some place → ⊥
  pub only : (place : ℕ) → IsLive region place → (one ≡ Some place) ⊎ (other ≡ Some place)
  pub blocks : region.free + blocks_for (length (octets_at region one)) + blocks_for (length (octets_at region other)) ≡ 256
  pub one_short : length (octets_at region one) ≤ 16384
  pub other_short : length (octets_at region other) ≤ 16384

-- one chain has these octets now, and the other those that it had
pub record Holds (old : Region) (now : List ℕ) (new : Region) (one other : Option ℕ) : Type 0 where
  pub are : AreChains new one other
  pub octets : octets_at new one ≡ now
  pub same : octets_at new other ≡ octets_at old other

use Rattle.std.specs.Prelude.{ℕ, Bool, List}

-- a place for a chain: whether one is live there, its octets, its blocks and the blocks that it may have
pub record Chained : Type 0 where
  pub live : Bool
  pub octets : List ℕ
  pub blocks : ℕ
  pub room : ℕ

use Rattle.std.specs.Prelude.{ℕ, List}

-- a list of octets and the most that it may hold
pub record Limited : Type 0 where
  pub octets : List ℕ
  pub limit : ℕ

use Rattle.std.specs.Prelude.{ℕ, List}

-- the value of the SDO transfer in hand, and the answer of an information service
pub record Kept : Type 0 where
  pub value : List ℕ
  pub told : List ℕ

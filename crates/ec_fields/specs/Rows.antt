use Rattle.std.specs.Prelude.{ℕ, List, slice_set}
use Rattle.std.specs.Borrow.{Lends, Fml, RattleType, MutBor}
use Rattle.ec_fields.specs.contracts.rows.Rows.{the_row}

-- a row of the list is lent: once it is given back the list has it at its place
abbrev pub LendsRow : (T : RattleType) → MutBor (List T.Denot) → ℕ → MutBor T.Denot → Fml
LendsRow T rows i r = Lends (the_row T) T rows r (slice_set rows.now i)

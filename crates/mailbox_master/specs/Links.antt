-- What contracts see of a half of a link in a state S.
use Rattle.std.specs.Prelude.{ℕ, Bool}

-- outward: its slave's station, the length of mailbox 0, the counter of the last mail held, and the state
pub record OutLink (S : Type 0) : Type 0 where
  pub station : ℕ
  pub len : ℕ
  pub last : ℕ
  pub state : S

-- inward: its slave's station, the length of mailbox 1, the counter of the last mail accepted, the repeat request, and
-- the state
pub record InLink (S : Type 0) : Type 0 where
  pub station : ℕ
  pub len : ℕ
  pub last : ℕ
  pub bit : Bool
  pub state : S

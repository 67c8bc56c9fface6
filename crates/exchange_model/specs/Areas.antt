-- The mailboxes of a slave, by their lengths.
use Rattle.std.specs.Prelude.{ℕ, ◌≤◌}

-- the lengths of a slave's two mailboxes: of the one that requests go through, and of the one for answers
pub record Areas : Type 0 where
  pub out : ℕ
  pub back : ℕ

-- lengths that a slave's mailboxes may have
pub record AreMailboxes (areas : Areas) : Type 0 where
  pub out_least : 64 ≤ areas.out
  pub out_most : areas.out ≤ 1486
  pub back_least : 64 ≤ areas.back
  pub back_most : areas.back ≤ 1486

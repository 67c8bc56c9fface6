-- WHICH NUMBER THE OLDEST MAIL HAS that waits for a slave, among all that were asked of it.
use Rattle.std.specs.Prelude.{◌≡◌, ◌≤◌, ◌-◌, ◌%◌, ℕ, length}
use Rattle.master_node.specs.declared.post.Post.{Post}

-- so many mails were asked of a slave, of which the last wait at its post; the count of those before them has 32 bits
pub record IsNumbered (asked : ℕ) (p : Post) : Type 0 where
  pub few : length p.mails.items ≤ asked
  pub oldest : p.oldest ≡ (asked - length p.mails.items) % 4294967296

-- a post goes on so
abbrev pub StaysNumbered : Post → Post → Type 0
StaysNumbered p q = (asked : ℕ) → IsNumbered asked p → IsNumbered asked q

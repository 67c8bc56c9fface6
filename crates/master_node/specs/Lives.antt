-- What a master has of its slaves.
use Rattle.std.specs.Prelude.{ℕ, zero, suc, List, [], ◌∷◌, length}
pub use Rattle.life_runs.specs.of_master_tour.Goes.{holds_at}
use Rattle.master_node.specs.declared.post.Post.{Post}

-- how many mails wait to be passed on to the slave at a place
abbrev pub waiting_at : List Post → ℕ → ℕ
waiting_at [] place = 0
waiting_at (p ∷ ps) zero = length p.mails.items
waiting_at (p ∷ ps) (suc place) = waiting_at ps place

-- how many mails wait to be passed on to a slave
abbrev pub waiting_of : Post → ℕ
waiting_of p = length p.mails.items

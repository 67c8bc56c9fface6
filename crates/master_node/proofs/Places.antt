-- What stands at a place.
use Rattle.std.proofs.Common.{◌≡◌, ◌<◌, ℕ, zero, suc, List, [], ◌∷◌, Bool, ap, ◌∙◌, arith, length, get_or}
use Rattle.master_node.specs.declared.post.Post.{Post}
use Rattle.master_node.specs.Lives.{holds_at, waiting_at}
use Rattle.life_runs.proofs.of_master_tour.Goes.{holds_here}

pub tested_here : {S : Type 0} (test : S → Bool) (ss : List S) (place : ℕ) (s : S) (r : Bool) → place < length ss → s ≡ get_or ss place s → r ≡ test s → r ≡ holds_at test ss place
tested_here test ss place s r l e t = t ∙ holds_here test ss place s l e

pub waiting_here : (posts : List Post) (place : ℕ) (p : Post) → place < length posts → p ≡ get_or posts place p → length p.mails.items ≡ waiting_at posts place
waiting_here [] place p l e = absurd (omega (arith, l))
waiting_here (x ∷ xs) zero p l e = ap (λ (z : Post). length z.mails.items) e
waiting_here (x ∷ xs) (suc place) p l e = waiting_here xs place p (omega (arith, l)) e

-- THE FRAMES OF A SLAVE'S ROWS, and those of their answers, don't fall.
use Rattle.std.specs.Prelude.{◌<◌, ◌≤◌, ℕ, suc, List, [], ◌∷◌, ⊤}
use Rattle.run_book.specs.declared.book.Answer.{Answer}
use Rattle.run_book.specs.declared.book.Answer.TheVariants.{Replied, InDoubt, NotSent}
use Rattle.run_book.specs.declared.book.Begun.{Begun}

-- the least frame that the row behind one with this answer may have: one more than the answer's, where it has one
abbrev pub behind_answer : ℕ → Answer → ℕ
behind_answer frame (Replied reply back) = suc back
behind_answer frame InDoubt = frame
behind_answer frame NotSent = frame

-- an answer has no frame below its row's
abbrev pub IsBehind : ℕ → Answer → Type 0
IsBehind frame (Replied reply back) = frame ≤ back
IsBehind frame InDoubt = ⊤
IsBehind frame NotSent = ⊤

-- THE FRAMES OF THESE ROWS DON'T FALL, from one on and each below a last; the row behind an answer has a greater frame than that, and nothing ends behind an end
abbrev pub RisesTo : ℕ → ℕ → ℕ → List Begun → List Answer → Type 0
RisesTo low last end [] answers = low ≤ end
RisesTo low last end (b ∷ bs) [] = ⊥
RisesTo low last end (b ∷ bs) (a ∷ as') = (low ≤ b.frame) × (b.frame < last) × IsBehind b.frame a × RisesTo (behind_answer b.frame a) last end bs as'

-- SO IT IS of rows and answers whose frames are all below this
abbrev pub Rises : ℕ → ℕ → List Begun → List Answer → Type 0
Rises low high bs answers = RisesTo low high high bs answers

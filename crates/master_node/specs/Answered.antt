-- THE LAST ANSWERS of the slaves, as the events of a step leave them.
use Rattle.std.specs.Prelude.{◌≡◌, ◌==◌, ℕ, zero, suc, if◌then◌else◌, Option, Some, None, List, [], ◌∷◌}
use Rattle.life_runs.specs.of_mailbox_mail.declared.outcome.ReplyKind.{ReplyKind}
use Rattle.master_node.specs.Listing.{events_in}
use Rattle.master_node.specs.declared.event.Event.{Event}
use Rattle.master_node.specs.declared.node.MasterNode.{MasterNode}
use Rattle.master_node.specs.declared.post.Post.{Post}

-- the kind of the last answer of the slave at a place, until its next service comes into hand
abbrev pub answer_at : List Post → ℕ → Option ReplyKind
answer_at [] k = None
answer_at (p ∷ ps) zero = p.answer
answer_at (p ∷ ps) (suc k) = answer_at ps k

-- what an event leaves of it: a service that comes into hand has no answer yet, and a slave that is given up has none any more
abbrev pub answer_on : ℕ → Event → Option ReplyKind → Option ReplyKind
answer_on k (Event.Began slave origin) a = if k == slave then None else a
answer_on k (Event.Answered slave kind) a = if k == slave then Some kind else a
answer_on k (Event.GivenUp slave) a = if k == slave then None else a
answer_on k (Event.Emergency slave octets) a = a
answer_on k (Event.GatewayReply key mail) a = a
answer_on k (Event.GatewayDone key) a = a
answer_on k (Event.Cleared slave own) a = a
answer_on k (Event.Opened slave) a = a

-- and what all of these do, in order
abbrev pub answer_behind : ℕ → List Event → Option ReplyKind → Option ReplyKind
answer_behind k [] a = a
answer_behind k (e ∷ es) a = answer_behind k es (answer_on k e a)

-- THE LAST ANSWERS OF A STEP: those before it, as its events leave them
abbrev pub AnswersBy : (ℕ → Option ReplyKind) → MasterNode → Type 0
AnswersBy base m = (k : ℕ) → answer_at m.posts.items k ≡ answer_behind k (events_in m) (base k)

-- a part of a step goes on so
abbrev pub AnswersOn : MasterNode → MasterNode → Type 0
AnswersOn m n = (base : ℕ → Option ReplyKind) → AnswersBy base m → AnswersBy base n

-- a whole step
abbrev pub AnswersSo : MasterNode → MasterNode → Type 0
AnswersSo m n = AnswersBy (λ k. answer_at m.posts.items k) n

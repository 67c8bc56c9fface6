-- WHERE A SERVICE COMES FROM, with its number among those of its slave from there, and how many packets came into hand.
use Rattle.std.specs.Prelude.{◌≡◌, ℕ, zero, suc, ◌+◌, ◌%◌, Option, Some, None, List, [], ◌∷◌, ⊤}
use Rattle.master_node.specs.Numbered.{StaysNumbered}
use Rattle.master_node.specs.declared.coming.Coming.{Coming}
use Rattle.master_node.specs.declared.event.Origin.{Origin}
use Rattle.master_node.specs.declared.post.Post.{Post}

-- one packet more came into hand; the count has 32 bits
abbrev pub one_more : ℕ → ℕ
one_more n = (n + 1) % 4294967296

-- how many packets did, once a service from there came into hand
abbrev pub counted_by : Origin → ℕ → ℕ
counted_by (Origin.Script number) n = n
counted_by (Origin.Forward number) n = one_more number
counted_by (Origin.Gateway number) n = n

-- how many packets came into hand of the slave at a place
abbrev pub forwards_at : List Post → ℕ → ℕ
forwards_at [] k = 0
forwards_at (p ∷ ps) zero = p.forwards
forwards_at (p ∷ ps) (suc k) = forwards_at ps k

-- no packet came into hand yet
abbrev pub CountsNone : Post → Type 0
CountsNone p = p.forwards ≡ 0

-- where what may come into hand comes from: a packet has the number of those before it, and a service of the script its number there
abbrev pub IsFrom : Option Coming → ℕ → ℕ → Origin → Type 0
IsFrom None number forwards origin = ⊤
IsFrom (Some Coming.Packet) number forwards origin = origin ≡ Origin.Forward forwards
IsFrom (Some Coming.Mail) number forwards origin = ⊤
IsFrom (Some Coming.Script) number forwards origin = origin ≡ Origin.Script number
IsFrom (Some (Coming.State target)) number forwards origin = origin ≡ Origin.Script number

-- a mail that is passed on has the number of the oldest that waits
abbrev pub IsGateway : Option Coming → ℕ → Origin → Type 0
IsGateway None oldest origin = ⊤
IsGateway (Some Coming.Packet) oldest origin = ⊤
IsGateway (Some Coming.Mail) oldest origin = origin ≡ Origin.Gateway oldest
IsGateway (Some Coming.Script) oldest origin = ⊤
IsGateway (Some (Coming.State target)) oldest origin = ⊤

-- IT IS LAID READY at a slave's post with where it comes from, and nothing came into hand or was answered by that
pub record LaysFrom (coming : Option Coming) (number : ℕ) (p q : Post) : Type 0 where
  pub counts : q.forwards ≡ p.forwards
  pub origin : IsFrom coming number p.forwards q.origin
  pub gateway : IsGateway coming p.oldest q.origin
  pub numbered : StaysNumbered p q
  pub answer : q.answer ≡ p.answer

-- WHAT A DESK HAS OF ONE SLAVE: the requests whose mails wait for it, and the one whose mail is in its hand; and what was owed by one datagram.
use Rattle.std.specs.Prelude.{◌<◌, ℕ, ◌==◌, ◌&&◌, Bool, List, [], ◌∷◌, ◌++◌, map, filter, All}
use Rattle.gateway_core.specs.of_mailbox_mail.declared.mail.Mail.{Mail}
use Rattle.run_record.specs.of_master_node.declared.event.Event.{Event}
use Rattle.run_record.specs.of_master_node.declared.event.Event.TheVariants as events
use Rattle.gateway_run.specs.Account.{Owing, has_key, is_of, left_by, waits_at}
use Rattle.gateway_run.specs.Desk.{AreUnlike}
use Rattle.gateway_run.specs.declared.desk.Request.{Request}

-- the requests of a slave
abbrev pub requests_of : ℕ → List Request → List Request
requests_of slave rs = filter (is_of slave) rs

-- a request of that slave whose mail came into hand
abbrev pub has_begun : ℕ → Request → Bool
has_begun slave r = (r.slave == slave) && r.begun

-- those of a slave whose mails wait
abbrev pub waiting_of : ℕ → List Request → List Request
waiting_of slave rs = filter (waits_at slave) rs

-- those whose mails came into hand
abbrev pub begun_of : ℕ → List Request → List Request
begun_of slave rs = filter (has_begun slave) rs

-- their keys
abbrev pub keys_of : List Request → List ℕ
keys_of rs = map (λ (r : Request). r.key) rs

-- the numbers of their datagrams
abbrev pub grams_of : List Request → List ℕ
grams_of rs = map (λ (r : Request). r.gram) rs

-- no two requests are of one datagram
abbrev pub AreFiled : List Request → Type 0
AreFiled rs = AreUnlike (λ (r : Request). r.gram) rs

-- this number among these
abbrev pub only : ℕ → List ℕ → List ℕ
only n ns = filter (λ k. n == k) ns

-- WHICH DATAGRAMS' ROWS AN EVENT ENDS: that of the request under whose key no more follows
abbrev pub done_by : Event → List Request → List ℕ
done_by (events.GatewayDone key) rs = grams_of (filter (has_key key) rs)
done_by event rs = []

-- what events give, one behind the other, each by the requests that those before it left
abbrev pub given_by : {X : Type 0} → (Event → List Request → List X) → List Event → List Request → List X
given_by gives [] rs = []
given_by gives (event ∷ more) rs = gives event rs ++ given_by gives more (left_by event rs)

-- the rows that they end
abbrev pub done_by_all : List Event → List Request → List ℕ
done_by_all es rs = given_by done_by es rs

-- the mails that were owed by the datagram of this number, in order
abbrev pub owed_for : ℕ → List Owing → List Mail
owed_for n os = map (λ (o : Owing). o.mail) (filter (λ (o : Owing). o.gram == n) os)

-- these numbers rise
abbrev pub AreRising : List ℕ → Type 0
AreRising [] = Unit {0}
AreRising (n ∷ ns) = All (λ (m : ℕ). n < m) ns × AreRising ns

-- WHAT COMES INTO HAND of the slaves of a serving, as its master lists it.
use Rattle.std.specs.Prelude.{◌≡◌, ◌-◌, ◌%◌, ℕ, zero, suc, false, if◌then◌else◌, Option, Some, None, List, [], ◌∷◌, map, length}
use Rattle.life_runs.specs.of_state_model.Stated.{Service}
use Rattle.life_runs.specs.of_master_hand.Spoken.{Asked, is_passed}
use Rattle.life_runs.specs.of_master_tour.Made.{is_in}
use Rattle.life_runs.specs.of_master_tour.Orders.{AreOnce}
use Rattle.life_runs.specs.Served.{Serves, ServedTurn}
use Rattle.master_node.specs.Begins.{begun_of}
use Rattle.master_node.specs.Listing.{events_in, forwards_behind, number_at, origin_of, told_in}
use Rattle.master_node.specs.Origins.{forwards_at}
use Rattle.master_node.specs.Serving.{run_lead, run_turn}
use Rattle.master_node.specs.declared.event.Event.{Event}
use Rattle.master_node.specs.declared.event.Origin.{Origin}
use Rattle.master_node.specs.declared.node.MasterNode.{MasterNode}

-- where a service comes from that came into hand of a slave of a serving: a mail has the number of those that were asked before it
abbrev pub origin_for : ℕ → ℕ → ℕ → Service Asked → Origin
origin_for number forwards oldest (Service.Mails q) = if is_passed q then Origin.Gateway oldest else origin_of number forwards (Service.Mails q)
origin_for number forwards oldest (Service.State target) = Origin.Script number

-- it is listed as begun, if something did
abbrev pub begun_told : ℕ → ℕ → ℕ → ℕ → Option (Service Asked) → List Event
begun_told place number forwards oldest None = []
begun_told place number forwards oldest (Some s) = Event.Began place (origin_for number forwards oldest s) ∷ []

-- the number of the oldest mail that waits for a slave, among all that were asked of it; the count has 32 bits
abbrev pub oldest_of : Serves → ℕ
oldest_of w = (length w.asked - length w.waits) % 4294967296

-- of the slave at a place
abbrev pub oldest_in : List Serves → ℕ → ℕ
oldest_in [] k = 0
oldest_in (w ∷ ws) zero = oldest_of w
oldest_in (w ∷ ws) (suc k) = oldest_in ws k

-- what came into hand of the slave at a place, as it is listed, by how many packets came into hand before
abbrev pub served_tells : List Serves → ℕ → ℕ → Option (Service Asked) → List Event
served_tells ws k forwards b = begun_told k (number_at (map run_lead ws) k) forwards (oldest_in ws k) b

-- JUST THE SERVICES THAT CAME INTO HAND ARE LISTED as begun while mails are passed on, of the slaves that were visited, in order, each slave once; and so many
-- packets came into hand of each slave then
pub record ServedBegin (forwards : ℕ → ℕ) (ws : List Serves) (vs : List ServedTurn) (m : MasterNode) : Type 0 where
  pub visited : List ℕ
  pub once : AreOnce visited
  pub listed : events_in m ≡ told_in (λ k. served_tells ws k (forwards k) (begun_of (map run_turn vs) k)) visited
  pub others : (k : ℕ) → is_in k visited ≡ false → begun_of (map run_turn vs) k ≡ None
  pub counts : (k : ℕ) → forwards_at m.posts.items k ≡ forwards_behind (forwards k) (begun_of (map run_turn vs) k)

-- TWO CLIENTS THAT SPEAK ALIKE of some services lead a life alike, as long as no other came into hand.
use Rattle.std.specs.Prelude.{◌≡◌, Bool, true, List, Option, Some, None, ⊤}
use Rattle.slave_server.specs.of_exchange_model.Exchange.{Speech}
use Rattle.slave_server.specs.of_exchange_model.Rows.{Row}
use Rattle.slave_server.specs.of_state_model.Stated.{Service}
use Rattle.whole_ring.specs.of_life_model.Lives.{Life}

-- of the services that the test picks, both say the same: which are valid, their mails, and how they end
pub record Alike {M P T : Type 0} (is : P → Bool) (y z : Speech M P T) : Type 0 where
  pub emission : y.emission ≡ z.emission
  pub valid : (q : P) → is q ≡ true → y.valid q ≡ z.valid q
  pub planned : (q : P) (hs : List M) → is q ≡ true → y.planned q hs ≡ z.planned q hs
  pub ends : (q : P) (hs : List M) → is q ≡ true → y.ends q hs ≡ z.ends q hs
  pub handed : (q : P) → is q ≡ true → y.handed q ≡ z.handed q

-- the service by mails in hand is one of these
abbrev pub RowIs : {M P T : Type 0} → (P → Bool) → Option (Row M P T) → Type 0
RowIs is None = ⊤
RowIs is (Some r) = is r.service ≡ true

-- and so is the one that is wished for
abbrev pub WishIs : {P : Type 0} → (P → Bool) → Option (Service P) → Type 0
WishIs is None = ⊤
WishIs is (Some (Service.Mails q)) = is q ≡ true
WishIs is (Some (Service.State target)) = ⊤

-- of a life
abbrev pub InHandIs : {M P T : Type 0} → (P → Bool) → Life M P T → Type 0
InHandIs is l = RowIs is l.era.side.now

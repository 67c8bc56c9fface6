-- A LIFE IN ITS FIRST EPOCH: it was opened at most once, and never given up or returned to Init.
use Rattle.std.specs.Prelude.{◌≡◌, ℕ, ◌<◌, false, Option, Some, None, [], ⊤}
use Rattle.slave_server.specs.of_state_model.Stated.{Service}
use Rattle.slave_server.specs.of_state_model.Accounts.{Duty}
use Rattle.slave_server.specs.of_state_model.Promise.{services_in}
use Rattle.whole_ring.specs.of_life_model.Book.{NoInits}
use Rattle.whole_ring.specs.of_life_model.Lives.{Life, Stand, returns_to_init}
use Rattle.whole_ring.specs.of_life_model.Chain.{AllBegin}

-- a state service in hand doesn't return its slave to Init
abbrev pub HandStays : Option Duty → Type 0
HandStays None = ⊤
HandStays (Some duty) = returns_to_init duty.target ≡ false

-- and none that is wished for does
abbrev pub WishStays : {Q : Type 0} → Option (Service Q) → Type 0
WishStays None = ⊤
WishStays (Some (Service.Mails q)) = ⊤
WishStays (Some (Service.State target)) = returns_to_init target ≡ false

-- how the master stands to it: it is brought up, and nothing began in it yet, or it is open, since a frame with a number below this one
abbrev pub StandsFirst : {M Q R : Type 0} → ℕ → Life M Q R → Stand → Type 0
StandsFirst made l (Stand.Opens o) = (o.again ≡ false) × (l.era.account.started ≡ [])
StandsFirst made l Stand.Open = (opened : ℕ) × (l.era.opened ≡ Some opened) × (opened < made) × AllBegin opened l.era.account.started
StandsFirst made l Stand.Gone = ⊥

-- ITS ROWS: none returns the slave to Init, and all began behind its opening
pub record IsFirst {M Q R : Type 0} (made : ℕ) (l : Life M Q R) : Type 0 where
  pub past : l.past ≡ []
  pub cleared : l.era.cleared ≡ None
  pub gave : l.gave ≡ []
  pub quiet : NoInits (services_in l.era.account.started)
  pub hand : HandStays l.era.account.hand
  pub stands : StandsFirst made l l.stand

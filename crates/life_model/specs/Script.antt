-- What is addressed to a slave, and whether all of it has begun: its scripted services, and the packets that are forwarded to its port.
use Rattle.std.specs.Prelude.{◌≡◌, ◌⊎◌, ℕ, ◌&&◌, Bool, true, nat_lt, if◌then◌else◌, Option, Some, None, List, [], ◌∷◌, ◌++◌, map, filter, drop, length, ⊤}
use Rattle.state_model.specs.of_exchange_model.Prefix.{IsPrefixOf}
use Rattle.state_model.specs.Stated.{Service}
use Rattle.state_model.specs.Accounts.{Account, Pick}
use Rattle.state_model.specs.Promise.{services_in}
use Rattle.life_model.specs.Lives.{Era, Life}
use Rattle.life_model.specs.Book.{EpochBook, SlaveBook}
use Rattle.life_model.specs.Chain.{Chained}
use Rattle.life_model.specs.Open.{Setting, IsOpenLife, BookRests, BookDone}

-- WHAT IS ADDRESSED to a slave, in order: its scripted services, and the packets forwarded to its port, each as the service that it is; and which
-- services are of the script, and which are such packets
pub record Addressed (Q : Type 0) : Type 0 where
  pub scripted : List (Service Q)
  pub forwarded : List (Service Q)
  pub is_scripted : Service Q → Bool
  pub is_forwarded : Service Q → Bool

-- the services of all rows of a book
abbrev pub services_of : {M Q R : Type 0} → List (EpochBook M Q R) → List (Service Q)
services_of [] = []
services_of (e ∷ es) = map (λ l. l.service) e.lines ++ services_of es

-- THE ROWS ARE NUMBERED: over all epochs those of the script are its first services, and those of packets the first ones forwarded, without gap
pub record AreNumbered {Q : Type 0} (a : Addressed Q) (qs : List (Service Q)) : Type 0 where
  pub scripts : IsPrefixOf (filter a.is_scripted qs) a.scripted
  pub packets : IsPrefixOf (filter a.is_forwarded qs) a.forwarded

-- ALL HAS BEGUN: each scripted service, and each packet forwarded
pub record HaveBegun {Q : Type 0} (a : Addressed Q) (qs : List (Service Q)) : Type 0 where
  pub scripts : filter a.is_scripted qs ≡ a.scripted
  pub packets : filter a.is_forwarded qs ≡ a.forwarded

-- NOTHING IS LEFT of a slave: its rows are done, and all that is addressed to it has begun
pub record RestsWhole {V A M Q R : Type 0} (w : Setting V A M Q R) (b : SlaveBook A M Q R) (a : Addressed Q) : Type 0 where
  pub rest : BookRests w b
  pub begun : HaveBegun a (services_of b.epochs)

-- ALL IS DONE of it
pub record DoneWhole {V A M Q R : Type 0} (w : Setting V A M Q R) (b : SlaveBook A M Q R) (a : Addressed Q) : Type 0 where
  pub done : BookDone w b
  pub begun : HaveBegun a (services_of b.epochs)

-- a slave of a run
pub record SlaveRun (V A M Q R : Type 0) : Type 0 where
  pub setting : Setting V A M Q R
  pub book : SlaveBook A M Q R
  pub addressed : Addressed Q

-- a fact of each slave that isn't given up for good
abbrev pub EachLive : {V A M Q R : Type 0} → (SlaveRun V A M Q R → Type 0) → List (SlaveRun V A M Q R) → Type 0
EachLive P [] = ⊤
EachLive P (r ∷ rs) = (r.book.given_up ≡ None → P r) × EachLive P rs

-- there is such a slave
abbrev pub AnyLive : {V A M Q R : Type 0} → List (SlaveRun V A M Q R) → Type 0
AnyLive [] = ⊥
AnyLive (r ∷ rs) = (r.book.given_up ≡ None) ⊎ AnyLive rs

-- each slave is one
abbrev pub AllLive : {V A M Q R : Type 0} → (SlaveRun V A M Q R → Type 0) → List (SlaveRun V A M Q R) → Type 0
AllLive P [] = ⊤
AllLive P (r ∷ rs) = P r × AllLive P rs

-- REST OF A RUN: nothing is left of each slave that isn't given up for good, and where there is one all packets of the host arrived at its port
pub record RunRests {V A M Q R P : Type 0} (rs : List (SlaveRun V A M Q R)) (host arrived : List P) : Type 0 where
  pub slaves : EachLive (λ r. RestsWhole r.setting r.book r.addressed) rs
  pub host_in : AnyLive rs → arrived ≡ host

-- ALL DONE: so it is of all slaves, none of which was ever given up
pub record RunDone {V A M Q R P : Type 0} (rs : List (SlaveRun V A M Q R)) (host arrived : List P) : Type 0 where
  pub slaves : AllLive (λ r. DoneWhole r.setting r.book r.addressed) rs
  pub host_in : AnyLive rs → arrived ≡ host

-- the services that came into hand in these epochs of a life, in order
abbrev pub eras_started : {M Q R : Type 0} → List (Era M Q R) → List (Service Q)
eras_started [] = []
eras_started (e ∷ es) = services_in e.account.started ++ eras_started es

-- in all of them
abbrev pub life_started : {M Q R : Type 0} → Life M Q R → List (Service Q)
life_started l = eras_started l.past ++ services_in l.era.account.started

-- A SCRIPT so far: those of its services that came into hand, and those that are left of it
abbrev pub IsScript : {M Q R : Type 0} → (Service Q → Bool) → List (Service Q) → Life M Q R → List (Service Q) → Type 0
IsScript is_scripted scripted l left = filter is_scripted (life_started l) ++ left ≡ scripted

-- a choice takes the next of the script, or none
abbrev pub TakesNext : {Q : Type 0} → (Service Q → Bool) → List (Service Q) → Pick Q → Type 0
TakesNext {Q} is_scripted left pick = (s : Service Q) → pick.begin ≡ Some s → is_scripted s ≡ true → (rest : List (Service Q)) × (left ≡ s ∷ rest)

-- what is left behind it: without the one that came into hand
abbrev pub left_by : {Q R : Type 0} → (Service Q → Bool) → Account Q R → Account Q R → Option (Service Q) → List (Service Q) → List (Service Q)
left_by is_scripted old new None left = left
left_by is_scripted old new (Some s) left = if is_scripted s && nat_lt (length old.started) (length new.started) then drop 1 left else left

-- the services that came into hand in these past epochs, as their sessions have them
module _ {V A M Q R : Type 0} (w : Setting V A M Q R) (gave : List ℕ) where
  -- the same of the epochs of a chain
  abbrev pub chain_started : (stop : ℕ) (carried : _) (end : A) (carry : _) (a : A) (es : List (EpochBook M Q R)) →
      Chained w.exchange w.lawful w.states w.stated w.processor w.table w.cleared w.more w.spot w.frames gave stop carried end carry a es → List (Service Q)
  chain_started stop carried end carry a es Chained.none = []
  chain_started stop carried end carry a es (Chained.taken_up b e next body more begins t k l) = services_in e.era.account.started ++ chain_started stop carried end next _ more l
  chain_started stop carried end carry a es (Chained.own_opened b e target frame cleared_at next body more returns is early shown before begins t k l) =
      services_in e.era.account.started ++ chain_started stop carried end next _ more l
  chain_started stop carried end carry a es (Chained.closed b cleared_at more l) = chain_started stop carried end [] _ more l
  chain_started stop carried end carry a es (Chained.own_closed b target frame cleared_at more returns early quiet l) = chain_started stop carried end [] _ more l

-- and in all epochs of an open life
abbrev pub open_started : {V A M Q R : Type 0} → (w : Setting V A M Q R) (b : SlaveBook A M Q R) → IsOpenLife w b → List (Service Q)
open_started w b l = chain_started w b.gave _ l.carry l.left [] b.first l.past l.before ++ services_in l.epoch.era.account.started

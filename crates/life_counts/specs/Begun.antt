-- WHAT THE SERVICES COUNT THAT CAME INTO HAND, of which each by mails takes so many at most.
use Rattle.std.specs.Prelude.{◌≡◌, ◌≢◌, ℕ, ◌+◌, None, List, [], ◌∷◌, sum_by, ⊤}
use Rattle.few_replies.specs.RowCounts.{AreCounted}
use Rattle.master_hand.specs.of_state_model.Stated.{Service}
use Rattle.master_hand.specs.of_state_model.Promise.{services_in}
use Rattle.few_replies.specs.of_life_model.Gains.{era_gains}
use Rattle.few_replies.specs.of_life_model.Eras.{Clearing}
use Rattle.few_replies.specs.of_life_model.Lives.{Era, Life, Stand}
use Rattle.whole_ring.specs.of_slave_lives.Lived.{Behind}

-- one service: a state service has its control word and five steps
abbrev pub service_most : {Q : Type 0} → (Q → ℕ) → Service Q → ℕ
service_most count (Service.Mails q) = count q
service_most count (Service.State target) = 6

-- services together
abbrev pub begun_most : {Q : Type 0} → (Q → ℕ) → List (Service Q) → ℕ
begun_most count qs = sum_by (λ q. service_most count q) qs

-- those of an epoch, and of several
abbrev pub era_most : {M Q R : Type 0} → (Q → ℕ) → Era M Q R → ℕ
era_most count e = begun_most count (services_in e.account.started)

-- the most of several epochs
abbrev pub eras_most : {M Q R : Type 0} → (Q → ℕ) → List (Era M Q R) → ℕ
eras_most count [] = 0
eras_most count (e ∷ es) = era_most count e + eras_most count es

-- OF A LIFE
abbrev pub life_most : {M Q R : Type 0} → (Q → ℕ) → Life M Q R → ℕ
life_most count l = eras_most count l.past + era_most count l.era

-- an epoch that was never opened gained nothing
abbrev pub IsUnopened : {M Q R : Type 0} → Era M Q R → Type 0
IsUnopened e = e.opened ≡ None → era_gains e ≡ 0

-- each of these
abbrev pub AllUnopened : {M Q R : Type 0} → List (Era M Q R) → Type 0
AllUnopened [] = ⊤
AllUnopened (e ∷ es) = IsUnopened e × AllUnopened es

-- of a life; and where the slave is open, so is its newest epoch
pub record AreUnopened {M Q R : Type 0} (l : Life M Q R) : Type 0 where
  pub past : AllUnopened l.past
  pub now : IsUnopened l.era
  pub open_now : l.stand ≡ Stand.Open → l.era.opened ≢ None

-- WHAT NO SERVICE CHANGES of a slave's application, nor a change of the AL state, nor a return to Init; and what each service takes at most by it
pub record KeepsShape {S V A Q R K : Type 0} (w : Behind S V A Q R) (c : Clearing V A) (shape : A → K) (count : K → Q → ℕ) : Type 0 where
  pub counted : AreCounted w.exchange (λ v. shape (w.exchange.app v)) count
  pub exec : (a : A) (q : Q) → shape (w.exchange.exec a q) ≡ shape a
  pub told : (state : ℕ) (a : A) → shape (w.states.told state a) ≡ shape a
  pub cleared : (a : A) → shape (c.cleared a) ≡ shape a

-- WHY EACH EPOCH OF A LIFE BEGAN.
use Rattle.std.specs.Prelude.{◌≡◌, ◌⊎◌, ◌≤◌, ◌<◌, ℕ, true, Option, Some, None, List, [], ◌∷◌, ◌++◌, ⊤}
use Rattle.master_tour.specs.of_life_model.Lives.{Era, Life, returns_to_init}
use Rattle.life_runs.specs.Led.{Leads}
use Rattle.master_hand.specs.of_state_model.Accounts.{Duty}

-- the frame with which an epoch began; the first did before all frames
abbrev pub since : Option ℕ → ℕ
since None = 0
since (Some frame) = frame

-- A STATE SERVICE returned the slave to Init: it was in hand as the epoch ended
pub record IsOwn {M Q R : Type 0} (e : Era M Q R) : Type 0 where
  pub duty : Duty
  pub hand : e.account.hand ≡ Some duty
  pub returns : returns_to_init duty.target ≡ true

-- A GIVE-UP did, in that epoch: at one of these frames, before this one
pub record IsGivenUp {M Q R : Type 0} (gave : List ℕ) (e : Era M Q R) (until : ℕ) : Type 0 where
  pub front : List ℕ
  pub frame : ℕ
  pub behind : List ℕ
  pub among : gave ≡ front ++ frame ∷ behind
  pub from : since e.cleared ≤ frame
  pub before : frame < until

-- WHY AN EPOCH ENDED before this frame
abbrev pub HasCause : {M Q R : Type 0} → List ℕ → Era M Q R → ℕ → Type 0
HasCause gave e until = IsOwn e ⊎ IsGivenUp gave e until

-- with the frame that returned the slave to Init
abbrev pub EndsBy : {M Q R : Type 0} → List ℕ → Era M Q R → Option ℕ → Type 0
EndsBy gave e None = ⊥
EndsBy gave e (Some frame) = HasCause gave e frame

-- the frame with which the first of these epochs began, or the one behind them
abbrev pub first_cleared : {M Q R : Type 0} → List (Era M Q R) → Option ℕ → Option ℕ
first_cleared [] last = last
first_cleared (e ∷ es) last = e.cleared

-- of all epochs that are over, where the newest began with this frame
abbrev pub AllEndBy : {M Q R : Type 0} → List ℕ → List (Era M Q R) → Option ℕ → Type 0
AllEndBy gave [] last = ⊤
AllEndBy gave (e ∷ es) last = EndsBy gave e (first_cleared es last) × AllEndBy gave es last

-- EACH EPOCH BUT THE FIRST HAS ITS CAUSE in the one before it
abbrev pub EachHasCause : {M Q R : Type 0} → Life M Q R → Type 0
EachHasCause l = AllEndBy l.gave l.past l.era.cleared

-- of all slaves
abbrev pub AllHaveCause : List Leads → Type 0
AllHaveCause [] = ⊤
AllHaveCause (a ∷ as') = EachHasCause a.lived.life × AllHaveCause as'

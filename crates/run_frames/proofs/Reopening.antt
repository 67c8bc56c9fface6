-- A slave that is open behind a frame that came back: it stays open, or a state service that has drained begins to reopen it.
use Rattle.std.proofs.Common.{◌≡◌, ◌⊎◌, ℕ, suc, ◌≤◌, ◌==◌, ◌&&◌, not, Bool, true, false, Option, Some, None, List, [], ◌∷◌, refl, sym, ap, ◌∙◌, arith, if◌then◌else◌, inl, inr}
use Rattle.life_runs.specs.of_exchange_model.Exchange.{Speech}
use Rattle.life_runs.specs.of_segment_model.Record.{News, is_for}
use Rattle.life_runs.specs.of_segment_model.Slaves.{Datagram, Found}
use Rattle.life_runs.specs.of_state_model.Accounts.{Account, Duty, Stage, Progress, account_back, account_met, account_by, access_done}
use Rattle.life_runs.specs.of_life_model.Lives.{Era, Life, Stand, Spot, life_back, era_back, reopens, reopens_at, reopening, returns_to_init, opens_state}
use Rattle.life_runs.specs.of_life_model.Own.{own}
use Rattle.life_runs.specs.of_life_model.Gains.{gains, stage_gains, progress_gains, phase_gains}
use Rattle.life_runs.specs.of_state_model.States.{Phase}
use Rattle.run_frames.specs.Clocks.{goes_to_init, duty_reopens}

-- it stays as it is, or is reopened
pub data Reopens {M Q R : Type 0} (l : Life M Q R) (hand : Option Duty) : Type 0 where
  stays : duty_reopens hand ≡ 0 → reopens l hand ≡ l → Reopens l hand
  goes : (state : ℕ) → duty_reopens hand ≡ 1 → reopens l hand ≡ record l { stand = reopening state true } → Reopens l hand

pub reopens_or : {M Q R : Type 0} (l : Life M Q R) (hand : Option Duty) → Reopens l hand
reopens_or l None = Reopens.stays refl refl
reopens_or {M} {Q} {R} l (Some duty) = at duty.stage refl
  where
    at : (stage : Stage) → duty.stage ≡ stage → Reopens l (Some duty)
    at Stage.Drains e = Reopens.stays (ap (goes_to_init duty.target) e) (ap (reopens_at l duty.target) e)
    at (Stage.Goes phase) e = by (returns_to_init duty.target) refl
      where
        by : (b : Bool) → returns_to_init duty.target ≡ b → Reopens l (Some duty)
        by false f = Reopens.stays (ap (goes_to_init duty.target) e ∙ ap (λ (z : Bool). if z then 1 else 0) f) (ap (reopens_at l duty.target) e ∙ ap (λ (z : Bool). if z then record l { stand = reopening (opens_state duty.target) true } else l) f)
        by true f = Reopens.goes (opens_state duty.target) (ap (goes_to_init duty.target) e ∙ ap (λ (z : Bool). if z then 1 else 0) f)
            (ap (reopens_at l duty.target) e ∙ ap (λ (z : Bool). if z then record l { stand = reopening (opens_state duty.target) true } else l) f)

-- what the law of gains says of a state service
abbrev pub WentOn : (M Q R : Type 0) → Type 0
WentOn M Q R = (x : Speech M Q R) (acknowledged : Q → Bool) (more : M → Bool) (passed : Q → Bool) (frame : ℕ) (spot : Spot) (news : List (News M)) (back : List (Datagram M)) (came : Option (Bool × Option Found)) (l : Life M Q R) (d : Datagram M) (duty : Duty) →
    own spot.station back ≡ d ∷ [] → l.era.account.hand ≡ Some duty → is_for spot.station d.address ≡ true → (d.counter == 0) ≡ false → suc (stage_gains duty.stage) ≤ progress_gains {R = R} (access_done duty.target duty.stage d.access d.found) →
    suc (gains l) ≤ gains (life_back x acknowledged more passed frame spot news back came l Stand.Open)

-- an access that ends a drain
ends_drain : {Q R : Type 0} (stage : Stage) (frame : ℕ) (a : Account Q R) (duty : Duty) (p : Progress R) → goes_to_init duty.target stage ≡ 0 → duty_reopens (account_by frame a duty p).hand ≡ 1 → suc (stage_gains stage) ≤ progress_gains p
ends_drain stage frame a duty (Progress.Over answer) none one = absurd (cc)
ends_drain Stage.Drains frame a duty (Progress.On Stage.Drains) none one = absurd (cc)
ends_drain Stage.Drains frame a duty (Progress.On (Stage.Goes phase)) none one = some phase
  where
    some : (p : Phase) → 1 ≤ phase_gains p
    some Phase.Ask = omega arith
    some Phase.Await = omega arith
    some (Phase.Acknowledge state code) = omega arith
    some (Phase.Recover code) = omega arith
ends_drain (Stage.Goes old) frame a duty (Progress.On Stage.Drains) none one = absurd (cc)
ends_drain (Stage.Goes old) frame a duty (Progress.On (Stage.Goes phase)) none one = absurd (cc)

module _ {M Q R : Type 0} (x : Speech M Q R) (acknowledged : Q → Bool) (more : M → Bool) (passed : Q → Bool) (frame : ℕ) (spot : Spot) (news : List (News M)) (back : List (Datagram M)) (came : Option (Bool × Option Found)) (l : Life M Q R) where
  abbrev era : Era M Q R
  era = era_back x acknowledged more passed spot.station frame news back l.era

  abbrev opened : Life M Q R
  opened = life_back x acknowledged more passed frame spot news back came l Stand.Open

  -- a state service that begins to reopen the slave has gained
  pub going_gains : WentOn M Q R → duty_reopens l.era.account.hand ≡ 0 → (own spot.station back ≡ []) ⊎ ((d : Datagram M) × (own spot.station back ≡ d ∷ [])) → duty_reopens era.account.hand ≡ 1 → suc (gains l) ≤ gains opened
  going_gains went none (inl nothing) one = absurd (let same = ap (λ z. duty_reopens (account_back spot.station frame l.era.account z).hand) nothing in cc)
  going_gains went none (inr some) one = by l.era.account.hand refl
    where
      d : Datagram M
      d = some.0

      is : duty_reopens (account_met spot.station frame l.era.account l.era.account.hand d).hand ≡ 1
      is = sym (ap (λ z. duty_reopens (account_back spot.station frame l.era.account z).hand) some.1) ∙ one

      by : (hand : Option Duty) → l.era.account.hand ≡ hand → suc (gains l) ≤ gains opened
      by None e = absurd (let same = ap (λ z. duty_reopens (account_met spot.station frame l.era.account z d).hand) e in let no = ap duty_reopens e in cc)
      by (Some duty) e = at (is_for spot.station d.address) (d.counter == 0) refl refl
        where
          met : Bool → Account Q R
          met b = if b then account_by frame l.era.account duty (access_done duty.target duty.stage d.access d.found) else l.era.account

          at : (b c : Bool) → is_for spot.station d.address ≡ b → (d.counter == 0) ≡ c → suc (gains l) ≤ gains opened
          at true false f g =
              let now : duty_reopens (account_by frame l.era.account duty (access_done duty.target duty.stage d.access d.found)).hand ≡ 1 =
              sym (ap (λ z. duty_reopens (account_met spot.station frame l.era.account z d).hand) e ∙ ap (λ (z : Bool). duty_reopens (if z && not (d.counter == 0) then account_by frame l.era.account duty (access_done duty.target duty.stage d.access d.found) else l.era.account).hand) f
              ∙ ap (λ (z : Bool). duty_reopens (if not z then account_by frame l.era.account duty (access_done duty.target duty.stage d.access d.found) else l.era.account).hand) g) ∙ is in
              let before : goes_to_init duty.target duty.stage ≡ 0 = sym (ap duty_reopens e) ∙ none in
              went x acknowledged more passed frame spot news back came l d duty some.1 e f g (ends_drain duty.stage frame l.era.account duty (access_done duty.target duty.stage d.access d.found) before now)
          at true true f g = absurd (
              let now = ap (λ z. duty_reopens (account_met spot.station frame l.era.account z d).hand) e ∙ ap (λ (z : Bool). duty_reopens (if z && not (d.counter == 0) then account_by frame l.era.account duty (access_done duty.target duty.stage d.access d.found) else l.era.account).hand) f
              ∙ ap (λ (z : Bool). duty_reopens (if not z then account_by frame l.era.account duty (access_done duty.target duty.stage d.access d.found) else l.era.account).hand) g in
              cc)
          at false c f g = absurd (
              let now = ap (λ z. duty_reopens (account_met spot.station frame l.era.account z d).hand) e ∙ ap (λ (z : Bool). duty_reopens (if z && not (d.counter == 0) then account_by frame l.era.account duty (access_done duty.target duty.stage d.access d.found) else l.era.account).hand) f in
              cc)

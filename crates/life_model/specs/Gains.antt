-- WHAT A LIFE HAS GAINED: the mails that were told and heard, and the steps of its state services.
use Rattle.std.specs.Prelude.{ℕ, ◌+◌, Option, Some, None, List, [], ◌∷◌, length}
use Rattle.state_model.specs.of_exchange_model.Rows.{Row}
use Rattle.state_model.specs.of_link_model.Mails.{LinkMail}
use Rattle.state_model.specs.States.{Phase}
use Rattle.state_model.specs.of_segment_model.Seats.{Side}
use Rattle.state_model.specs.Accounts.{Stage, Duty, Change, Account, Progress}
use Rattle.life_model.specs.Lives.{Era, Life}

-- of a row: each mail told and each heard
abbrev pub row_gains : {M Q R : Type 0} → Row M Q R → ℕ
row_gains r = length r.told + length r.heard

-- of rows together
abbrev pub rows_gains : {M Q R : Type 0} → List (Row M Q R) → ℕ
rows_gains [] = 0
rows_gains (r ∷ rs) = row_gains r + rows_gains rs

-- of the newest row
abbrev pub newest_gains : {M Q R : Type 0} → Option (Row M Q R) → ℕ
newest_gains None = 0
newest_gains (Some r) = row_gains r

-- how far a state service has come: five steps at most
abbrev pub phase_gains : Phase → ℕ
phase_gains Phase.Ask = 1
phase_gains Phase.Await = 2
phase_gains (Phase.Acknowledge state code) = 3
phase_gains (Phase.Recover code) = 4

-- of a stage: none while it drains
abbrev pub stage_gains : Stage → ℕ
stage_gains Stage.Drains = 0
stage_gains (Stage.Goes phase) = phase_gains phase

-- of the state service in hand
abbrev pub duty_gains : Option Duty → ℕ
duty_gains None = 0
duty_gains (Some duty) = stage_gains duty.stage

-- what an access makes of it
abbrev pub progress_gains : {R : Type 0} → Progress R → ℕ
progress_gains (Progress.On stage) = stage_gains stage
progress_gains (Progress.Over answer) = 5

-- one that is over counts them all
abbrev pub changes_gains : {R : Type 0} → List (Change R) → ℕ
changes_gains [] = 0
changes_gains (c ∷ cs) = 5 + changes_gains cs

-- a mail taken up counts only when its write is done: until then the half isn't idle
abbrev pub idle_gains : {M : Type 0} → Option (LinkMail M) → ℕ
idle_gains None = 1
idle_gains (Some m) = 0

-- of the mails of an epoch
abbrev pub side_gains : {M Q R : Type 0} → Side M Q R → ℕ
side_gains d = rows_gains d.past + newest_gains d.now

-- of the state services of an epoch
abbrev pub account_gains : {Q R : Type 0} → Account Q R → ℕ
account_gains a = changes_gains a.over + duty_gains a.hand

-- of an epoch
abbrev pub era_gains : {M Q R : Type 0} → Era M Q R → ℕ
era_gains e = side_gains e.side + account_gains e.account

-- of epochs together
abbrev pub eras_gains : {M Q R : Type 0} → List (Era M Q R) → ℕ
eras_gains [] = 0
eras_gains (e ∷ es) = era_gains e + eras_gains es

-- OF A LIFE, 1 before the first frame
abbrev pub gains : {M Q R : Type 0} → Life M Q R → ℕ
gains l = eras_gains l.past + (era_gains l.era + idle_gains l.era.side.halves.out.holding)

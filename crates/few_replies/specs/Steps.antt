-- HOW FAR THE MAILS THAT ARE PASSED ON HAVE COME: four steps of each at most. It is sent, taken by mailbox 0, taken by the server, and then a reply came
-- or mailbox 1 was seen empty.
use Rattle.std.specs.Prelude.{ℕ, ◌+◌, ◌-◌, ◌*◌, ◌≤◌, Bool, if◌then◌else◌, Option, Some, None, List, [], ◌∷◌}
use Rattle.slave_parts.specs.of_segment_model.Ends.{Passing}
use Rattle.slave_parts.specs.of_state_model.Stated.{Service}
use Rattle.slave_parts.specs.of_state_model.Accounts.{Started}
use Rattle.slave_parts.specs.of_life_model.Lives.{Era, Life}

-- the steps that a mail has to come yet; none where it is over, or none is in hand
abbrev pub steps_left : Option Passing → ℕ
steps_left None = 0
steps_left (Some Passing.Waiting) = 4
steps_left (Some Passing.Sent) = 3
steps_left (Some Passing.Boxed) = 2
steps_left (Some Passing.Served) = 1
steps_left (Some Passing.Answered) = 0

-- one service: whether it passes a mail on
abbrev pub passed_one : {Q : Type 0} → (Q → Bool) → Service Q → ℕ
passed_one passed (Service.Mails q) = if passed q then 1 else 0
passed_one passed (Service.State target) = 0

-- THE MAILS PASSED ON among the services that came into hand
abbrev pub passed_in : {Q : Type 0} → (Q → Bool) → List (Started Q) → ℕ
passed_in passed [] = 0
passed_in passed (s ∷ ss) = passed_one passed s.service + passed_in passed ss

-- the steps that they have come in an epoch: all of those before, and of the newest but what it has to come yet
abbrev pub era_steps : {M Q R : Type 0} → (Q → Bool) → Era M Q R → ℕ
era_steps passed e = 4 * passed_in passed e.account.started - steps_left e.passing

-- in several epochs
abbrev pub eras_steps : {M Q R : Type 0} → (Q → Bool) → List (Era M Q R) → ℕ
eras_steps passed [] = 0
eras_steps passed (e ∷ es) = era_steps passed e + eras_steps passed es

-- OF A LIFE
abbrev pub life_steps : {M Q R : Type 0} → (Q → Bool) → Life M Q R → ℕ
life_steps passed l = eras_steps passed l.past + era_steps passed l.era

-- how many came into hand in several epochs
abbrev pub eras_passed : {M Q R : Type 0} → (Q → Bool) → List (Era M Q R) → ℕ
eras_passed passed [] = 0
eras_passed passed (e ∷ es) = passed_in passed e.account.started + eras_passed passed es

-- and in a life
abbrev pub life_passed : {M Q R : Type 0} → (Q → Bool) → Life M Q R → ℕ
life_passed passed l = eras_passed passed l.past + passed_in passed l.era.account.started

-- a mail that is under way came into hand
abbrev pub IsUnderWay : {M Q R : Type 0} → (Q → Bool) → Era M Q R → Type 0
IsUnderWay passed e = steps_left e.passing ≤ 4 * passed_in passed e.account.started

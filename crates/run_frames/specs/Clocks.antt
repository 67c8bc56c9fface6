-- THE SLAVES OF A RING BETWEEN TWO FRAMES: how the repair of each stands, and in how many frames all is repaired.
use Rattle.std.specs.Prelude.{ℕ, suc, ◌+◌, ◌-◌, ◌%◌, nat_le, nat_lt, Bool, if◌then◌else◌, Option, Some, None, List, [], ◌∷◌, map, length}
use Rattle.life_runs.specs.of_state_model.Accounts.{Stage, Duty}
use Rattle.life_runs.specs.of_life_model.Lives.{Era, Life, Spot, returns_to_init}
use Rattle.life_runs.specs.of_life_model.Deadlines.{Standing, deadline, repair}
use Rattle.life_runs.specs.of_life_model.Gains.{gains}
use Rattle.life_runs.specs.of_life_model.Repairs.{way_of}
use Rattle.life_runs.specs.of_life_model.Tally.{Tally}

-- a slave: its place, its life, behind how many frames its processor makes a step, and whether it made one since the access in hand is in hand
pub record Clocked (M Q R : Type 0) : Type 0 where
  pub spot : Spot
  pub life : Life M Q R
  pub pace : ℕ
  pub stepped : Bool

-- behind how many frames from this one on the next step comes: one does behind each whose number, counted from 1, the pace divides
abbrev pub clock_at : ℕ → ℕ → ℕ
clock_at pace number = pace - number % pace

-- how it stands in a ring of so many slaves, the slowest of this pace, where so many are visited before it
abbrev pub standing : {M Q R : Type 0} → ℕ → ℕ → ℕ → ℕ → Clocked M Q R → Standing
standing slaves slowest before number c = record { way = way_of slaves slowest c.life; ahead = before; clock = clock_at c.pace number; stepped = c.stepped }

-- in the first bring-up each frame carries the slave that is brought up, as in a ring of its own
abbrev pub alone : {M Q R : Type 0} → ℕ → ℕ → Clocked M Q R → Standing
alone slowest number c = standing 1 slowest 0 number c

-- a round begins behind the slave carried last
abbrev pub start_of : ℕ → Option ℕ → ℕ
start_of count None = 0
start_of count (Some last) = if nat_lt last count then last + 1 else 0

-- HOW MANY SLAVES OF THE RING, live or not, come before the one at this place
abbrev pub before_in : ℕ → ℕ → ℕ → ℕ
before_in count start place = if nat_le start place then place - start else place + (count - start)

-- where the one carried last is this
abbrev pub ahead_at : ℕ → Option ℕ → ℕ → ℕ
ahead_at count last place = before_in count (start_of count last) place

-- behind the first bring-up each slave, from this place on, is as far away as that
abbrev pub in_round : {M Q R : Type 0} → ℕ → ℕ → Option ℕ → ℕ → ℕ → List (Clocked M Q R) → List Standing
in_round slowest count last number place [] = []
in_round slowest count last number place (c ∷ cs) = standing count slowest (ahead_at count last place) number c ∷ in_round slowest count last number (suc place) cs

-- one behind the other
abbrev pub one_by_one : List Standing → ℕ
one_by_one [] = 0
one_by_one (s ∷ ss) = deadline 1 s + one_by_one ss

-- IN HOW MANY FRAMES ALL IS REPAIRED, if none is lost: in the first bring-up, while so many slaves of the ring have ended theirs, one by one, behind it
-- side by side
abbrev pub repair_of : {M Q R : Type 0} → ℕ → ℕ → ℕ → Option ℕ → ℕ → List (Clocked M Q R) → ℕ
repair_of slowest count opened last number cs = if nat_lt opened count then one_by_one (map (alone slowest number) cs) else repair count (in_round slowest count last number 0 cs)

-- a state service that has drained returns its slave to Init
abbrev pub goes_to_init : ℕ → Stage → ℕ
goes_to_init target Stage.Drains = 0
goes_to_init target (Stage.Goes phase) = if returns_to_init target then 1 else 0

-- the one in hand
abbrev pub duty_reopens : Option Duty → ℕ
duty_reopens None = 0
duty_reopens (Some duty) = goes_to_init duty.target duty.stage

-- of epochs: each ends by one such service at most, which stays in hand
abbrev pub eras_reopened : {M Q R : Type 0} → List (Era M Q R) → ℕ
eras_reopened [] = 0
eras_reopened (e ∷ es) = duty_reopens e.account.hand + eras_reopened es

-- HOW OFTEN A STATE SERVICE BEGAN TO REOPEN THE SLAVE
abbrev pub reopened : {M Q R : Type 0} → Life M Q R → ℕ
reopened l = eras_reopened l.past + duty_reopens l.era.account.hand

-- what all slaves have gained
abbrev pub gains_all : {M Q R : Type 0} → List (Clocked M Q R) → ℕ
gains_all [] = 0
gains_all (c ∷ cs) = gains c.life + gains_all cs

-- and how often they were reopened so
abbrev pub reopened_all : {M Q R : Type 0} → List (Clocked M Q R) → ℕ
reopened_all [] = 0
reopened_all (c ∷ cs) = reopened c.life + reopened_all cs

-- HOW MANY FRAMES IN A ROW came back with nothing gained, behind one more: none where a state service began to reopen a slave, as many where a repair
-- went on, none where something was gained
abbrev pub still_behind : {M Q R : Type 0} → ℕ → List (Clocked M Q R) → List (Clocked M Q R) → ℕ → ℕ
still_behind repair before behind still =
    if nat_lt (reopened_all before) (reopened_all behind) then 0
    else if nat_lt 0 repair then still
    else if nat_lt (gains_all before) (gains_all behind) then 0 else suc still

-- THE TALLY OF A RUN behind so many frames, of which so many were lost and so many came back at last with nothing gained; a life has 1 before the
-- first frame
abbrev pub tally_of : {M Q R : Type 0} → ℕ → ℕ → ℕ → Option ℕ → ℕ → ℕ → ℕ → List (Clocked M Q R) → Tally
tally_of slowest count opened last number lost still cs = record {
  frames = number;
  lost = lost;
  gains = gains_all cs - length cs;
  reopened = reopened_all cs;
  repair = repair_of slowest count opened last number cs;
  still = still;
}

-- ONE FRAME OF A RUN, for each slave of its ring.
use Rattle.std.specs.Prelude.{◌≡◌, ◌≤◌, ℕ, suc, ◌%◌, ◌==◌, ◌&&◌, not, Bool, true, false, if◌then◌else◌, Option, Some, None, List, [], ◌∷◌, ⊤}
use Rattle.life_runs.specs.of_exchange_model.Exchange.{Speech}
use Rattle.life_runs.specs.of_segment_model.Record.{News}
use Rattle.life_runs.specs.of_segment_model.Slaves.{Datagram, Found}
use Rattle.life_runs.specs.of_state_model.Accounts.{Pick}
use Rattle.life_runs.specs.of_life_model.Lives.{Stand, Life, Spot, life_next, life_back, life_lost, gives_up}
use Rattle.life_runs.specs.of_life_model.Own.{own}
use Rattle.life_runs.specs.of_life_model.Gains.{gains}
use Rattle.life_runs.specs.of_life_model.Repairs.{Way, way_of, StandsAt}
use Rattle.run_frames.specs.Clocks.{Clocked, duty_reopens}

-- the same access of a repair
abbrev pub is_same : Option Way → Option Way → Bool
is_same None None = true
is_same None (Some w) = false
is_same (Some v) None = false
is_same (Some v) (Some w) = (v.rest == w.rest) && (if v.awaits then w.awaits else not w.awaits)

-- WHETHER A SLAVE MADE A STEP since the access in hand is in hand: behind this frame, or before it, where the access stays in hand
abbrev pub stepped_behind : ℕ → ℕ → Bool → Bool → Bool
stepped_behind pace number same stepped = if suc number % pace == 0 then true else same && stepped

-- a slave behind a frame with this number
abbrev pub clocked_behind : {M Q R : Type 0} → ℕ → Clocked M Q R → Life M Q R → Clocked M Q R
clocked_behind number a l = record { spot = a.spot; life = l; pace = a.pace; stepped = stepped_behind a.pace number (is_same (way_of 1 1 a.life) (way_of 1 1 l)) a.stepped }

-- a slave before a frame: its life by some choice of the master's; whether the frame has a datagram for it, what an access of its opening brought, and what
-- the frame tells of a mail that is passed on
pub record Under (M Q R : Type 0) : Type 0 where
  pub life : Life M Q R
  pub under : Bool
  pub came : Option (Bool × Option Found)
  pub news : List (News M)

-- given up, or not
abbrev pub given_if : {M Q R : Type 0} → Bool → ℕ → Spot → ℕ → Life M Q R → Life M Q R
given_if false recover spot number l = l
given_if true recover spot number l = gives_up recover spot number l

-- while a slave is open, and while it is opened anew behind its return to Init, no state service in hand has begun to reopen it
abbrev pub HandAt : {M Q R : Type 0} → Life M Q R → Stand → Type 0
HandAt l (Stand.Opens o) = (o.again ≡ true → 3 ≤ o.step) → duty_reopens l.era.account.hand ≡ 0
HandAt l Stand.Open = duty_reopens l.era.account.hand ≡ 0
HandAt l Stand.Gone = ⊤

-- A SLAVE OF A RING, the slowest of which has this pace: its life stands where one may, it has gained 1 or more, and its pace is one
pub record IsClocked {M Q R : Type 0} (slowest : ℕ) (c : Clocked M Q R) : Type 0 where
  pub stands : StandsAt c.life c.life.stand
  pub hand : HandAt c.life c.life.stand
  pub gained : 1 ≤ gains c.life
  pub some : 1 ≤ c.pace
  pub most : c.pace ≤ slowest

-- each of these
abbrev pub AllClocked : {M Q R : Type 0} → ℕ → List (Clocked M Q R) → Type 0
AllClocked slowest [] = ⊤
AllClocked slowest (c ∷ cs) = IsClocked slowest c × AllClocked slowest cs

-- the frame carries none of these slaves
abbrev pub NoneUnder : {M Q R : Type 0} → List (Under M Q R) → Type 0
NoneUnder [] = ⊤
NoneUnder (u ∷ us) = (u.under ≡ false) × NoneUnder us

-- it carries one of them at most
pub data OneUnder {M Q R : Type 0} : List (Under M Q R) → Type 0 where
  none : (us : List (Under M Q R)) → NoneUnder us → OneUnder us
  here : (u : Under M Q R) (us : List (Under M Q R)) → NoneUnder us → OneUnder (u ∷ us)
  there : (u : Under M Q R) (us : List (Under M Q R)) → u.under ≡ false → OneUnder us → OneUnder (u ∷ us)

module _ {M Q R : Type 0} (x : Spot → Speech M Q R) (acknowledged : Q → Bool) (more : M → Bool) (passed : Q → Bool) where
  -- its life before the frame is by some choice, and a frame that has no datagram for it has none to its station
  pub record IsUnder (number : ℕ) (sent : List (Datagram M)) (a : Clocked M Q R) (u : Under M Q R) : Type 0 where
    pub pick : Pick Q
    pub life : u.life ≡ life_next (x a.spot) acknowledged more passed number a.life a.life.stand pick
    pub none : u.under ≡ false → own a.spot.station sent ≡ []

  -- of all slaves
  abbrev pub AllUnder : ℕ → List (Datagram M) → List (Clocked M Q R) → List (Under M Q R) → Type 0
  AllUnder number sent [] [] = ⊤
  AllUnder number sent (a ∷ as') (u ∷ us) = IsUnder number sent a u × AllUnder number sent as' us
  AllUnder number sent _ _ = ⊥

  -- BEHIND A LOST FRAME, by which the slaves that it carried are given up, or aren't
  abbrev pub lost_life : Bool → ℕ → ℕ → List (Datagram M) → Clocked M Q R → Under M Q R → Life M Q R
  lost_life gives recover number sent a u = given_if (gives && u.under) recover a.spot number (life_lost (x a.spot) acknowledged more passed a.spot u.news sent u.life u.life.stand)

  -- of all slaves
  abbrev pub all_lost : Bool → ℕ → ℕ → List (Datagram M) → List (Clocked M Q R) → List (Under M Q R) → List (Clocked M Q R)
  all_lost gives recover number sent (a ∷ as') (u ∷ us) = clocked_behind number a (lost_life gives recover number sent a u) ∷ all_lost gives recover number sent as' us
  all_lost gives recover number sent _ _ = []

  -- BEHIND ONE THAT CAME BACK
  abbrev pub back_life : ℕ → List (Datagram M) → Clocked M Q R → Under M Q R → Life M Q R
  back_life number back a u = life_back (x a.spot) acknowledged more passed number a.spot u.news back u.came u.life u.life.stand

  -- of all slaves
  abbrev pub all_back : ℕ → List (Datagram M) → List (Clocked M Q R) → List (Under M Q R) → List (Clocked M Q R)
  all_back number back (a ∷ as') (u ∷ us) = clocked_behind number a (back_life number back a u) ∷ all_back number back as' us
  all_back number back _ _ = []

-- WHAT A FRAME THAT CAME BACK BROUGHT A SLAVE: its repair goes on by what the access in hand asks for.
use Rattle.std.specs.Prelude.{◌≡◌, ℕ, ◌==◌, ◌&&◌, Bool, true, false, Option, Some, None, List, [], ◌∷◌, ⊤}
use Rattle.life_runs.specs.of_link_model.Frames.{Ask, in_ask}
use Rattle.life_runs.specs.of_link_model.Mails.{LinkMail, differs}
use Rattle.life_runs.specs.of_link_model.Master.{InState}
use Rattle.life_runs.specs.of_segment_model.Slaves.{Datagram, Found}
use Rattle.life_runs.specs.of_life_model.Lives.{Opening, Stand, is_shown}
use Rattle.life_runs.specs.of_life_model.Own.{own}
use Rattle.life_runs.specs.of_life_model.Repairs.{awaits_at, awaited}
use Rattle.run_frames.specs.Clocks.{Clocked}
use Rattle.run_frames.specs.Goes.{Under}

-- an access of an opening came back; one that awaits a step shows the state, where the slave made a step since it is in hand
pub record OpeningBrings (stepped : Bool) (o : Opening) (came : Option (Bool × Option Found)) : Type 0 where
  pub done : Bool
  pub found : Option Found
  pub is : came ≡ Some (done, found)
  pub shows : awaits_at o.again o.step ≡ true → stepped ≡ true → (done && is_shown (awaited o) found) ≡ true

-- what an open slave is asked where nothing is in doubt: anything but the request to read again, and its acknowledge
pub data AsksClear {M : Type 0} : Ask M → Type 0 where
  write : (m : LinkMail M) → AsksClear (Ask.WriteMail m)
  read : AsksClear Ask.ReadMail
  other : AsksClear Ask.Other

-- by the inward half: where a read was lost, it is its own datagram, which was met; the acknowledge is the one asked for, where the slave made a step
-- since
abbrev pub HalfAsks : {M : Type 0} → Bool → InState → Bool → Datagram M → Type 0
HalfAsks stepped InState.Clear bit d = AsksClear d.gram.ask
HalfAsks stepped InState.Doubt bit d = (d.gram.ask ≡ in_ask InState.Doubt bit) × ((d.gram.counter == 0) ≡ false)
HalfAsks stepped InState.Asked bit d = (d.gram.ask ≡ in_ask InState.Asked bit) × (stepped ≡ true → ((d.gram.counter == 0) ≡ false) × (differs d.gram.acknowledge bit ≡ false))
HalfAsks stepped InState.Refetch bit d = d.gram.ask ≡ in_ask InState.Refetch bit

-- the slave's datagram came back
pub record HalfBrings {M : Type 0} (station : ℕ) (stepped : Bool) (state : InState) (bit : Bool) (back : List (Datagram M)) : Type 0 where
  pub datagram : Datagram M
  pub one : own station back ≡ datagram ∷ []
  pub station_is : datagram.gram.station ≡ station
  pub asks : HalfAsks stepped state bit datagram

-- by how the master stands to the slave
abbrev pub StandBrings : {M Q R : Type 0} → List (Datagram M) → Clocked M Q R → Under M Q R → Stand → Type 0
StandBrings back a u (Stand.Opens o) = OpeningBrings a.stepped o u.came
StandBrings back a u Stand.Open = HalfBrings a.spot.station a.stepped u.life.era.side.halves.inn.state u.life.era.side.halves.inn.bit back
StandBrings back a u Stand.Gone = ⊥

-- A FRAME THAT CAME BACK, for a slave: nothing where it had no datagram for it
pub record Brings {M Q R : Type 0} (back : List (Datagram M)) (a : Clocked M Q R) (u : Under M Q R) : Type 0 where
  pub none : u.under ≡ false → (own a.spot.station back ≡ []) × (u.came ≡ None)
  pub some : u.under ≡ true → StandBrings back a u u.life.stand

-- for each slave
abbrev pub AllBring : {M Q R : Type 0} → List (Datagram M) → List (Clocked M Q R) → List (Under M Q R) → Type 0
AllBring back [] [] = ⊤
AllBring back (a ∷ as') (u ∷ us) = Brings back a u × AllBring back as' us
AllBring back _ _ = ⊥

-- WHAT A LIFE HAS TO REPAIR before its mailboxes gain anything: it is opened, or its inward half finds its way back from a lost read.
use Rattle.std.specs.Prelude.{◌≡◌, ℕ, ◌+◌, ◌*◌, ◌-◌, ◌≤◌, ◌==◌, ◌||◌, ◌&&◌, nat_lt, Bool, true, false, if◌then◌else◌, Option, Some, None}
use Rattle.state_model.specs.of_link_model.Master.{InState}
use Rattle.state_model.specs.of_link_model.Mails.{differs}
use Rattle.state_model.specs.of_link_model.Frames.{in_ask}
use Rattle.state_model.specs.of_segment_model.Slaves.{Datagram, Found}
use Rattle.life_model.specs.Lives.{Opening, Stand, Life, last_step, shows_clear, is_shown}

-- how far a repair is: in how many frames at most what comes behind its access in hand is done, and whether that access is in vain until the slave
-- makes a step
pub record Way : Type 0 where
  pub rest : ℕ
  pub awaits : Bool

-- an access of an opening, or of a reopening, that is repeated until the slave shows a state
abbrev pub awaits_at : Bool → ℕ → Bool
awaits_at true step = step == 2 || step == 9
awaits_at false step = step == 5

-- how many such accesses come behind this one, and how many accesses
abbrev pub awaited_behind : Bool → ℕ → ℕ
awaited_behind true step = (if nat_lt step 2 then 1 else 0) + (if nat_lt step 9 then 1 else 0)
awaited_behind false step = if nat_lt step 5 then 1 else 0

-- how many accesses of an opening come behind this one
abbrev pub accesses_behind : Bool → ℕ → ℕ
accesses_behind true step = 9 - step
accesses_behind false step = 5 - step

-- each access takes a round at most, and one that awaits a step the time until the slowest slave makes one
abbrev pub opening_rest : ℕ → ℕ → Bool → ℕ → ℕ
opening_rest slaves pace again step = accesses_behind again step * slaves + awaited_behind again step * pace

-- the way of an opening that is left
abbrev pub opening_way : ℕ → ℕ → Opening → Way
opening_way slaves pace o = record { rest = opening_rest slaves pace o.again o.step; awaits = awaits_at o.again o.step }

-- a lost read: the repeat request is written, its acknowledge is read, and mailbox 1 is read again
abbrev pub half_way : ℕ → ℕ → InState → Option Way
half_way slaves pace InState.Clear = None
half_way slaves pace InState.Doubt = Some (record { rest = 2 * slaves + pace; awaits = false })
half_way slaves pace InState.Asked = Some (record { rest = slaves; awaits = true })
half_way slaves pace InState.Refetch = Some (record { rest = 0; awaits = false })

-- by how the master stands to the slave
abbrev pub stand_way : ℕ → ℕ → InState → Stand → Option Way
stand_way slaves pace state (Stand.Opens o) = Some (opening_way slaves pace o)
stand_way slaves pace state Stand.Open = half_way slaves pace state
stand_way slaves pace state Stand.Gone = None

-- THE REPAIR OF A LIFE, in a ring of so many slaves, of which the slowest makes a step behind each `pace` frames
abbrev pub way_of : {M Q R : Type 0} → ℕ → ℕ → Life M Q R → Option Way
way_of slaves pace l = stand_way slaves pace l.era.side.halves.inn.state l.stand

-- what an access and all behind it take, where the slave is visited next in a round from now
abbrev pub whole_way : ℕ → ℕ → Option Way → ℕ
whole_way slaves pace None = 0
whole_way slaves pace (Some w) = w.rest + (slaves + (if w.awaits then pace else 0))

-- an opening is at one of its accesses, and from where the return to Init was seen its epoch is new
pub record IsAt {M Q R : Type 0} (l : Life M Q R) (o : Opening) : Type 0 where
  pub first : 1 ≤ o.step
  pub last : o.step ≤ last_step o
  pub new : (o.again ≡ true → 3 ≤ o.step) → l.era.side.halves.inn.state ≡ InState.Clear

-- how a life stands to what it has come to
abbrev pub StandsAt : {M Q R : Type 0} → Life M Q R → Stand → Type 0
StandsAt l (Stand.Opens o) = IsAt l o
StandsAt l Stand.Open = Unit {0}
StandsAt l Stand.Gone = Unit {0}

-- the state that such an access awaits
abbrev pub awaited : Opening → ℕ
awaited o = if shows_clear o then 1 else o.state

-- THE ACCESS OF AN OPENING IS DONE: one that awaits a step was met by the slave, and shows the state
abbrev pub IsDone : Opening → Bool → Option Found → Type 0
IsDone o done found = awaits_at o.again o.step ≡ true → (done && is_shown (awaited o) found) ≡ true

-- A REPAIR GOES ON: what is left takes no longer than what was left behind the access that was in hand
pub record GoesOn {M Q R : Type 0} (slaves pace rest : ℕ) (l : Life M Q R) : Type 0 where
  pub whole : whole_way slaves pace (way_of slaves pace l) ≤ rest
  pub stands : StandsAt l l.stand

-- the access of the inward half is done: it was met, and an acknowledge is the one asked for
pub record IsAnswered {M : Type 0} (station : ℕ) (state : InState) (bit : Bool) (d : Datagram M) : Type 0 where
  pub station_is : d.gram.station ≡ station
  pub ask : d.gram.ask ≡ in_ask state bit
  pub met : state ≡ InState.Doubt → (d.gram.counter == 0) ≡ false
  pub acknowledged : state ≡ InState.Asked → ((d.gram.counter == 0) ≡ false) × (differs d.gram.acknowledge bit ≡ false)

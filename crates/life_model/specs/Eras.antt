-- The epochs of a slave, each a session of its own over the slave's own datagrams.
use Rattle.std.specs.Prelude.{◌≡◌, ℕ, suc, ◌-◌, Some, None, List, [], ◌∷◌, ◌++◌, map, replicate, take, drop, length}
use Rattle.state_model.specs.of_exchange_model.Exchange.{Exchange, IsLawful}
use Rattle.state_model.specs.of_segment_model.Slaves.{Registers, Processor, Slave, Ring, Move, ring_after, ring_steps}
use Rattle.state_model.specs.of_segment_model.Record.{Frame, frame_of}
use Rattle.state_model.specs.of_segment_model.Seats.{Planned, new_seat}
use Rattle.state_model.specs.States.{Table}
use Rattle.state_model.specs.Stated.{Stated, IsStated}
use Rattle.state_model.specs.Tasks.{IsTaskPlan, IsTasked}
use Rattle.life_model.specs.Own.{own_frame, blank}
use Rattle.life_model.specs.Alone.{Stands}
use Rattle.life_model.specs.Lives.{Spot, Era}

-- THE FRAMES OF AN EPOCH: blank ones up to the one that opened it, so that all keep their numbers, and then the slave's own datagrams, up to
-- frame `end`
abbrev pub era_frames : {M : Type 0} → Spot → ℕ → ℕ → List (Frame M) → List (Frame M)
era_frames spot opened end fs = replicate (suc opened) blank ++ map (λ f. own_frame spot.station spot.place f) (take (end - suc opened) (drop (suc opened) fs))

-- a slave with this server and these registers, as a plan has it
abbrev pub planned : {V : Type 0} → Spot → V → Registers → Planned V
planned spot v r = record { station = spot.station; server = v; registers = r }

-- the slave as its opening leaves it: both mailboxes empty, all counters anew
abbrev pub opened_slave : {V : Type 0} → (M Q R : Type 0) → Spot → V → Registers → Slave V M
opened_slave M Q R spot v r = (new_seat {M = M} {Q = Q} {R = R} (planned spot v r)).slave

-- AN EPOCH OF A SLAVE: from the server and the registers that its opening left, over its own frames up to `end`, the master's side and account
-- and the slave are a session of one slave
pub record EraIs {V A M Q R : Type 0} (x : Exchange V A M Q R) (s : Stated V A Q) (processor : Processor V) (table : ℕ → Table) (spot : Spot) (e : Era M Q R) (opened end : ℕ)
    (fs : List (Frame M)) (v : V) (r : Registers) (slave : Slave V M) : Type 0 where
  pub plan : IsTaskPlan x s processor table (planned spot v r ∷ [])
  pub answers : r.station ≡ spot.station
  pub opened_at : e.opened ≡ Some opened
  pub tasked : IsTasked x s.acknowledged processor (planned spot v r ∷ []) ((spot.station, e.side) ∷ []) (e.account ∷ []) ((spot.station, slave) ∷ []) (era_frames spot opened end fs)

-- AN OPEN EPOCH as it stands, of an exchange that owes the laws and whose AL state is a part of its application
pub record OpenEra (V A M Q R : Type 0) : Type 0 where
  pub exchange : Exchange V A M Q R
  pub states : Stated V A Q
  pub processor : Processor V
  pub table : ℕ → Table
  pub spot : Spot
  pub era : Era M Q R
  pub opened : ℕ
  pub end : ℕ
  pub frames : List (Frame M)
  pub server : V
  pub registers : Registers
  pub slave : Slave V M
  pub lawful : IsLawful exchange
  pub stated : IsStated exchange states
  pub is : EraIs exchange states processor table spot era opened end frames server registers slave

-- its own frames
abbrev pub frames_of : {V A M Q R : Type 0} → OpenEra V A M Q R → List (Frame M)
frames_of w = era_frames w.spot w.opened w.end w.frames

-- THE EPOCH GOES ON by a move of the ring: its slave stays that of the ring, and the epoch is a session behind the frame too
pub record EraGoesOn {V A M Q R : Type 0} (x : Exchange V A M Q R) (s : Stated V A Q) (processor : Processor V) (table : ℕ → Table) (spot : Spot) (e : Era M Q R) (opened : ℕ)
    (fs : List (Frame M)) (v : V) (r : Registers) (whole : Ring V M) (m : Move M) : Type 0 where
  pub slave : Slave V M
  pub stands : Stands spot.station spot.place (ring_steps x processor (ring_after whole m.sent m.fate) m.steps) ((spot.station, slave) ∷ [])
  pub era : EraIs x s processor table spot e opened (suc (length fs)) (fs ++ frame_of whole m ∷ []) v r slave

-- what a return to Init does to a server, and to its application
pub record Clearing (V A : Type 0) : Type 0 where
  pub clear : V → V
  pub cleared : A → A

-- the application sees the clearing
abbrev pub IsClearing : {V A M Q R : Type 0} → Exchange V A M Q R → Clearing V A → Type 0
IsClearing {V} x c = (v : V) → x.app (c.clear v) ≡ c.cleared (x.app v)

-- an epoch that was open up to a frame: it began with this application, told the AL state that was opened, and its slave left that one
pub record WasOpen {V A M Q R : Type 0} (x : Exchange V A M Q R) (s : Stated V A Q) (processor : Processor V) (table : ℕ → Table) (spot : Spot) (e : Era M Q R) (fs : List (Frame M)) (from to : A) : Type 0 where
  pub opened : ℕ
  pub until : ℕ
  pub server : V
  pub registers : Registers
  pub slave : Slave V M
  pub begins : x.app server ≡ s.told registers.state from
  pub era : EraIs x s processor table spot e opened until fs server registers slave
  pub leaves : x.app slave.node.server.server ≡ to

-- ALL EPOCHS BUT THE NEWEST, from one application to another: each that was opened begins with what the one before left, cleared and told the
-- AL state that was opened; one that wasn't opened leaves it, cleared
pub data Eras {V A M Q R : Type 0} (x : Exchange V A M Q R) (s : Stated V A Q) (processor : Processor V) (table : ℕ → Table) (cleared : A → A) (spot : Spot) (fs : List (Frame M)) : A → List (Era M Q R) → A → Type 0 where
  none : (a : A) → Eras x s processor table cleared spot fs a [] a
  closed : (a : A) (es : List (Era M Q R)) (b : A) (e : Era M Q R) → Eras x s processor table cleared spot fs a es b → e.opened ≡ None → Eras x s processor table cleared spot fs a (es ++ e ∷ []) (cleared b)
  opened : (a : A) (es : List (Era M Q R)) (b : A) (e : Era M Q R) (left : A) → Eras x s processor table cleared spot fs a es b → WasOpen x s processor table spot e fs b left →
      Eras x s processor table cleared spot fs a (es ++ e ∷ []) (cleared left)

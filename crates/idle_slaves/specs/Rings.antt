-- THE SLAVES OF A RING, by a frame that came back and gained nothing.
use Rattle.std.specs.Prelude.{◌≡◌, ◌⊎◌, ℕ, Bool, List, [], ◌∷◌, ⊤}
use Rattle.plan_ring.specs.of_exchange_model.Exchange.{Speech}
use Rattle.plan_ring.specs.of_life_model.Lives.{Life, Spot, Stand, life_next}
use Rattle.plan_ring.specs.of_link_model.Slave.{Node, Server}
use Rattle.plan_ring.specs.of_run_frames.Clocks.{Clocked}
use Rattle.plan_ring.specs.of_run_frames.Goes.{Under, back_life}
use Rattle.plan_ring.specs.of_run_frames.Waits.{Waits, waits_on}
use Rattle.plan_ring.specs.of_segment_model.Slaves.{Datagram, Registers}
use Rattle.plan_ring.specs.of_state_model.States.{Table}
use Rattle.plan_ring.specs.of_state_model.Accounts.{Pick}
use Rattle.idle_slaves.specs.Frames.{InVain, node_on, memory_on}
use Rattle.idle_slaves.specs.Going.{Going, AccessVain, registers_on}
use Rattle.idle_slaves.specs.Visited.{Waiting, LifeSpent}
use Rattle.idle_slaves.specs.Waiting.{Memory}

-- a slave between two frames: what serves it and what its table answers, its mailboxes and registers, and what its master remembers of its visits
pub record Kept (M S : Type 0) : Type 0 where
  pub server : Server M S
  pub table : Table
  pub node : Node M S
  pub registers : Registers
  pub memory : Memory

-- HOW IT STANDS since something was gained last: given up for good, or open with nothing in doubt, before a state service has drained or behind that
pub data Stays {M Q R S : Type 0} (s : Kept M S) (l : Life M Q R) (t : Waits) : Type 0 where
  gone : l.stand ≡ Stand.Gone → Stays s l t
  waits : Waiting s.server l s.node s.memory t → Stays s l t
  goes : Going s.table l s.registers t → Stays s l t

module _ {M Q R : Type 0} (x : Spot → Speech M Q R) (acknowledged : Q → Bool) (more : M → Bool) (passed : Q → Bool) (number : ℕ) (back : List (Datagram M)) where
  -- NOTHING WAS GAINED OF IT by the frame
  pub data IsVainFor {S : Type 0} (s : Kept M S) (a : Clocked M Q R) (u : Under M Q R) (t : Waits) : Type 0 where
    gone : (pick : Pick Q) → a.life.stand ≡ Stand.Gone → u.life ≡ life_next (x a.spot) acknowledged more passed number a.life a.life.stand pick → IsVainFor s a u t
    waits : Waiting s.server a.life s.node s.memory t → InVain x acknowledged more passed number back a u s.node s.memory t → IsVainFor s a u t
    goes : (g : Going s.table a.life s.registers t) → AccessVain x acknowledged more passed number back a u g.duty g.phase s.registers → IsVainFor s a u t

  -- nor of any of these
  abbrev pub AllVain : {S : Type 0} → List (Kept M S) → List (Clocked M Q R) → List (Under M Q R) → List Waits → Type 0
  AllVain [] [] [] [] = ⊤
  AllVain (s ∷ ss) (a ∷ as') (u ∷ us) (t ∷ ts) = IsVainFor s a u t × AllVain ss as' us ts
  AllVain _ _ _ _ = ⊥

  -- the slave behind it
  abbrev pub kept_on : {S : Type 0} → Kept M S → Clocked M Q R → Under M Q R → Kept M S
  kept_on s a u = record { server = s.server; table = s.table; node = node_on s.server number a s.node; registers = registers_on s.table number a s.registers; memory = memory_on a u s.memory }

  -- each stands so behind it
  abbrev pub AllStay : {S : Type 0} → List (Kept M S) → List (Clocked M Q R) → List (Under M Q R) → List Waits → Type 0
  AllStay (s ∷ ss) (a ∷ as') (u ∷ us) (t ∷ ts) = Stays (kept_on s a u) (back_life x acknowledged more passed number back a u) (waits_on number a u t) × AllStay ss as' us ts
  AllStay _ _ _ _ = ⊤

-- EACH SLAVE IS SPENT that wasn't given up for good
abbrev pub AllSpent : {M Q R S : Type 0} → List (Kept M S) → List (Clocked M Q R) → Type 0
AllSpent (s ∷ ss) (a ∷ as') = ((a.life.stand ≡ Stand.Gone) ⊎ LifeSpent s.server a.life s.node) × AllSpent ss as'
AllSpent _ _ = ⊤

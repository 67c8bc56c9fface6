-- How an epoch ends: its slave meets, by its place, the word that returns it to Init, and the step that carries it out clears the server.
use Rattle.std.specs.Prelude.{◌≡◌, ◌⊎◌, ℕ, ◌==◌, true, false, if◌then◌else◌, Some, None, List, [], ◌∷◌, ◌++◌, ⊤}
use Rattle.state_model.specs.of_exchange_model.Exchange.{Exchange}
use Rattle.state_model.specs.of_link_model.Slave.{Node}
use Rattle.state_model.specs.of_segment_model.Slaves.{Serving, Registers, Processor, Slave, Datagram, Access, is_meant, slave_after, slave_steps}
use Rattle.life_model.specs.Own.{own, AreSeen}
use Rattle.life_model.specs.Eras.{Clearing, IsClearing}

-- no datagram of these means a slave with these registers
abbrev pub NoneMean : {M : Type 0} → Registers → List (Datagram M) → Type 0
NoneMean r [] = ⊤
NoneMean r (d ∷ ds) = (is_meant r d.address ≡ false) × NoneMean r ds

-- A FRAME RETURNS THE SLAVE TO INIT: it has nothing addressed to the slave's station, and means the slave by one datagram, which writes the control
-- word with target Init that acknowledges an error flag
pub record ReturnsIt {V M : Type 0} (station : ℕ) (s : Slave V M) (ds : List (Datagram M)) : Type 0 where
  pub before : List (Datagram M)
  pub word : Datagram M
  pub behind : List (Datagram M)
  pub all : ds ≡ before ++ word ∷ behind
  pub seen : AreSeen ds
  pub none : own station ds ≡ []
  pub first : NoneMean s.registers before
  pub meant : is_meant s.registers word.address ≡ true
  pub access : word.access ≡ Access.SetControl 1 true
  pub last : NoneMean s.registers behind

-- the slave with that word
abbrev pub worded : {V M : Type 0} → Slave V M → Slave V M
worded s = record s { registers = record s.registers { control = Some (1, true) } }

-- a datagram of the rest of the return: it doesn't mean the slave, writes that word again, or reads the status
abbrev pub IsClosing : {M : Type 0} → Registers → Datagram M → Type 0
IsClosing r d = (is_meant r d.address ≡ false) ⊎ ((d.access ≡ Access.SetControl 1 true) ⊎ (d.access ≡ Access.ReadState))

-- a frame of such, with nothing addressed to the slave's station
abbrev pub AreClosing : {M : Type 0} → Registers → List (Datagram M) → Type 0
AreClosing r [] = ⊤
AreClosing r (d ∷ ds) = IsClosing r d × AreClosing r ds

-- one frame of the rest of the return: it can be read, has nothing for the slave's station, and is of such datagrams alone
pub record FrameCloses {M : Type 0} (station : ℕ) (r : Registers) (ds : List (Datagram M)) : Type 0 where
  pub seen : AreSeen ds
  pub none : own station ds ≡ []
  pub closing : AreClosing r ds

-- each of these
abbrev pub AllClose : {M : Type 0} → ℕ → Registers → List (List (Datagram M)) → Type 0
AllClose station r [] = ⊤
AllClose station r (ds ∷ fs) = FrameCloses station r ds × AllClose station r fs

-- the slave behind frames
abbrev pub behind_all : {V M : Type 0} → ℕ → Slave V M → List (List (Datagram M)) → Slave V M
behind_all station s [] = s
behind_all station s (ds ∷ fs) = behind_all station (slave_after station s ds) fs

-- A RETURN TO INIT: nothing is remembered of mails taken, offered, read or withdrawn, the acknowledge is set equal to the request, and the server
-- is cleared, with nothing waiting in it
abbrev pub node_returned : {V M : Type 0} → (V → V) → Node M (Serving V M) → Node M (Serving V M)
node_returned clear n = record {
  out = record { box = n.out.box; last_taken = 0 };
  inn = record { box = n.inn.box; offered = None; again = false; last_read = None; withdrawn = None; newest = 0; request = n.inn.request; acknowledge = n.inn.request };
  server = record { server = clear n.server.server; waiting = [] };
}

-- a step of a processor that may carry out such a word: then no mail is taken or offered
abbrev pub steps_or_returns : {V A M Q R : Type 0} → Exchange V A M Q R → Processor V → (V → V) → Slave V M → Slave V M
steps_or_returns x processor clear s =
    if (processor.carry s.registers).state == 1 then record { node = node_returned clear s.node; registers = processor.carry s.registers } else slave_steps x processor s

-- THE EPOCH HAS ENDED: the slave is in Init, its server is the one that stood when it met the word, cleared, and so is its application
pub record HasEnded {V A M Q R : Type 0} (x : Exchange V A M Q R) (clear : V → V) (cleared : A → A) (stood now : Slave V M) : Type 0 where
  pub state : now.registers.state ≡ 1
  pub server : now.node.server ≡ record { server = clear stood.node.server.server; waiting = [] }
  pub app : x.app now.node.server.server ≡ cleared (x.app stood.node.server.server)

-- A RETURN TO INIT as its slave takes it: the frame that returns it, those behind that close it, and a step that carries the word out
pub record Returning (V A M Q R : Type 0) : Type 0 where
  pub exchange : Exchange V A M Q R
  pub processor : Processor V
  pub clearing : Clearing V A
  pub sees : IsClearing exchange clearing
  pub station : ℕ
  pub slave : Slave V M
  pub frame : List (Datagram M)
  pub later : List (List (Datagram M))
  pub returns : ReturnsIt station slave frame
  pub closes : AllClose station slave.registers later
  pub carries : (processor.carry (worded slave).registers).state ≡ 1

-- the slave behind that step
abbrev pub returned : {V A M Q R : Type 0} → Returning V A M Q R → Slave V M
returned w = steps_or_returns w.exchange w.processor w.clearing.clear (behind_all w.station (slave_after w.station w.slave w.frame) w.later)

-- the epoch has ended with it
abbrev pub EndsIt : {V A M Q R : Type 0} → Returning V A M Q R → Type 0
EndsIt w = HasEnded w.exchange w.clearing.clear w.clearing.cleared w.slave (returned w)

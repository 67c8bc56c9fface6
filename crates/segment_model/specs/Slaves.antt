-- Slaves as frames see them: two mailboxes with a server behind them, and the registers beside them. Frames as data, over a ring of slaves.
use Rattle.std.specs.Prelude.{◌≡◌, ℕ, zero, suc, ◌%◌, ◌==◌, Bool, true, false, is_some, if◌then◌else◌, Option, Some, None, List, [], ◌∷◌, ◌++◌, map, drop}
use Rattle.exchange_model.specs.Exchange.{Exchange}
use Rattle.link_model.specs.Slave.{Node, Server, node_look, node_serve}
use Rattle.link_model.specs.Frames.{Gram, node_meets, gram_meets}
use Rattle.link_model.specs.Segment.{RingFate}

-- a server with the mails that wait in it
pub record Serving (V M : Type 0) : Type 0 where
  pub server : V
  pub waiting : List M

-- the mail that waits longest
abbrev pub first_waiting : {M : Type 0} → List M → Option M
first_waiting [] = None
first_waiting (m ∷ ms) = Some m

-- the server of an exchange behind its mailboxes: what it gives waits there, and leaves one by one
abbrev pub serving : {V A M Q R : Type 0} → Exchange V A M Q R → Server M (Serving V M)
serving x = record {
  take = λ s m. record { server = (x.serve s.server m).0; waiting = s.waiting ++ (x.serve s.server m).1 };
  next = λ s. first_waiting s.waiting;
  rest = λ s. record s { waiting = drop 1 s.waiting };
}

-- the registers beside the mailboxes: the station address; whether sync managers 0 and 1 are set as the slave's own and enabled; a control
-- word that is not yet carried out, by its target and its acknowledge bit; the AL state; and the AL status code where the error flag stands
pub record Registers : Type 0 where
  pub station : ℕ
  pub first : Bool
  pub second : Bool
  pub control : Option (ℕ × Bool)
  pub state : ℕ
  pub refused : Option ℕ

-- whom a datagram means: the slave with this station address, the slave so many places further on, or a place that was passed
pub data Address : Type 0 where
  Station : ℕ → Address
  Place : ℕ → Address
  Passed : Address

-- what a datagram asks of the registers beside the mailboxes: to set the station address, to set sync manager 0 or 1, to set the control
-- word, to read AL status and code, to read the status of mailbox 0, or none of these
pub data Access : Type 0 where
  SetStation : ℕ → Access
  SetFirst : Bool → Access
  SetSecond : Bool → Access
  SetControl : ℕ → Bool → Access
  ReadState : Access
  ReadFull : Access
  Elsewhere : Access

-- what a read of a register brings: AL state, with the code where the error flag stands; whether mailbox 0 is full
pub data Found : Type 0 where
  State : ℕ → Option ℕ → Found
  Full : Bool → Found

-- a datagram: what a link sees of it, and what it asks of the other registers, with the working counter and the find of that access
pub record Datagram (M : Type 0) : Type 0 where
  pub gram : Gram M
  pub address : Address
  pub access : Access
  pub counter : ℕ
  pub found : Option Found

-- what the links see of a frame
abbrev pub grams : {M : Type 0} → List (Datagram M) → List (Gram M)
grams ds = map (λ d. d.gram) ds

-- a slave of the ring: its mailboxes and its registers
pub record Slave (V M : Type 0) : Type 0 where
  pub node : Node M (Serving V M)
  pub registers : Registers

-- a datagram means this slave
abbrev pub is_meant : Registers → Address → Bool
is_meant r (Address.Station station) = r.station == station
is_meant r (Address.Place zero) = true
is_meant r (Address.Place (suc n)) = false
is_meant r Address.Passed = false

-- the address behind a slave
abbrev pub address_behind : Address → Address
address_behind (Address.Station station) = Address.Station station
address_behind (Address.Place zero) = Address.Passed
address_behind (Address.Place (suc n)) = Address.Place n
address_behind Address.Passed = Address.Passed

-- the registers behind an access
abbrev pub registers_met : Registers → Access → Registers
registers_met r (Access.SetStation station) = record r { station = station }
registers_met r (Access.SetFirst right) = record r { first = right }
registers_met r (Access.SetSecond right) = record r { second = right }
registers_met r (Access.SetControl target acknowledge) = record r { control = Some (target, acknowledge) }
registers_met r Access.ReadState = r
registers_met r Access.ReadFull = r
registers_met r Access.Elsewhere = r

-- the working counter behind an access
abbrev pub counter_met : ℕ → Access → ℕ
counter_met c (Access.SetStation station) = suc c
counter_met c (Access.SetFirst right) = suc c
counter_met c (Access.SetSecond right) = suc c
counter_met c (Access.SetControl target acknowledge) = suc c
counter_met c Access.ReadState = suc c
counter_met c Access.ReadFull = suc c
counter_met c Access.Elsewhere = c

-- what an access found
abbrev pub found_met : {V M : Type 0} → Slave V M → Option Found → Access → Option Found
found_met s old (Access.SetStation station) = old
found_met s old (Access.SetFirst right) = old
found_met s old (Access.SetSecond right) = old
found_met s old (Access.SetControl target acknowledge) = old
found_met s old Access.ReadState = Some (Found.State s.registers.state s.registers.refused)
found_met s old Access.ReadFull = Some (Found.Full (is_some s.node.out.box))
found_met s old Access.Elsewhere = old

-- a slave with this station behind a datagram
abbrev pub slave_meets : {V M : Type 0} → ℕ → Slave V M → Datagram M → Slave V M
slave_meets station s d = record {
  node = if d.gram.station == station then node_meets s.node d.gram.ask else s.node;
  registers = if is_meant s.registers d.address then registers_met s.registers d.access else s.registers;
}

-- the datagram behind the slave
abbrev pub datagram_meets : {V M : Type 0} → ℕ → Slave V M → Datagram M → Datagram M
datagram_meets station s d = record {
  gram = if d.gram.station == station then gram_meets s.node d.gram.ask d.gram else d.gram;
  address = address_behind d.address;
  access = d.access;
  counter = if is_meant s.registers d.address then counter_met d.counter d.access else d.counter;
  found = if is_meant s.registers d.address then found_met s d.found d.access else d.found;
}

-- a slave behind a frame
abbrev pub slave_after : {V M : Type 0} → ℕ → Slave V M → List (Datagram M) → Slave V M
slave_after station s [] = s
slave_after station s (d ∷ ds) = slave_after station (slave_meets station s d) ds

-- a frame behind a slave
abbrev pub frame_after : {V M : Type 0} → ℕ → Slave V M → List (Datagram M) → List (Datagram M)
frame_after station s [] = []
frame_after station s (d ∷ ds) = datagram_meets station s d ∷ frame_after station (slave_meets station s d) ds

-- a ring: slaves in their order, each with its station
abbrev pub Ring : Type 0 → Type 0 → Type 0
Ring V M = List (ℕ × Slave V M)

-- all slaves meet the frame, in ring order
abbrev pub all_meet : {V M : Type 0} → Ring V M → List (Datagram M) → Ring V M
all_meet [] ds = []
all_meet (n ∷ ns) ds = (n.0, slave_after n.0 n.1 ds) ∷ all_meet ns (frame_after n.0 n.1 ds)

-- so many of them meet it
abbrev pub first_meet : {V M : Type 0} → ℕ → Ring V M → List (Datagram M) → Ring V M
first_meet zero ns ds = ns
first_meet (suc k) [] ds = []
first_meet (suc k) (n ∷ ns) ds = (n.0, slave_after n.0 n.1 ds) ∷ first_meet k ns (frame_after n.0 n.1 ds)

-- the ring behind a frame of this fate
abbrev pub ring_after : {V M : Type 0} → Ring V M → List (Datagram M) → RingFate → Ring V M
ring_after ns ds RingFate.Back = all_meet ns ds
ring_after ns ds (RingFate.Lost after) = first_meet after ns ds

-- a frame as it comes back from all slaves
abbrev pub all_back : {V M : Type 0} → Ring V M → List (Datagram M) → List (Datagram M)
all_back [] ds = ds
all_back (n ∷ ns) ds = all_back ns (frame_after n.0 n.1 ds)

-- what comes back of a frame of this fate: nothing of a lost one
abbrev pub ring_back : {V M : Type 0} → Ring V M → List (Datagram M) → RingFate → List (Datagram M)
ring_back ns ds RingFate.Back = all_back ns ds
ring_back ns ds (RingFate.Lost after) = []

-- what a slave's processor does beside its mailboxes: it carries out the control word, and tells the server the AL state
pub record Processor (V : Type 0) : Type 0 where
  pub carry : Registers → Registers
  pub tell : ℕ → V → V

-- servers that take no notice of the AL state
abbrev pub IsStill : {V : Type 0} → Processor V → Type 0
IsStill {V} processor = (state : ℕ) (v : V) → processor.tell state v ≡ v

-- a server in its mailboxes that is told the AL state
abbrev pub state_told : {V M : Type 0} → Processor V → ℕ → Node M (Serving V M) → Node M (Serving V M)
state_told processor state n = record n { server = record n.server { server = processor.tell state n.server.server } }

-- a step of a slave's processor: it looks at mailbox 1, carries out the control word, and serves in the AL state that then stands
abbrev pub slave_steps : {V A M Q R : Type 0} → Exchange V A M Q R → Processor V → Slave V M → Slave V M
slave_steps x processor s =
    let r = processor.carry s.registers in
    record { node = node_serve (serving x) (state_told processor r.state (node_look s.node)); registers = r }

-- the slave at the k-th place makes one
abbrev pub step_at : {V A M Q R : Type 0} → Exchange V A M Q R → Processor V → ℕ → Ring V M → Ring V M
step_at x processor k [] = []
step_at x processor zero (n ∷ ns) = (n.0, slave_steps x processor n.1) ∷ ns
step_at x processor (suc k) (n ∷ ns) = n ∷ step_at x processor k ns

-- the slaves at these places make one each, in this order
abbrev pub ring_steps : {V A M Q R : Type 0} → Exchange V A M Q R → Processor V → Ring V M → List ℕ → Ring V M
ring_steps x processor ns [] = ns
ring_steps x processor ns (k ∷ ks) = ring_steps x processor (step_at x processor k ns) ks

-- what moves a ring: a frame as it was sent, its fate, and the places at which processors step behind it
pub record Move (M : Type 0) : Type 0 where
  pub sent : List (Datagram M)
  pub fate : RingFate
  pub steps : List ℕ

-- THE REPLAY: the ring behind these moves
abbrev pub replayed : {V A M Q R : Type 0} → Exchange V A M Q R → Processor V → Ring V M → List (Move M) → Ring V M
replayed x processor ns [] = ns
replayed x processor ns (m ∷ ms) = replayed x processor (ring_steps x processor (ring_after ns m.sent m.fate) m.steps) ms

-- the places of the slaves whose pace divides this number, in ring order; the first of them has this place
abbrev pub in_pace : ℕ → ℕ → List ℕ → List ℕ
in_pace number place [] = []
in_pace number place (pace ∷ paces) = if number % pace == 0 then place ∷ in_pace number (suc place) paces else in_pace number (suc place) paces

-- slow slaves: behind frame j each slave whose pace divides j + 1 makes one step, in ring order
abbrev pub paced : {M : Type 0} → List ℕ → ℕ → List (List (Datagram M) × RingFate) → List (Move M)
paced paces j [] = []
paced paces j (f ∷ fs) = record { sent = f.0; fate = f.1; steps = in_pace (suc j) 0 paces } ∷ paced paces (suc j) fs

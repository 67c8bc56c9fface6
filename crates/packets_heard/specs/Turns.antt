-- The turns of a master as a switch of packets sees them, and the events that they are.
use Rattle.std.specs.Prelude.{◌≡◌, ℕ, suc, ◌==◌, Bool, true, false, if◌then◌else◌, Option, Some, None, List, [], ◌∷◌, ◌++◌, map, nat_le, ⊤}
use Rattle.packets_heard.specs.Events.{SwitchEvent, Numbered}

-- a switch: what an event makes of it, whether a packet waits at a port, and whether one waits at any
pub record Switch (W P : Type 0) : Type 0 where
  pub behind : W → SwitchEvent P → W
  pub waits : W → ℕ → Bool
  pub any : W → Bool

-- where nothing waits nothing waits when a packet of some port is taken
pub record IsSwitch {W P : Type 0} (x : Switch W P) : Type 0 where
  pub taken : (w : W) (port other : ℕ) → x.waits w port ≡ false → x.waits (x.behind w (SwitchEvent.Begun other)) port ≡ false

-- what comes into hand of a slave before a frame: a packet that waits at its port, or another row
pub data Begin : Type 0 where
  Forward : Begin
  Other : Begin

-- A TURN of the master: the host's packet, where one enters before the frame; the rows that come into hand of slaves with a port, in the order
-- of the frame; the packets whose last fragment the frame brought, with their ports; and the ports of the slaves that it gave up for good
pub record Turn (P : Type 0) : Type 0 where
  pub host : Option P
  pub begins : List (ℕ × Begin)
  pub brought : List (ℕ × P)
  pub downs : List ℕ

-- the host's packet arrives from port 0
abbrev pub host_events : {P : Type 0} → Option P → List (SwitchEvent P)
host_events None = []
host_events (Some p) = SwitchEvent.Arrive 0 p ∷ []

-- the oldest packet of a port is taken where a row carries it
abbrev pub begin_events : {P : Type 0} → ℕ → Begin → List (SwitchEvent P)
begin_events port Begin.Forward = SwitchEvent.Begun port ∷ []
begin_events port Begin.Other = []

-- in the order of the frame
abbrev pub begins_events : {P : Type 0} → List (ℕ × Begin) → List (SwitchEvent P)
begins_events [] = []
begins_events (b ∷ bs) = begin_events b.0 b.1 ++ begins_events bs

-- what a frame brought, in the order of its datagrams
abbrev pub brought_events : {P : Type 0} → List (ℕ × P) → List (SwitchEvent P)
brought_events [] = []
brought_events (a ∷ more) = SwitchEvent.Arrive a.0 a.1 ∷ brought_events more

-- the ports that go down
abbrev pub down_events : {P : Type 0} → List ℕ → List (SwitchEvent P)
down_events [] = []
down_events (p ∷ ps) = SwitchEvent.Down p ∷ down_events ps

-- events with this number
abbrev pub numbered : {P : Type 0} → ℕ → List (SwitchEvent P) → List (Numbered P)
numbered n es = map (λ e. record { event = e; number = n }) es

-- what comes before a frame
abbrev pub before_events : {P : Type 0} → Turn P → List (SwitchEvent P)
before_events t = host_events t.host ++ begins_events t.begins

-- what comes behind it
abbrev pub behind_events : {P : Type 0} → Turn P → List (SwitchEvent P)
behind_events t = brought_events t.brought ++ down_events t.downs

-- THE EVENTS of a turn with this frame: an event has the number of the frames that had been sent when it came
abbrev pub turn_events : {P : Type 0} → ℕ → Turn P → List (Numbered P)
turn_events n t = numbered n (before_events t) ++ numbered (suc n) (behind_events t)

-- of all turns
abbrev pub all_events : {P : Type 0} → ℕ → List (Turn P) → List (Numbered P)
all_events n [] = []
all_events n (t ∷ ts) = turn_events n t ++ all_events (suc n) ts

-- the switch behind events
abbrev pub folded : {W P : Type 0} → Switch W P → W → List (SwitchEvent P) → W
folded x w [] = w
folded x w (e ∷ es) = folded x (x.behind w e) es

-- this port is one of these
abbrev pub is_among : ℕ → List ℕ → Bool
is_among port [] = false
is_among port (p ∷ ps) = if p == port then true else is_among port ps

-- a host packet enters where no packet waits at any port
abbrev pub MayEnter : {W P : Type 0} → Switch W P → W → Option P → Type 0
MayEnter x w None = ⊤
MayEnter x w (Some p) = x.any w ≡ false

-- a row that isn't a packet begins where none waits at its port
abbrev pub MayBegin : {W P : Type 0} → Switch W P → W → ℕ → Begin → Type 0
MayBegin x w port Begin.Forward = ⊤
MayBegin x w port Begin.Other = x.waits w port ≡ false

-- each row, of a slave whose port is up
abbrev pub MayBegins : {W P : Type 0} → Switch W P → List ℕ → W → List (ℕ × Begin) → Type 0
MayBegins x down w [] = ⊤
MayBegins x down w (b ∷ bs) = (is_among b.0 down ≡ false) × MayBegin x w b.0 b.1 × MayBegins x down (folded x w (begin_events b.0 b.1)) bs

-- packets come from slaves, and not from the host
abbrev pub FromSlaves : {P : Type 0} → List (ℕ × P) → Type 0
FromSlaves [] = ⊤
FromSlaves (a ∷ more) = ((a.0 == 0) ≡ false) × FromSlaves more

-- a port goes down once
abbrev pub MayDown : List ℕ → List ℕ → Type 0
MayDown down [] = ⊤
MayDown down (p ∷ ps) = (is_among p down ≡ false) × MayDown (p ∷ down) ps

-- the ports that are down behind these
abbrev pub downed : List ℕ → List ℕ → List ℕ
downed down [] = down
downed down (p ∷ ps) = downed (p ∷ down) ps

-- WHAT A MASTER KEEPS in a turn, with the switch as it stands and the ports that are down
pub record MayTurn {W P : Type 0} (x : Switch W P) (down : List ℕ) (w : W) (t : Turn P) : Type 0 where
  pub enters : MayEnter x w t.host
  pub begins : MayBegins x down (folded x w (host_events t.host)) t.begins
  pub brought : FromSlaves t.brought
  pub downs : MayDown down t.downs

-- in each turn
abbrev pub MayTurns : {W P : Type 0} → Switch W P → List ℕ → W → List (Turn P) → Type 0
MayTurns x down w [] = ⊤
MayTurns x down w (t ∷ ts) = MayTurn x down w t × MayTurns x (downed down t.downs) (folded x (folded x w (before_events t)) (behind_events t)) ts

-- the frame, where a row of this port carries a packet
abbrev pub forward_frame : ℕ → ℕ → ℕ → Begin → List ℕ
forward_frame port n p Begin.Forward = if p == port then n ∷ [] else []
forward_frame port n p Begin.Other = []

-- another row
abbrev pub other_frame : ℕ → ℕ → ℕ → Begin → List ℕ
other_frame port n p Begin.Forward = []
other_frame port n p Begin.Other = if p == port then n ∷ [] else []

-- the frames of a port's rows that carry packets, in one turn
abbrev pub forwards_in : ℕ → ℕ → List (ℕ × Begin) → List ℕ
forwards_in port n [] = []
forwards_in port n (b ∷ bs) = forward_frame port n b.0 b.1 ++ forwards_in port n bs

-- of all turns
abbrev pub forwards_of : {P : Type 0} → ℕ → ℕ → List (Turn P) → List ℕ
forwards_of port n [] = []
forwards_of port n (t ∷ ts) = forwards_in port n t.begins ++ forwards_of port (suc n) ts

-- those of its other rows, in one turn
abbrev pub others_in : ℕ → ℕ → List (ℕ × Begin) → List ℕ
others_in port n [] = []
others_in port n (b ∷ bs) = other_frame port n b.0 b.1 ++ others_in port n bs

-- of all turns
abbrev pub others_of : {P : Type 0} → ℕ → ℕ → List (Turn P) → List ℕ
others_of port n [] = []
others_of port n (t ∷ ts) = others_in port n t.begins ++ others_of port (suc n) ts

-- the frames that brought the last fragment of a packet from this port, in one turn
abbrev pub brought_in : {P : Type 0} → ℕ → ℕ → List (ℕ × P) → List ℕ
brought_in port n [] = []
brought_in port n (a ∷ more) = (if a.0 == port then n ∷ [] else []) ++ brought_in port n more

-- of all turns
abbrev pub brought_of : {P : Type 0} → ℕ → ℕ → List (Turn P) → List ℕ
brought_of port n [] = []
brought_of port n (t ∷ ts) = brought_in port n t.brought ++ brought_of port (suc n) ts

-- the frame at which its slave was given up for good, where it was
abbrev pub given_up_of : {P : Type 0} → ℕ → ℕ → List (Turn P) → Option ℕ
given_up_of port n [] = None
given_up_of port n (t ∷ ts) = if is_among port t.downs then Some n else given_up_of port (suc n) ts

-- the packet of the host that entered
abbrev pub entered : {P : Type 0} → Option P → List P
entered None = []
entered (Some p) = p ∷ []

-- of all turns
abbrev pub all_entered : {P : Type 0} → List (Turn P) → List P
all_entered [] = []
all_entered (t ∷ ts) = entered t.host ++ all_entered ts

-- the packet of an event, where it arrived from this port
abbrev pub arrived_packet : {P : Type 0} → ℕ → SwitchEvent P → List P
arrived_packet port (SwitchEvent.Arrive p packet) = if p == port then packet ∷ [] else []
arrived_packet port (SwitchEvent.Begun p) = []
arrived_packet port (SwitchEvent.Down p) = []

-- all of them
abbrev pub packets_from : {P : Type 0} → ℕ → List (Numbered P) → List P
packets_from port [] = []
packets_from port (e ∷ es) = arrived_packet port e.event ++ packets_from port es

-- the events numbered up to a frame
abbrev pub events_up_to : {P : Type 0} → ℕ → List (Numbered P) → List (SwitchEvent P)
events_up_to frame [] = []
events_up_to frame (e ∷ es) = if nat_le e.number frame then e.event ∷ events_up_to frame es else []

-- at each of these frames nothing waits at the port behind the events numbered up to it
abbrev pub NoneWaits : {W P : Type 0} → Switch W P → W → ℕ → List (Numbered P) → List ℕ → Type 0
NoneWaits x w port es [] = ⊤
NoneWaits x w port es (frame ∷ frames) = (x.waits (folded x w (events_up_to frame es)) port ≡ false) × NoneWaits x w port es frames

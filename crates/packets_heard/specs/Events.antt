-- The events of a switch of packets in their order, with the frames: the number of an event is how many frames had been sent when it came.
use Rattle.std.specs.Prelude.{◌≡◌, ℕ, suc, ◌≤◌, ◌==◌, Bool, false, if◌then◌else◌, Option, Some, None, List, [], ◌∷◌, ◌++◌, map, ⊤}

-- a packet arrives from a port; the oldest packet that waits at a port comes into hand; a port goes down, and what waits there is dropped
pub data SwitchEvent (P : Type 0) : Type 0 where
  Arrive : ℕ → P → SwitchEvent P
  Begun : ℕ → SwitchEvent P
  Down : ℕ → SwitchEvent P

-- an event with its number
pub record Numbered (P : Type 0) : Type 0 where
  pub event : SwitchEvent P
  pub number : ℕ

-- the numbers don't fall
abbrev pub NotFalling : {P : Type 0} → ℕ → List (Numbered P) → Type 0
NotFalling low [] = ⊤
NotFalling low (e ∷ es) = (low ≤ e.number) × NotFalling e.number es

-- the number of an event, where a packet comes into hand at this port by it
abbrev pub begun_number : {P : Type 0} → ℕ → SwitchEvent P → ℕ → List ℕ
begun_number port (SwitchEvent.Arrive p packet) n = []
begun_number port (SwitchEvent.Begun p) n = if p == port then n ∷ [] else []
begun_number port (SwitchEvent.Down p) n = []

-- the numbers of the packets that came into hand at a port
abbrev pub begun_at : {P : Type 0} → ℕ → List (Numbered P) → List ℕ
begun_at port [] = []
begun_at port (e ∷ es) = begun_number port e.event e.number ++ begun_at port es

-- where this port goes down by it
abbrev pub down_number : {P : Type 0} → ℕ → SwitchEvent P → ℕ → List ℕ
down_number port (SwitchEvent.Arrive p packet) n = []
down_number port (SwitchEvent.Begun p) n = []
down_number port (SwitchEvent.Down p) n = if p == port then n ∷ [] else []

-- the numbers of a port's going down
abbrev pub downs_at : {P : Type 0} → ℕ → List (Numbered P) → List ℕ
downs_at port [] = []
downs_at port (e ∷ es) = down_number port e.event e.number ++ downs_at port es

-- where a packet arrives from this port by it
abbrev pub arrived_number : {P : Type 0} → ℕ → SwitchEvent P → ℕ → List ℕ
arrived_number port (SwitchEvent.Arrive p packet) n = if p == port then n ∷ [] else []
arrived_number port (SwitchEvent.Begun p) n = []
arrived_number port (SwitchEvent.Down p) n = []

-- the numbers of the packets that arrived from a port
abbrev pub arrived_at : {P : Type 0} → ℕ → List (Numbered P) → List ℕ
arrived_at port [] = []
arrived_at port (e ∷ es) = arrived_number port e.event e.number ++ arrived_at port es

-- behind a port's going down nothing comes into hand there
abbrev pub DownLast : {P : Type 0} → ℕ → List (Numbered P) → Type 0
DownLast port [] = ⊤
DownLast port (e ∷ es) = (down_number port e.event 0 ≡ 0 ∷ [] → begun_at port es ≡ []) × DownLast port es

-- a packet of the host, which has port 0, arrives only where no packet waits at any port; `waits` says so of the events before
abbrev pub HostWaits : {P : Type 0} → (List (SwitchEvent P) → Bool) → List (SwitchEvent P) → List (Numbered P) → Type 0
HostWaits waits before [] = ⊤
HostWaits waits before (e ∷ es) = (arrived_number 0 e.event 0 ≡ 0 ∷ [] → waits before ≡ false) × HostWaits waits (before ++ e.event ∷ []) es

-- the number of the frame behind a give-up, where there is one
abbrev pub down_of : Option ℕ → List ℕ
down_of None = []
down_of (Some g) = suc g ∷ []

-- THE EVENTS OF A PORT, whose slave has these frames of the rows of its packets, these frames that brought the last fragment of a packet from
-- it, and this give-up
pub record IsPort {P : Type 0} (es : List (Numbered P)) (port : ℕ) (rows arrivals : List ℕ) (given_up : Option ℕ) : Type 0 where
  pub begun : begun_at port es ≡ rows
  pub arrived : arrived_at port es ≡ map (λ n. suc n) arrivals
  pub down : downs_at port es ≡ down_of given_up
  pub last : DownLast port es

-- A REPEAT REQUEST whose acknowledge is awaited, and the datagrams of one frame to its slave.
use Rattle.std.specs.Prelude.{◌≡◌, ◌==◌, ℕ, Bool, true, false, List, [], ◌∷◌, ⊤}
use Rattle.whole_ring.specs.of_link_model.Frames.{Ask, Gram}
use Rattle.whole_ring.specs.of_link_model.Master.{InHalf, InState}
use Rattle.whole_ring.specs.of_link_model.Slave.{InSide}

-- each is to this station
abbrev pub AllHere : {B : Type 0} → ℕ → List (Gram B) → Type 0
AllHere station [] = ⊤
AllHere station (g ∷ gs) = ((g.station == station) ≡ true) × AllHere station gs

-- each asks this
abbrev pub AllAsk : {B : Type 0} → Ask B → List (Gram B) → Type 0
AllAsk ask [] = ⊤
AllAsk ask (g ∷ gs) = (g.ask ≡ ask) × AllAsk ask gs

-- where the acknowledge is awaited the request asked for stands in the slave
abbrev pub IsAsked : {B : Type 0} → InHalf → InSide B → Type 0
IsAsked h n = h.state ≡ InState.Asked → n.request ≡ h.bit

-- behind a frame it stands yet; and where it was awaited before, the bit is the same, and request and acknowledge stay
pub record GoesOn {B : Type 0} (h : InHalf) (n : InSide B) (k : InHalf) (m : InSide B) : Type 0 where
  pub asked : IsAsked k m
  pub bit : h.state ≡ InState.Asked → k.bit ≡ h.bit
  pub request : h.state ≡ InState.Asked → m.request ≡ n.request
  pub acknowledge : h.state ≡ InState.Asked → m.acknowledge ≡ n.acknowledge

-- each was met
abbrev pub AllMet : {B : Type 0} → List (Gram B) → Type 0
AllMet [] = ⊤
AllMet (g ∷ gs) = ((g.counter == 0) ≡ false) × AllMet gs

-- and brings this acknowledge
abbrev pub AllRead : {B : Type 0} → Bool → List (Gram B) → Type 0
AllRead bit [] = ⊤
AllRead bit (g ∷ gs) = ((g.counter == 0) ≡ false) × (g.acknowledge ≡ bit) × AllRead bit gs

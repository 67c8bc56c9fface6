-- WHETHER A FRAME HAS ROOM for the slaves of its visit: which it leaves out, and why.
use Rattle.std.specs.Prelude.{◌≡◌, ◌≤◌, ◌+◌, ℕ, zero, suc, Bool, true, false, List, [], ◌∷◌, length, ⊤}
use Rattle.life_runs.specs.of_frame_view.View.{Lens}
use Rattle.life_runs.specs.Led.{Leads}
use Rattle.life_runs.specs.of_master_hand.declared.hand.InHand.{InHand}
use Rattle.life_runs.specs.of_master_side.Again.{HasNoRoom, area_of, larger}
use Rattle.life_runs.specs.of_master_side.declared.hand.Hand.{Ghosts}
use Rattle.life_runs.specs.of_master_tour.Goes.{is_live, holds_at}
use Rattle.life_runs.specs.of_master_tour.Rooms.{StopOnWay, StopRepeats, stop_len}
use Rattle.life_runs.specs.of_master_tour.declared.stop.Stop.{Stop}

-- the length of the larger mailbox of the slave at a place of a tour, 0 where none stands there
abbrev pub area_in : {G : Ghosts InHand} → List (Stop InHand G) → ℕ → ℕ
area_in [] k = 0
area_in (s ∷ ss) zero = area_of s.side
area_in (s ∷ ss) (suc k) = area_in ss k

-- the same, by the plan
abbrev pub area_at : (ℕ → Lens) → List Leads → ℕ → ℕ
area_at lens [] k = 0
area_at lens (a ∷ as') zero = larger (lens a.lived.spot.station).out (lens a.lived.spot.station).back
area_at lens (a ∷ as') (suc k) = area_at lens as' k

-- THE VISITS THAT A FRAME LEAVES OUT: none behind a lost one; of a round, for the first, if it is of a live slave, it has no room, be its datagram as long
-- as the larger mailbox
abbrev pub LeavesFull : {G : Ghosts InHand} → List ℕ → List (Stop InHand G) → Bool → List ℕ → Type 0
LeavesFull octets ss again [] = ⊤
LeavesFull octets ss true (p ∷ ps) = ⊥
LeavesFull octets ss false (p ∷ ps) = holds_at (λ s. is_live s.stand) ss p ≡ true → HasNoRoom octets (area_in ss p)

-- what is in a slave's hand may have changed, and nothing of that by which its next datagram is chosen
pub record SendsSame {G : Ghosts InHand} (s t : Stop InHand G) : Type 0 where
  pub out : t.side.out ≡ s.side.out
  pub inn : t.side.inn ≡ s.side.inn
  pub duty : t.side.duty ≡ s.side.duty
  pub passing : t.side.passing ≡ s.side.passing
  pub turn : t.side.turn ≡ s.side.turn
  pub paused : t.side.paused ≡ s.side.paused
  pub carried : t.side.carried ≡ s.side.carried
  pub stand : t.stand ≡ s.stand

-- what holds of the slave at a place
abbrev pub HoldsAt : {S : Type 0} → (S → Type 0) → List S → ℕ → Type 0
HoldsAt P [] p = ⊥
HoldsAt P (s ∷ ss) zero = P s
HoldsAt P (s ∷ ss) (suc p) = HoldsAt P ss p

-- how many octets its datagram has in the frame under way
abbrev pub len_in : {G : Ghosts InHand} → List (Stop InHand G) → ℕ → ℕ
len_in [] p = 0
len_in (s ∷ ss) zero = stop_len s
len_in (s ∷ ss) (suc p) = len_in ss p

-- THE DATAGRAMS OF THESE SLAVES, one behind the other from so many octets on, are within so many; and each slave is so
abbrev pub FitFrom : {G : Ghosts InHand} → (Stop InHand G → Type 0) → List (Stop InHand G) → ℕ → ℕ → List ℕ → Type 0
FitFrom P ss most n [] = n ≤ most
FitFrom P ss most n (p ∷ ps) = HoldsAt P ss p × FitFrom P ss most (n + (12 + len_in ss p)) ps

-- the frame under way has a slave's next datagram
abbrev pub IsSentStop : {G : Ghosts InHand} → Stop InHand G → Type 0
IsSentStop s = (s.under ≡ true) × StopOnWay s

-- THE SLAVES OF A LOST FRAME have room in the next, at most sixteen
pub record FitAgain {G : Ghosts InHand} (visit : List ℕ) (ss : List (Stop InHand G)) : Type 0 where
  pub few : length visit ≤ 16
  pub fit : FitFrom (λ s. StopRepeats s) ss 1514 16 visit

-- those of the frame under way had it in that
pub record FitUnder {G : Ghosts InHand} (visit : List ℕ) (ss : List (Stop InHand G)) : Type 0 where
  pub few : length visit ≤ 16
  pub fit : FitFrom (λ s. IsSentStop s) ss 1514 16 visit

-- A VISIT, which makes the frame grow or not: a datagram that it gets is the slave's next, and makes it so much longer; behind a lost frame that is no longer
-- than the one that was lost, and one that it does not get would not fit, be it as long as that
pub record Takes {G : Ghosts InHand} (before behind : List ℕ) (grows : Bool) (s t : Stop InHand G) : Type 0 where
  pub way : grows ≡ true → StopOnWay t × (length behind ≡ length before + (12 + stop_len t))
  pub again : StopRepeats s → (grows ≡ true → stop_len t ≤ stop_len s) × (grows ≡ false → HasNoRoom before (stop_len s))
  pub stays : grows ≡ false → behind ≡ before

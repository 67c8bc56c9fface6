-- WHAT MAY COME INTO HAND at a visit.
use Rattle.std.specs.Prelude.{Bool, true, false, ◌≡◌, ◌⊎◌, ◌<◌, ℕ, suc, ◌%◌, Option, Some, None, length, slice_get, ⊤}
use Rattle.life_runs.specs.of_master_hand.declared.hand.InHand.{InHand}
use Rattle.life_runs.specs.of_master_hand.declared.laying.Laid.{Laid}
use Rattle.life_runs.specs.of_master_side.declared.carried.Wish.{Wish}
use Rattle.life_runs.specs.of_master_side.declared.hand.Hand.{Ghosts}
use Rattle.life_runs.specs.of_master_tour.declared.stop.Stop.{Stop}
use Rattle.life_runs.specs.of_segment_plan.declared.service.Service.{Service}
use Rattle.master_node.specs.Kept.{StopKept, StopStays}
use Rattle.master_node.specs.declared.coming.Coming.{Coming}

-- the next service of a slave's script
abbrev pub next_of : {G : Ghosts InHand} → Stop InHand G → Option Service
next_of s = slice_get s.side.hand.laying.script s.side.hand.laying.number

-- where no mail waits to be passed on none comes, and a change of state is the script's next service
abbrev pub IsComing : Option Service → Option Coming → Type 0
IsComing next None = ⊤
IsComing next (Some Coming.Packet) = ⊤
IsComing next (Some Coming.Mail) = ⊥
IsComing next (Some Coming.Script) = ⊤
IsComing next (Some (Coming.State target)) = (state : ℕ) × (next ≡ Some (Service.State state)) × (target.state ≡ state % 16)

-- what the slave's side is to wish
abbrev pub wish_of : Option Coming → Option Wish
wish_of None = None
wish_of (Some Coming.Packet) = Some Wish.Mails
wish_of (Some Coming.Mail) = Some Wish.Mails
wish_of (Some Coming.Script) = Some Wish.Mails
wish_of (Some (Coming.State target)) = Some (Wish.State target)

-- what is laid ready then
abbrev pub IsLaid : Option Coming → Laid → Type 0
IsLaid None laid = ⊤
IsLaid (Some Coming.Packet) laid = (laid ≡ Laid.Packet) ⊎ (laid ≡ Laid.Nothing)
IsLaid (Some Coming.Mail) laid = ⊤
IsLaid (Some Coming.Script) laid = laid ≡ Laid.Script
IsLaid (Some (Coming.State target)) laid = ⊤

-- a change of state that came into hand is passed by in the script
abbrev pub PassesBy : {G : Ghosts InHand} → Option Coming → Stop InHand G → Stop InHand G → Type 0
PassesBy None s t = StopStays s t
PassesBy (Some Coming.Packet) s t = StopStays s t
PassesBy (Some Coming.Mail) s t = StopStays s t
PassesBy (Some Coming.Script) s t = StopStays s t
PassesBy (Some (Coming.State target)) s t = s.side.hand.laying.number < length s.side.hand.laying.script → StopKept (suc s.side.hand.laying.number) s t

-- what came into hand, where something did
abbrev pub CameBy : {G : Ghosts InHand} → Bool → Option Coming → Stop InHand G → Stop InHand G → Type 0
CameBy true coming s t = PassesBy coming s t
CameBy false coming s t = StopStays s t

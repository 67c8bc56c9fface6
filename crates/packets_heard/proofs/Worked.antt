-- A worked row of a port's events with their numbers.
use Rattle.std.proofs.Common.{◌≡◌, ℕ, List, Some, None, [], ◌∷◌, refl}
use Rattle.arrayvec.specs.ArrayVec.{ArrayVec}
use Rattle.master_node.specs.of_eoe_switch.declared.switching.SwitchEvent.{SwitchEvent}
use Rattle.master_node.specs.of_eoe_switch.declared.switching.SwitchEvent.TheVariants.{Arrive, Begun, Down}
use Rattle.packets_heard.specs.Numbers.{begins, comes_in, events_up_to, goes, number_behind, numbers_where}

-- a packet of the host goes to port 2 before frame 8, which brings one from port 1; a packet begins there before frame 9, at which the slave of port 1 is given up for good
abbrev packet : ArrayVec ℕ
packet = record { items = 1 ∷ 2 ∷ [] }

abbrev events : List SwitchEvent
events = Arrive 0 packet ∷ Begun 2 ∷ Arrive 1 packet ∷ Begun 1 ∷ Down 1 ∷ []

abbrev numbers : List ℕ
numbers = 8 ∷ 8 ∷ 9 ∷ 9 ∷ 10 ∷ []

at_port : (numbers_where (comes_in 1) events numbers ≡ 9 ∷ []) × (numbers_where (begins 1) events numbers ≡ 9 ∷ []) × (numbers_where (goes 1) events numbers ≡ number_behind (Some 9)) × (numbers_where (goes 2) events numbers ≡ number_behind None)
at_port = (refl, refl, refl, refl)

up_to : (events_up_to 8 events numbers ≡ Arrive 0 packet ∷ Begun 2 ∷ []) × (events_up_to 9 events numbers ≡ Arrive 0 packet ∷ Begun 2 ∷ Arrive 1 packet ∷ Begun 1 ∷ [])
up_to = (refl, refl)

-- The packets that a switch drops, event by event.
use Rattle.std.specs.Prelude.{ℕ, ◌+◌, List, [], ◌∷◌}
use Rattle.run_book.specs.of_eoe_switch.declared.switching.SwitchEvent.{SwitchEvent}
use Rattle.run_book.specs.of_eoe_switch.declared.switching.SwitchEvent.TheVariants.{Arrive, Begun, Down}
use Rattle.run_book.specs.of_eoe_switch.Switch.{Switched, arrived, begun_at, downed_at, route_of, learned_from, drops_of}

-- a switch behind an event
abbrev pub behind : Switched → SwitchEvent → Switched
behind s (Arrive port packet) = (arrived s port packet).switch
behind s (Begun port) = begun_at s port
behind s (Down port) = downed_at s port

-- at how many ports an event drops a packet
abbrev pub drops_at : Switched → SwitchEvent → ℕ
drops_at s (Arrive port packet) = drops_of (route_of (learned_from s.learned port packet.items) port packet.items) packet 0 s.ports
drops_at s (Begun port) = 0
drops_at s (Down port) = 0

-- at how many ports the events drop packets
abbrev pub drops_in : Switched → List SwitchEvent → ℕ
drops_in s [] = 0
drops_in s (e ∷ es) = drops_at s e + drops_in (behind s e) es

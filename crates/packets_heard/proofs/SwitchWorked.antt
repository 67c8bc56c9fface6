-- A worked row of a port's events.
use Rattle.std.proofs.Common.{◌≡◌, ℕ, None, Some, List, [], ◌∷◌, refl}
use Rattle.packets_heard.specs.Events.{SwitchEvent, Numbered, IsPort}
use Rattle.packets_heard.specs.Turns.{Begin, Turn, all_events, forwards_of, brought_of, given_up_of}

-- two turns: a packet comes from port 1 with frame 8; it is carried to port 1 before frame 9, and the slave of port 1 is given up with that frame
abbrev turns : List (Turn ℕ)
turns =
    record { host = Some 5; begins = (2, Begin.Forward) ∷ []; brought = (1, 7) ∷ []; downs = [] }
    ∷ record { host = None; begins = (2, Begin.Other) ∷ (1, Begin.Forward) ∷ []; brought = []; downs = 1 ∷ [] } ∷ []

abbrev events : List (Numbered ℕ)
events =
    record { event = SwitchEvent.Arrive 0 5; number = 8 } ∷ record { event = SwitchEvent.Begun 2; number = 8 } ∷ record { event = SwitchEvent.Arrive 1 7; number = 9 }
    ∷ record { event = SwitchEvent.Begun 1; number = 9 } ∷ record { event = SwitchEvent.Down 1; number = 10 } ∷ []

are : all_events 8 turns ≡ events
are = refl

frames : (forwards_of 1 8 turns ≡ 9 ∷ []) × (brought_of 1 8 turns ≡ 8 ∷ []) × (given_up_of 1 8 turns ≡ Some 9)
frames = (refl, refl, refl)

port : IsPort events 1 (9 ∷ []) (8 ∷ []) (Some 9)
port = record { begun = refl; arrived = refl; down = refl; last = ((λ e. absurd (cc)), ((λ e. absurd (cc)), ((λ e. absurd (cc)), ((λ e. absurd (cc)), ((λ e. refl), tt))))) }

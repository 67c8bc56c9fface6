-- WHAT PACKETS COME TO AT A SWITCH, by its events.
use Rattle.std.specs.Prelude.{ℕ, ◌+◌, ◌-◌, ◌*◌, ◌<◌, ◌==◌, if◌then◌else◌, List, [], ◌∷◌, ⊤}
use Rattle.arrayvec.specs.ArrayVec.{ArrayVec}
use Rattle.eoe_switch.specs.declared.switching.SwitchEvent.{SwitchEvent}
use Rattle.eoe_switch.specs.declared.switching.SwitchEvent.TheVariants.{Arrive, Begun, Down}
use Rattle.run_work.specs.Packets.{waiting_work, queue_work}

-- the packets that were forwarded to each of these ports
abbrev pub forwards_work : ℕ → List (List (ArrayVec ℕ)) → ℕ
forwards_work n [] = 0
forwards_work n (f ∷ fs) = queue_work n f + forwards_work n fs

-- to those of the slaves: the first port is the host's
abbrev pub slaves_work : ℕ → List (List (ArrayVec ℕ)) → ℕ
slaves_work n [] = 0
slaves_work n (host ∷ fs) = forwards_work n fs

-- WHAT COMES IN: a packet of the host may go to each of n slaves, one of a slave to each other
abbrev pub entry_work : ℕ → SwitchEvent → ℕ
entry_work n (Arrive port packet) = (if port == 0 then n else n - 1) * waiting_work n packet.items
entry_work n (Begun port) = 0
entry_work n (Down port) = 0

-- by all events
abbrev pub entries_work : ℕ → List SwitchEvent → ℕ
entries_work n [] = 0
entries_work n (e ∷ es) = entry_work n e + entries_work n es

-- what comes in does so at one of these ports
abbrev pub ComesAt : ℕ → SwitchEvent → Type 0
ComesAt many (Arrive port packet) = port < many
ComesAt many (Begun port) = ⊤
ComesAt many (Down port) = ⊤

-- of all events
abbrev pub AllComeAt : ℕ → List SwitchEvent → Type 0
AllComeAt many [] = ⊤
AllComeAt many (e ∷ es) = ComesAt many e × AllComeAt many es

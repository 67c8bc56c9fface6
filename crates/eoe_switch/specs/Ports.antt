use Rattle.std.specs.Prelude.{ℕ, ◌==◌, Bool, true, false, not, ◌||◌, nat_lt, if◌then◌else◌, [], ◌∷◌, ◌++◌, length, Option, None, Some}
use Rattle.arrayvec.specs.ArrayVec.{ArrayVec}
use Rattle.eoe_switch.specs.declared.port.Offered.{Offered}
use Rattle.eoe_switch.specs.declared.port.Offered.TheVariants.{Not, Taken, Full}
use Rattle.eoe_switch.specs.declared.port.Port.{Port}
use Rattle.eoe_switch.specs.declared.port.Route.{Route}

-- a packet whose destination isn't known goes to all other ports that are up; a known one to its port
abbrev pub is_known_target : Option ℕ → ℕ → Bool
is_known_target None at = true
is_known_target (Some port) at = port == at

-- no packet goes back to the port where it came in, nor to one that is down
abbrev pub is_target : Route → ℕ → Bool → Bool
is_target route at up = if at == route.from || not up then false else is_known_target route.known at

-- a port behind a packet that was offered to it, and what became of it there
pub record AtPort : Type 0 where
  pub port : Port
  pub offered : Offered

-- a packet at a port to which it goes: the host takes each, and at another one 8 may wait
abbrev pub taken_at : ℕ → ArrayVec ℕ → Port → AtPort
taken_at at packet port =
    if at == 0 then record { port = port; offered = Taken }
    else if nat_lt (length port.queue) 8 then record { port = record port { queue = port.queue ++ packet ∷ [] }; offered = Taken }
    else record { port = port; offered = Full }

-- a packet at a port, whether it goes there or not
abbrev pub offered : Route → ℕ → ArrayVec ℕ → Port → AtPort
offered route at packet port = if is_target route at port.up then taken_at at packet port else record { port = port; offered = Not }

-- WHAT IS LISTED WHILE A FRAME IS MADE: a packet of the host that comes in, and packets that begin.
use Rattle.std.specs.Prelude.{◌≡◌, List, ◌++◌, All, ⊤}
use Rattle.eoe_switch.specs.declared.switching.SwitchEvent.{SwitchEvent}
use Rattle.eoe_switch.specs.declared.switching.SwitchEvent.TheVariants.{Arrive, Begun, Down}
use Rattle.master_node.specs.declared.happened.Happening.{Happening}
use Rattle.master_node.specs.declared.lan.Lan.{Lan}

-- nothing comes in but at the host's port, and no port goes down
abbrev pub IsOfMaking : SwitchEvent → Type 0
IsOfMaking (Arrive port packet) = port ≡ 0
IsOfMaking (Begun port) = ⊤
IsOfMaking (Down port) = ⊥

-- all of them
abbrev pub AreOfMaking : List Happening → Type 0
AreOfMaking rows = All (λ (r : Happening). IsOfMaking r.event) rows

-- JUST SUCH EVENTS ARE LISTED BESIDES; each slave keeps its port
pub record Makes (l l' : Lan) : Type 0 where
  pub ports : l'.ports ≡ l.ports
  pub only : AreOfMaking l.happened → AreOfMaking l'.happened
  pub more : (rest : List Happening) × (l'.happened ≡ l.happened ++ rest)

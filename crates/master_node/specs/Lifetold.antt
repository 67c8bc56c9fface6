-- WHAT A FRAME TELLS, by the lives of the slaves before it and behind it.
use Rattle.std.specs.Prelude.{◌≡◌, ◌≤◌, ℕ, zero, suc, List, [], ◌∷◌}
use Rattle.life_runs.specs.of_master_duty.Reply.{Reply}
use Rattle.life_runs.specs.of_master_hand.Spoken.{Asked}
use Rattle.life_runs.specs.of_link_mails.Body.{Body}
use Rattle.life_runs.specs.of_master_tour.Stands.{turned}
use Rattle.life_runs.specs.of_life_model.Lives.{Life}
use Rattle.life_runs.specs.Served.{Serves, ServedTurn}
use Rattle.master_node.specs.Besides.{given_told}
use Rattle.master_node.specs.Listing.{events_in, told_in}
use Rattle.master_node.specs.declared.event.Event.{Event}
use Rattle.master_node.specs.declared.node.MasterNode.{MasterNode}

-- of the slave at a place, by all lives before the frame and behind it
abbrev pub told_at : (ServedTurn → Serves → List Event) → List ServedTurn → List Serves → ℕ → List Event
told_at tells [] ws k = []
told_at tells (v ∷ vs) [] k = []
told_at tells (v ∷ vs) (w ∷ ws) zero = tells v w
told_at tells (v ∷ vs) (w ∷ ws) (suc k) = told_at tells vs ws k

-- JUST THESE EVENTS ARE LISTED, of the slaves that the frame carried, in the order of its visits, where the list has room for them
abbrev pub TellsJust : (ℕ → List Event) → MasterNode → MasterNode → Type 0
TellsJust tells m n = m.list.before ≤ 16 → events_in n ≡ told_in tells m.tour.visit.items

-- WHAT A LOST FRAME TELLS of a slave: that it was given up, where it was
abbrev pub lost_told : ℕ → Life Body Asked Reply → Life Body Asked Reply → List Event
lost_told place l m = given_told place (turned l m)

-- by the slaves of a serving
abbrev pub lost_at : List ServedTurn → List Serves → ℕ → List Event
lost_at vs ws k = told_at (λ v w. lost_told k v.turn.lived.life w.lead.lived.life) vs ws k

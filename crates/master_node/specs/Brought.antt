-- WHAT A FRAME THAT CAME BACK BROUGHT of the slaves, by their lives, as a master has it.
use Rattle.std.specs.Prelude.{List}
use Rattle.life_runs.specs.of_frame_view.Shares.{AllBoth}
use Rattle.life_runs.specs.Led.{Turn}
use Rattle.life_runs.specs.of_link_mails.Body.{Body}
use Rattle.life_runs.specs.of_master_hand.Brings.{Brings}
use Rattle.life_runs.specs.of_master_hand.declared.hand.InHand.{InHand}
use Rattle.life_runs.specs.of_master_side.Heard.{Brought}
use Rattle.life_runs.specs.of_master_side.declared.hand.Hand.{Ghosts}
use Rattle.life_runs.specs.of_master_tour.Brings.{accepted_in}
use Rattle.life_runs.specs.of_master_tour.declared.stop.Stop.{Stop}
use Rattle.life_runs.specs.of_segment_model.Slaves.{Datagram}
use Rattle.master_node.specs.declared.node.MasterNode.{MasterNode}

-- a slave's hand tells of the mails that its life accepted
abbrev pub StopBrought : {G : Ghosts InHand} → List (Datagram Body) → Turn → Stop InHand G → Type 0
StopBrought back u s = Brought (Brings s.side.hand.found) s.side.heard (accepted_in u.lived.spot u.lived.life back)

-- all slaves, behind a frame that came back so, by their lives before it
abbrev pub HasBrought : MasterNode → List Turn → List (Datagram Body) → Type 0
HasBrought m us back = AllBoth (λ u s. StopBrought back u s) us m.tour.stops.items

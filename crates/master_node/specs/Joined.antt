-- THE PACKETS THAT SLAVES SEND, as a master joins them: what is unfinished of each, by the lives of the slaves, and what a frame that came back completed.
use Rattle.std.specs.Prelude.{◌≡◌, ⊤, false, Option, None, List, [], ◌∷◌}
use Rattle.eoe_switch.specs.of_eoe.declared.joining.Unfinished.{Unfinished}
use Rattle.life_runs.specs.of_frame_view.Shares.{AllThree}
use Rattle.life_runs.specs.of_life_model.Lives.{Stand}
use Rattle.life_runs.specs.Led.{Leads, Turn}
use Rattle.life_runs.specs.Spans.{is_leaving}
use Rattle.life_runs.specs.of_link_mails.Body.{Body}
use Rattle.life_runs.specs.of_master_hand.Joins.{unfinished_behind, Completes}
use Rattle.life_runs.specs.of_master_hand.declared.hand.InHand.{InHand}
use Rattle.life_runs.specs.of_master_side.Heard.{Brought}
use Rattle.life_runs.specs.of_master_side.declared.hand.Hand.{Ghosts}
use Rattle.life_runs.specs.of_master_tour.Brings.{accepted_in}
use Rattle.life_runs.specs.of_master_tour.Joins.{join_at}
use Rattle.life_runs.specs.of_master_tour.Walks.{EachPair}
use Rattle.life_runs.specs.of_master_tour.declared.stop.Stop.{Stop}
use Rattle.life_runs.specs.of_segment_model.Slaves.{Datagram}
use Rattle.master_node.specs.declared.node.MasterNode.{MasterNode}

-- what is unfinished at a slave's hand, by how the master stands to it: of an open slave this, and of one that is opened nothing, once it needn't
-- be returned to Init
abbrev pub IsUnfinished : Stand → Option Unfinished → Option Unfinished → Type 0
IsUnfinished (Stand.Opens o) join before = is_leaving (Stand.Opens o) ≡ false → join ≡ None
IsUnfinished Stand.Open join before = join ≡ before
IsUnfinished Stand.Gone join before = ⊤

-- WHAT IS UNFINISHED of each slave's packets, as a master has it
abbrev pub HasUnfinished : MasterNode → List Stand → List (Option Unfinished) → Type 0
HasUnfinished m stands befores = AllThree (λ l j s. IsUnfinished l s.side.hand.found.join j) stands befores m.tour.stops.items

-- how the master stands to a slave before a frame, and while one is under way
abbrev pub stand_before : Leads → Stand
stand_before a = a.lived.life.stand

-- the same while a frame is under way
abbrev pub stand_under : Turn → Stand
stand_under u = u.lived.life.stand

-- the mails accepted of a slave by a frame that came back, and by a lost one
abbrev pub mails_back : List (Datagram Body) → Turn → List Body
mails_back back u = accepted_in u.lived.spot u.lived.life back

-- a lost frame brings none
abbrev pub mails_lost : Turn → List Body
mails_lost u = []

-- WHAT IS UNFINISHED BEHIND A FRAME, slave by slave, by the mails accepted
abbrev pub unfinished_after : (Turn → List Body) → List Turn → List (Option Unfinished) → List (Option Unfinished)
unfinished_after mails [] befores = []
unfinished_after mails (u ∷ us) [] = []
unfinished_after mails (u ∷ us) (j ∷ js) = join_at None unfinished_behind (stand_under u) j (mails u) ∷ unfinished_after mails us js

-- a slave's hand tells of the packet that its mails completed, of what was unfinished before them
abbrev pub StopCompleted : {G : Ghosts InHand} → List (Datagram Body) → Turn → Option Unfinished → Stop InHand G → Type 0
StopCompleted back u before s = Brought (Completes s.side.hand.found before) s.side.heard (mails_back back u)

-- all slaves, behind a frame that came back so
abbrev pub HasCompleted : MasterNode → List Turn → List (Option Unfinished) → List (Datagram Body) → Type 0
HasCompleted m us befores back = AllThree (λ u j s. StopCompleted back u j s) us befores m.tour.stops.items

-- what is unfinished stays
abbrev pub JoinsKept : MasterNode → MasterNode → Type 0
JoinsKept m n = EachPair (λ s t. t.side.hand.found.join ≡ s.side.hand.found.join) m.tour.stops.items n.tour.stops.items

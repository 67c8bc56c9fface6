-- WHAT A FRAME THAT CAME BACK TELLS TO WHO ASKED, by the lives of the slaves: the replies of a mail that is passed on, and its end.
use Rattle.std.specs.Prelude.{◌≡◌, ◌≤◌, ℕ, zero, suc, Bool, true, false, if◌then◌else◌, is_some, Option, Some, None, List, [], ◌∷◌, ◌++◌, filter, Ok, Err}
use Rattle.life_runs.specs.of_master_duty.Reply.{Reply}
use Rattle.life_runs.specs.of_segment_model.Slaves.{Datagram}
use Rattle.life_runs.specs.of_master_hand.Spoken.{Asked}
use Rattle.life_runs.specs.of_link_mails.Body.{Body}
use Rattle.life_runs.specs.of_master_tour.Brings.{accepted_in}
use Rattle.life_runs.specs.of_life_model.Lives.{Life}
use Rattle.life_runs.specs.Served.{Serves, ServedTurn}
use Rattle.life_runs.specs.Told.{Passed, replies_in}
use Rattle.master_node.specs.Listing.{events_in, told_in}
use Rattle.master_node.specs.Named.{is_left}
use Rattle.master_node.specs.declared.event.Event.{Event}
use Rattle.master_node.specs.declared.node.MasterNode.{MasterNode}

-- those events of which who asked gets to know: a reply, that no more follows, what came into hand, and a give-up
abbrev pub is_gateway : Event → Bool
is_gateway (Event.GatewayReply key mail) = true
is_gateway (Event.GatewayDone key) = true
is_gateway (Event.Began slave origin) = true
is_gateway (Event.Answered slave kind) = false
is_gateway (Event.Emergency slave octets) = false
is_gateway (Event.GivenUp slave) = true
is_gateway (Event.Cleared slave own) = false
is_gateway (Event.Opened slave) = false

-- each reply is told under the key of the asker, without address and counter
abbrev pub replies_told : ℕ → List Body → List Event
replies_told key [] = []
replies_told key (Ok m ∷ bs) = Event.GatewayReply key (record m { address = 0; counter = 0 }) ∷ replies_told key bs
replies_told key (Err fault ∷ bs) = replies_told key bs

-- a mail that was in hand, and isn't any more, gets no further reply
abbrev pub done_told : ℕ → Bool → Bool → List Event
done_told key true false = Event.GatewayDone key ∷ []
done_told key true true = []
done_told key false goes = []

-- OF THE MAIL IN HAND, by the mails that were accepted and its slave's life before the frame and behind it; of an epoch that is over nothing is told
abbrev pub life_told : Option Passed → List Body → Life Body Asked Reply → Life Body Asked Reply → List Event
life_told None ms l m = []
life_told (Some p) ms l m = if is_left l.stand then [] else replies_told p.key (replies_in l.era.passing ms) ++ done_told p.key (is_some l.era.passing) (is_some m.era.passing)

-- of one slave of a serving
abbrev pub gateway_of : List (Datagram Body) → ServedTurn → Serves → List Event
gateway_of back v w = life_told v.hand (accepted_in v.turn.lived.spot v.turn.lived.life back) v.turn.lived.life w.lead.lived.life

-- of the slave at a place, by all lives before the frame and behind it
abbrev pub lives_told : List (Datagram Body) → List ServedTurn → List Serves → ℕ → List Event
lives_told back [] ws k = []
lives_told back (v ∷ vs) [] k = []
lives_told back (v ∷ vs) (w ∷ ws) zero = gateway_of back v w
lives_told back (v ∷ vs) (w ∷ ws) (suc k) = lives_told back vs ws k

-- JUST THESE ARE TOLD to who asked, of the slaves that the frame carried, in the order of its visits, where the list has room for all events: nothing came into hand, and no slave was given up
abbrev pub TellsGateway : (ℕ → List Event) → MasterNode → MasterNode → Type 0
TellsGateway tells m n = m.list.before ≤ 16 → filter is_gateway (events_in n) ≡ told_in tells m.tour.visit.items

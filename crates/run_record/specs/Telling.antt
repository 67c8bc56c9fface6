-- WHAT A MASTER COMES TO BEHIND ITS FRAME, by whatever lives are with it while that is under way: it gets the frame back, or learns that it is lost.
use Rattle.std.specs.Prelude.{◌≡◌, ℕ, suc, List, [], map}
use Rattle.packets_heard.specs.of_master_node.Arrivals.{ComeIn, completed_at}
use Rattle.packets_heard.specs.of_master_node.Brought.{HasBrought}
use Rattle.packets_heard.specs.of_master_node.Downs.{GoDown}
use Rattle.packets_heard.specs.of_master_node.Eager.{recalls}
use Rattle.packets_heard.specs.of_master_node.Joined.{HasUnfinished, stand_before, stand_under, unfinished_after}
use Rattle.packets_heard.specs.of_master_node.ServedEager.{AllServedAsk, AllServedRecall}
use Rattle.packets_heard.specs.of_master_node.Serving.{ServedShows, ServedUnder, run_lead, run_turn}
use Rattle.packets_heard.specs.of_master_node.Shows.{IsUnderWay, lived_of}
use Rattle.packets_heard.specs.of_master_node.Told.{HasLives}
use Rattle.packets_heard.specs.of_master_node.Toured.{tour_of}
use Rattle.packets_heard.specs.of_master_node.declared.node.MasterNode.{MasterNode}
use Rattle.plan_ring.specs.of_frame_view.Seen.{seen}
use Rattle.plan_ring.specs.of_frame_view.View.{Lens}
use Rattle.served_places.specs.of_life_runs.Led.{Exchanged, Leads, Turn, gives_up_at, missed_behind}
use Rattle.served_places.specs.of_segment_model.Returned.{Returns}
use Rattle.packets_heard.specs.Heard.{Joined, mails_by}
use Rattle.packets_heard.specs.Listed.{unfinished_of}
use Rattle.packets_heard.specs.Served.{serves_behind}
use Rattle.packets_heard.specs.Toured.{tour_behind}
use Rattle.served_places.specs.of_segment_ring.declared.wire.Fate.{Fate}
use Rattle.served_places.specs.of_segment_ring.declared.wire.Fate.TheVariants as Fates
use Rattle.served_places.specs.of_life_runs.Served.{ServedTurn, Serves, served_behind}

-- the life of a slave behind a frame, where so many frames were lost in a row before it
abbrev pub life_behind : (ℕ → Lens) → ℕ → ℕ → ℕ → ℕ → Exchanged → ServedTurn → Serves
life_behind lens recover retry missed made f v = served_behind lens recover retry (gives_up_at lens recover retry missed) made f v

-- WHAT IS SO OF A FRAME of this fate, with these octets where it came back, by the lives of a serving that are with the master while it is under way
abbrev pub ServedOver : Fate → List ℕ → MasterNode → ((ℕ → Lens) → ℕ → ℕ → ℕ → ℕ → List ServedTurn → Exchanged → Type 0) → Type 0
ServedOver fate back m P =
    (lens : ℕ → Lens) (recover retry missed made : ℕ) (vs : List ServedTurn) (f : Exchanged) → f.fate ≡ fate → f.back ≡ back →
    ServedUnder lens recover retry m f.sent missed made vs → (fate ≡ Fates.Pass → Returns (seen lens f.sent) (seen lens back)) →
    P lens recover retry missed made vs f

-- the lives behind it are with the master
abbrev pub LivesGoOn : Fate → List ℕ → MasterNode → MasterNode → Type 0
LivesGoOn fate back m n =
    ServedOver fate back m (λ lens recover retry missed made vs f.
    ServedShows lens recover retry n (missed_behind lens recover retry f.fate missed) (suc made) (serves_behind lens recover retry missed made f vs))

-- its tour goes on by the frame's fate
abbrev pub TourGoesOn : Fate → MasterNode → MasterNode → Type 0
TourGoesOn fate m n =
    (lens : ℕ → Lens) (recover : ℕ) (as' : List Leads) → HasLives lens recover n (map lived_of as') →
    tour_of n ≡ tour_behind m.tour.retry fate as' (tour_of m) m.tour.visit.items

-- where the frame came back the master has just the mails that it brought of the slaves
abbrev pub BringsBack : Fate → List ℕ → MasterNode → MasterNode → Type 0
BringsBack fate back m n =
    fate ≡ Fates.Pass → (lens : ℕ → Lens) (recover : ℕ) (octets : List ℕ) (us : List Turn) → IsUnderWay lens recover m octets us →
    Returns (seen lens octets) (seen lens back) → HasBrought n us (seen lens back)

-- what it remembers of the slaves then goes with their lives, where that of before asked for just what was sent
abbrev pub RecallsBack : Fate → List ℕ → MasterNode → MasterNode → Type 0
RecallsBack fate back m n =
    fate ≡ Fates.Pass → (lens : ℕ → Lens) (recover retry missed made : ℕ) (vs : List ServedTurn) (f : Exchanged) → f.fate ≡ fate → f.back ≡ back →
    ServedUnder lens recover retry m f.sent missed made vs → Returns (seen lens f.sent) (seen lens back) →
    AllServedAsk (seen lens f.sent) (recalls m) (map run_turn vs) →
    AllServedRecall lens (seen lens back) (λ v. life_behind lens recover retry missed made f v) vs (recalls m) (recalls n)

-- and so it does where the frame was lost
abbrev pub RecallsLost : Fate → MasterNode → MasterNode → Type 0
RecallsLost fate m n =
    (after : ℕ) → fate ≡ Fates.Lost after → (lens : ℕ → Lens) (recover retry missed made : ℕ) (vs : List ServedTurn) (f : Exchanged) →
    ServedUnder lens recover retry m f.sent missed made vs →
    AllServedRecall lens [] (λ v. life_behind lens recover retry missed made f v) vs (recalls m) (recalls n)

-- the packets that a frame which came back completed come in at the ports of their slaves
abbrev pub PacketsComeIn : Fate → List ℕ → MasterNode → MasterNode → Type 0
PacketsComeIn fate back m n =
    fate ≡ Fates.Pass → (lens : ℕ → Lens) (recover : ℕ) (octets : List ℕ) (us : List Turn) (js : List Joined) → IsUnderWay lens recover m octets us →
    Returns (seen lens octets) (seen lens back) → HasUnfinished m (map stand_under us) (unfinished_of js) →
    ComeIn m (λ k. completed_at (seen lens back) us (unfinished_of js) k) n

-- what is unfinished of the slaves' packets goes on by the mails that the frame brought
abbrev pub PacketsJoin : Fate → List ℕ → MasterNode → MasterNode → Type 0
PacketsJoin fate back m n =
    (lens : ℕ → Lens) (recover retry missed made : ℕ) (vs : List ServedTurn) (js : List Joined) (f : Exchanged) → f.fate ≡ fate → f.back ≡ back →
    ServedUnder lens recover retry m f.sent missed made vs → (fate ≡ Fates.Pass → Returns (seen lens f.sent) (seen lens back)) →
    HasUnfinished m (map stand_under (map run_turn vs)) (unfinished_of js) →
    HasUnfinished n (map stand_before (map run_lead (serves_behind lens recover retry missed made f vs)))
    (unfinished_after (λ u. mails_by lens f f.fate u) (map run_turn vs) (unfinished_of js))

-- the ports of the slaves that were given up with a lost frame go down
abbrev pub PortsGoDown : Fate → MasterNode → MasterNode → Type 0
PortsGoDown fate m n =
    (after : ℕ) → fate ≡ Fates.Lost after → (lens : ℕ → Lens) (recover retry missed made : ℕ) (vs : List ServedTurn) (f : Exchanged) → f.fate ≡ fate →
    ServedUnder lens recover retry m f.sent missed made vs → GoDown m (map run_turn vs) (map run_lead (serves_behind lens recover retry missed made f vs)) n

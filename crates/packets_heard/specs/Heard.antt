-- THE PACKETS THAT SLAVES SEND, as their master joins them over the frames of a run.
use Rattle.std.specs.Prelude.{◌≡◌, ℕ, Option, None, List, [], ◌∷◌, ◌++◌, map}
use Rattle.master_node.specs.of_eoe.declared.joining.Unfinished.{Unfinished}
use Rattle.master_node.specs.of_frame_view.View.{Lens}
use Rattle.master_node.specs.of_frame_view.Seen.{seen}
use Rattle.master_node.specs.of_life_model.Lives.{Stand}
use Rattle.master_node.specs.of_life_runs.Led.{Exchanged, Leads, Turn, IsLed}
use Rattle.slave_server.specs.of_link_mails.Body.{Body}
use Rattle.master_node.specs.of_master_hand.Joins.{unfinished_behind, packets_in}
use Rattle.master_node.specs.of_master_side.Heard.{joined_by}
use Rattle.master_node.specs.of_master_tour.Brings.{accepted_in}
use Rattle.master_node.specs.of_master_tour.Joins.{join_at}
use Rattle.master_node.specs.of_segment_ring.declared.wire.Fate.{Fate}
use Rattle.master_node.specs.of_segment_ring.declared.wire.Fate.TheVariants.{Pass, Lost}

-- the mails accepted of a slave by a frame of this fate: a lost one brings none
abbrev pub mails_by : (ℕ → Lens) → Exchanged → Fate → Turn → List Body
mails_by lens f Pass u = accepted_in u.lived.spot u.lived.life (seen lens f.back)
mails_by lens f (Lost after) u = []

-- a slave's packets so far: what is unfinished, and those that were completed, in order
pub record Joined : Type 0 where
  pub unfinished : Option Unfinished
  pub packets : List (List ℕ)

-- behind a frame, by how the master stood to the slave and the mails accepted of it: of a slave that isn't open nothing is unfinished
abbrev pub joined_behind : Stand → List Body → Joined → Joined
joined_behind stand ms j = record { unfinished = join_at None unfinished_behind stand j.unfinished ms; packets = j.packets ++ packets_in j.unfinished ms }

-- of each slave
abbrev pub joined_on : (ℕ → Lens) → Exchanged → List Joined → List Turn → List Joined
joined_on lens f [] us = []
joined_on lens f (j ∷ js) [] = j ∷ js
joined_on lens f (j ∷ js) (u ∷ us) = joined_behind u.lived.life.stand (mails_by lens f f.fate u) j ∷ joined_on lens f js us

-- before the first frame
abbrev pub joined_none : List Leads → List Joined
joined_none as' = map (λ a. record { unfinished = None; packets = [] }) as'

-- FRAME BY FRAME, as a master joins them
abbrev pub joined_in : {lens : ℕ → Lens} {recover retry : ℕ} {first : List Leads} {fs : List Exchanged} {missed : ℕ} {as' : List Leads} → IsLed lens recover retry first fs missed as' → List Joined
joined_in {first = first} IsLed.start = joined_none first
joined_in {lens = lens} (IsLed.on fs missed as' f us led frame) = joined_on lens f (joined_in led) us

-- the mails accepted of a slave each time that it was open: of those that are over, and since it was opened last
pub record Times : Type 0 where
  pub past : List (List Body)
  pub now : List Body

-- a time is over; one without mails isn't counted
abbrev pub ended : List (List Body) → List Body → List (List Body)
ended past [] = past
ended past (m ∷ ms) = past ++ (m ∷ ms) ∷ []

-- behind a frame
abbrev pub times_behind : Stand → List Body → Times → Times
times_behind (Stand.Opens o) ms t = record { past = ended t.past t.now; now = [] }
times_behind Stand.Open ms t = record { past = t.past; now = t.now ++ ms }
times_behind Stand.Gone ms t = record { past = ended t.past t.now; now = [] }

-- of each slave
abbrev pub times_on : (ℕ → Lens) → Exchanged → List Times → List Turn → List Times
times_on lens f [] us = []
times_on lens f (t ∷ ts) [] = t ∷ ts
times_on lens f (t ∷ ts) (u ∷ us) = times_behind u.lived.life.stand (mails_by lens f f.fate u) t ∷ times_on lens f ts us

-- before the first frame
abbrev pub times_none : List Leads → List Times
times_none as' = map (λ a. record { past = []; now = [] }) as'

-- OVER A RUN
abbrev pub times_in : {lens : ℕ → Lens} {recover retry : ℕ} {first : List Leads} {fs : List Exchanged} {missed : ℕ} {as' : List Leads} → IsLed lens recover retry first fs missed as' → List Times
times_in {first = first} IsLed.start = times_none first
times_in {lens = lens} (IsLed.on fs missed as' f us led frame) = times_on lens f (times_in led) us

-- the packets that the mails of such times join to, those of each for itself
abbrev pub packets_of : List (List Body) → List (List ℕ)
packets_of [] = []
packets_of (ms ∷ mss) = packets_in None ms ++ packets_of mss

-- A SLAVE'S PACKETS are just those that the mails of each time join to, with nothing unfinished before
pub record IsJoined (t : Times) (j : Joined) : Type 0 where
  pub unfinished : j.unfinished ≡ joined_by unfinished_behind None t.now
  pub packets : j.packets ≡ packets_of (ended t.past t.now)

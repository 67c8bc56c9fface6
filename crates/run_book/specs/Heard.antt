-- THE MAILS THAT A MASTER ACCEPTS of its slaves over the frames of a run, and the emergencies among them.
use Rattle.std.specs.Prelude.{◌≡◌, ℕ, zero, suc, List, [], ◌∷◌, ◌++◌, map, length}
use Rattle.master_node.specs.of_frame_view.View.{Lens}
use Rattle.master_node.specs.of_frame_view.Seen.{seen}
use Rattle.master_node.specs.of_life_runs.Led.{Exchanged, Leads, Turn, IsLed}
use Rattle.slave_server.specs.of_link_mails.Body.{Body}
use Rattle.master_node.specs.of_master_hand.Brings.{as_list, emergency_in}
use Rattle.master_node.specs.of_master_tour.Brings.{accepted_in}
use Rattle.run_book.specs.declared.book.Emergency.{Emergency}
use Rattle.slave_server.specs.of_segment_model.Slaves.{Datagram}
use Rattle.master_node.specs.of_segment_ring.declared.wire.Fate.{Fate}
use Rattle.master_node.specs.of_segment_ring.declared.wire.Fate.TheVariants.{Pass, Lost}

-- a mail accepted of a slave, with the number of the frame whose return brought it
pub record Accepted : Type 0 where
  pub frame : ℕ
  pub mail : Body

-- each of these mails, with this frame
abbrev pub accepted_with : ℕ → List Body → List Accepted
accepted_with frame [] = []
accepted_with frame (mail ∷ mails) = record { frame = frame; mail = mail } ∷ accepted_with frame mails

-- the mails that the return of a frame brought of a slave, by its life before it
abbrev pub brought_of : ℕ → List (Datagram Body) → Turn → List Accepted
brought_of frame back u = accepted_with frame (accepted_in u.lived.spot u.lived.life back)

-- those that a frame of this fate brought: a lost one brings none
abbrev pub brought_by : (ℕ → Lens) → ℕ → Exchanged → Fate → Turn → List Accepted
brought_by lens frame f Pass u = brought_of frame (seen lens f.back) u
brought_by lens frame f (Lost after) u = []

-- of each slave, behind those accepted before
abbrev pub heard_on : (Turn → List Accepted) → List (List Accepted) → List Turn → List (List Accepted)
heard_on more [] us = []
heard_on more (hs ∷ hss) [] = hs ∷ hss
heard_on more (hs ∷ hss) (u ∷ us) = (hs ++ more u) ∷ heard_on more hss us

-- before the first frame none was
abbrev pub heard_none : List Leads → List (List Accepted)
heard_none [] = []
heard_none (a ∷ as') = [] ∷ heard_none as'

-- THE MAILS ACCEPTED OVER A RUN, slave by slave, in order, each with the frame that brought it
abbrev pub heard_in : {lens : ℕ → Lens} {recover retry : ℕ} {first : List Leads} {fs : List Exchanged} {missed : ℕ} {as' : List Leads} → IsLed lens recover retry first fs missed as' → List (List Accepted)
heard_in {first = first} IsLed.start = heard_none first
heard_in {lens = lens} (IsLed.on fs missed as' f us led frame) = heard_on (λ u. brought_by lens (length fs) f f.fate u) (heard_in led) us

-- these octets, each with this frame
abbrev pub emergencies_with : ℕ → List (List ℕ) → List Emergency
emergencies_with frame [] = []
emergencies_with frame (octets ∷ rows) = record { octets = octets; frame = frame } ∷ emergencies_with frame rows

-- THE EMERGENCIES AMONG MAILS that were accepted, in order, each whole and with its frame
abbrev pub emergencies_of : List Accepted → List Emergency
emergencies_of [] = []
emergencies_of (h ∷ hs) = emergencies_with h.frame (as_list (emergency_in h.mail)) ++ emergencies_of hs

-- JUST THESE ARE NOTED of each slave
abbrev pub AllNoted : List (List Accepted) → List (List Emergency) → Type 0
AllNoted hss notes = notes ≡ map emergencies_of hss

-- the mails accepted once the return of a frame is noted of so many slaves, the first ones
abbrev pub heard_to : (Turn → List Accepted) → ℕ → List (List Accepted) → List Turn → List (List Accepted)
heard_to more zero hss us = hss
heard_to more (suc k) [] us = []
heard_to more (suc k) (hs ∷ hss) [] = hs ∷ hss
heard_to more (suc k) (hs ∷ hss) (u ∷ us) = (hs ++ more u) ∷ heard_to more k hss us

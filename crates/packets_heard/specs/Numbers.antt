-- WHEN THE EVENTS OF A SWITCH CAME over the frames of a run: the number of each is how many frames had been sent then.
use Rattle.std.specs.Prelude.{◌≡◌, ℕ, zero, suc, ◌==◌, nat_le, Bool, true, false, if◌then◌else◌, Option, Some, None, List, [], ◌∷◌, ◌++◌, length, slice_get, All}
use Rattle.master_node.specs.of_eoe_switch.Switch.{queue_at, switched}
use Rattle.master_node.specs.of_eoe_switch.declared.switching.SwitchEvent.{SwitchEvent}
use Rattle.master_node.specs.of_eoe_switch.declared.switching.SwitchEvent.TheVariants.{Arrive, Begun, Down}
use Rattle.master_node.specs.of_frame_view.View.{Lens}
use Rattle.master_node.specs.of_life_runs.Led.{Exchanged, Leads, Turn, IsLed}
use Rattle.master_node.specs.Begins.{begins_other, begun_of}
use Rattle.master_node.specs.Made.{IsOfMaking}
use Rattle.master_node.specs.Wants.{gave_of}
use Rattle.packets_heard.specs.Over.{AreBegun, BegunOn, packet_begun}
use Rattle.packets_heard.specs.Listed.{Listed, long_ones, packets_by}
use Rattle.packets_heard.specs.Heard.{joined_in}

-- a packet comes in at this port by an event
abbrev pub comes_in : ℕ → SwitchEvent → Bool
comes_in port (Arrive at packet) = at == port
comes_in port (Begun at) = false
comes_in port (Down at) = false

-- one begins there
abbrev pub begins : ℕ → SwitchEvent → Bool
begins port (Arrive at packet) = false
begins port (Begun at) = at == port
begins port (Down at) = false

-- the port goes down
abbrev pub goes : ℕ → SwitchEvent → Bool
goes port (Arrive at packet) = false
goes port (Begun at) = false
goes port (Down at) = at == port

-- THE NUMBERS OF SUCH EVENTS, in order, where each event has its number beside it
abbrev pub numbers_where : (SwitchEvent → Bool) → List SwitchEvent → List ℕ → List ℕ
numbers_where such [] ns = []
numbers_where such (e ∷ es) [] = []
numbers_where such (e ∷ es) (n ∷ ns) = if such e then n ∷ numbers_where such es ns else numbers_where such es ns

-- THE EVENTS NUMBERED UP TO A FRAME, in order
abbrev pub events_up_to : ℕ → List SwitchEvent → List ℕ → List SwitchEvent
events_up_to frame [] ns = []
events_up_to frame (e ∷ es) [] = []
events_up_to frame (e ∷ es) (n ∷ ns) = if nat_le n frame then e ∷ events_up_to frame es ns else events_up_to frame es ns

-- this number for each of these
abbrev pub each_with : {X : Type 0} → ℕ → List X → List ℕ
each_with n [] = []
each_with n (x ∷ xs) = n ∷ each_with n xs

-- the frame at which the slave at a place was given up for good, where it was: it is taken up again so often
abbrev pub given_up_at : ℕ → List Leads → ℕ → Option ℕ
given_up_at recover [] k = None
given_up_at recover (a ∷ as') zero = slice_get (gave_of a) recover
given_up_at recover (a ∷ as') (suc k) = given_up_at recover as' k

-- the number behind such a frame, where there is one
abbrev pub number_behind : Option ℕ → List ℕ
number_behind None = []
number_behind (Some frame) = suc frame ∷ []

-- a frame, where this holds
abbrev pub frame_where : Bool → ℕ → List ℕ
frame_where true frame = frame ∷ []
frame_where false frame = []

-- NOTHING WAITS at a port of a switch with so many, behind these events
abbrev pub NoneWaits : ℕ → ℕ → List SwitchEvent → Type 0
NoneWaits many port es = queue_at (switched many es).switch port ≡ []

-- THE FRAMES BEFORE WHICH PACKETS CAME INTO HAND of the slave at a place, in order
abbrev pub frames_begun : {lens : ℕ → Lens} {recover retry : ℕ} {first : List Leads} {fs : List Exchanged} {missed : ℕ} {as' : List Leads} → IsLed lens recover retry first fs missed as' → ℕ → List ℕ
frames_begun IsLed.start k = []
frames_begun (IsLed.on fs missed as' f us led frame) k = frames_begun led k ++ each_with (length fs) (packet_begun (begun_of us k))

-- those before which another service did
abbrev pub frames_other : {lens : ℕ → Lens} {recover retry : ℕ} {first : List Leads} {fs : List Exchanged} {missed : ℕ} {as' : List Leads} → IsLed lens recover retry first fs missed as' → ℕ → List ℕ
frames_other IsLed.start k = []
frames_other (IsLed.on fs missed as' f us led frame) k = frames_other led k ++ frame_where (begins_other (begun_of us k)) (length fs)

-- THE FRAMES THAT BROUGHT THE LAST FRAGMENT OF A PACKET of the slave at a place, in order, once for each packet; those of less than 14 octets are left out
abbrev pub frames_heard : {lens : ℕ → Lens} {recover retry : ℕ} {first : List Leads} {fs : List Exchanged} {missed : ℕ} {as' : List Leads} → List (Option ℕ) → IsLed lens recover retry first fs missed as' → ℕ → List ℕ
frames_heard ports IsLed.start k = []
frames_heard {lens = lens} {recover = recover} {retry = retry} ports (IsLed.on fs missed as' f us led frame) k =
    frames_heard ports led k ++ each_with (length fs) (long_ones (packets_by lens recover retry ports f f.fate us (joined_in led) k))

-- ONE FRAME MORE: each event of its making has the number of the frames sent before it, and each of its return or its loss one more
pub record NumberedOn (listed begun : List SwitchEvent → Type 0) (before : List SwitchEvent → List ℕ → Type 0) (ports : List (Option ℕ)) (many made : ℕ) (us : List Turn) (es : List SwitchEvent) (ns : List ℕ) : Type 0 where
  pub step : BegunOn begun ports many us es
  pub listed_old : listed step.old
  pub numbers : List ℕ
  pub was : before step.old numbers
  pub only : All IsOfMaking step.making
  pub counted : ns ≡ numbers ++ (each_with made step.making ++ each_with (suc made) step.behind)

-- THE EVENTS OF A RUN, frame by frame, and their numbers
abbrev pub Numbered : {lens : ℕ → Lens} {recover retry : ℕ} {first : List Leads} {fs : List Exchanged} {missed : ℕ} {as' : List Leads} → List (Option ℕ) → ℕ → IsLed lens recover retry first fs missed as' → List SwitchEvent → List ℕ → Type 0
Numbered ports many IsLed.start es ns = (es ≡ []) × (ns ≡ [])
Numbered {lens = lens} {recover = recover} {retry = retry} ports many (IsLed.on fs missed as' f us led frame) es ns =
    NumberedOn (λ old. Listed lens recover retry ports led old) (λ old. AreBegun ports many led old) (λ old numbers. Numbered ports many led old numbers) ports many (length fs) us es ns

-- WHAT MAY BEGIN AT A VISIT BEGINS, and without a visit nothing does.
use Rattle.std.specs.Prelude.{◌≡◌, ℕ, suc, true, false, Option, Some, None, List, [], ◌∷◌, slice_get, ⊤}
use Rattle.life_runs.specs.of_frame_view.View.{Lens}
use Rattle.life_runs.specs.of_frame_view.Shares.{AllFrom}
use Rattle.life_runs.specs.Led.{Leads, Turn}
use Rattle.life_runs.specs.of_master_duty.Reply.{Reply}
use Rattle.life_runs.specs.of_exchange_model.Exchange.{Speech}
use Rattle.life_runs.specs.of_segment_model.Seats
use Rattle.life_runs.specs.of_state_model.Stated as Stated
use Rattle.life_runs.specs.of_state_model.Accounts.{Account, is_free, is_acknowledged}
use Rattle.life_runs.specs.of_master_hand.Shown.{Shows, knows}
use Rattle.life_runs.specs.of_master_hand.Spoken.{Asked, acknowledged}
use Rattle.life_runs.specs.of_master_hand.Talk.{asked_of}
use Rattle.life_runs.specs.of_master_hand.declared.hand.InHand.{InHand}
use Rattle.life_runs.specs.of_master_hand.declared.laying.Laid.{Laid}
use Rattle.life_runs.specs.of_master_side.Carried.{in_hand}
use Rattle.life_runs.specs.of_master_side.Recall.{Recall}
use Rattle.life_runs.specs.of_master_side.Shown.{SideShows}
use Rattle.life_runs.specs.of_master_side.declared.hand.Hand.{Ghosts}
use Rattle.life_runs.specs.of_master_side.declared.side.Side.{Side}
use Rattle.life_runs.specs.of_link_mails.Body.{Body}
use Rattle.life_runs.specs.of_master_tour.Made.{is_in}
use Rattle.life_runs.specs.of_master_tour.declared.stop.Stop.{Stop}
use Rattle.life_runs.specs.of_segment_plan.declared.service.Service.{Service}
use Rattle.life_runs.specs.Served.{Keyed}
use Rattle.life_runs.specs.of_segment_plan.declared.service.Service.TheVariants.{State}
use Rattle.master_node.specs.Begins.{begun_for}
use Rattle.master_node.specs.Forwards.{forwarded}
use Rattle.master_node.specs.Resting.{MayBegin}
use Rattle.master_node.specs.declared.coming.Coming.{Coming}
use Rattle.master_node.specs.declared.lan.Lan.{Lan}

-- a service by mails that a slave whose mailbox 0 has `room` octets is never asked for
abbrev pub NeverAsked : ℕ → Service → Type 0
NeverAsked room (State target) = ⊥
NeverAsked room service = asked_of room service ≡ None

-- THE SCRIPT IS AT ITS END: it has no next service, or one that never begins
abbrev pub NeverBegins : ℕ → Option Service → Type 0
NeverBegins room None = ⊤
NeverBegins room (Some service) = NeverAsked room service

-- no packet waits at the port of the slave at a place
abbrev pub NoPacket : Lan → ℕ → Type 0
NoPacket l place = forwarded l.switch l.ports.items place ≡ []

-- nothing is left that might begin: the script is at its end, and no packet waits at the port
pub record IsAtEnd (lens : ℕ → Lens) (l : Lan) (place : ℕ) (a : Leads) : Type 0 where
  pub script : NeverBegins (lens a.lived.spot.station).out (slice_get a.script a.number)
  pub packet : NoPacket l place

-- WHERE A SERVICE MIGHT BEGIN AT A VISIT and none did, nothing is left that might; whether a mail is still held behind the visit or not
abbrev pub BeginsAll : (ℕ → Lens) → Lan → ℕ → Recall → Leads → Turn → Type 0
BeginsAll lens l place m a u = m.knows ≡ true → MayBegin lens a → u.share.under ≡ true → u.begun ≡ None → IsAtEnd lens l place a

-- of all slaves, from this place on
abbrev pub AllBegin : (ℕ → Lens) → Lan → ℕ → List Recall → List Leads → List Turn → Type 0
AllBegin lens l place (m ∷ ms) (a ∷ as') (u ∷ us) = BeginsAll lens l place m a u × AllBegin lens l (suc place) ms as' us
AllBegin lens l place [] [] [] = ⊤
AllBegin lens l place _ _ _ = ⊥

-- NOTHING COMES INTO HAND of a slave that has no datagram in the frame
abbrev pub AllUnvisited : List Turn → Type 0
AllUnvisited [] = ⊤
AllUnvisited (u ∷ us) = (u.share.under ≡ false → u.begun ≡ None) × AllUnvisited us

-- A SIDE OF WHICH A SERVICE MAY COME INTO HAND, by what it shows
pub record SideFrees {G : Ghosts InHand} (s : Side InHand G) : Type 0 where
  pub speech : Speech Body Asked Reply
  pub side : Seats.Side Body Asked Reply
  pub account : Account Asked Reply
  pub shows : SideShows (Shows s.hand.course s.hand.which s.hand.clients speech) s.out s.inn s.fresh s.duty side account
  pub known : knows s.hand.course ≡ true
  pub hand : in_hand s.duty ≡ None
  pub unpassed : s.passing ≡ None
  pub free : is_free speech side side.now ≡ true
  pub done : is_acknowledged speech acknowledged side side.now ≡ true

-- a service by mails
abbrev pub IsByMails : Option Service → Type 0
IsByMails None = ⊥
IsByMails (Some (State target)) = ⊥
IsByMails (Some service) = ⊤

-- nothing may come into hand: no packet waits, and the script is at its end
abbrev pub NoneComes : Lan → ℕ → Option Service → Type 0
NoneComes l place next = NoPacket l place × ((room : ℕ) → NeverBegins room next)

-- a packet comes only where one waits
abbrev pub WaitsFor : Lan → ℕ → Option Coming → Type 0
WaitsFor l place None = ⊤
WaitsFor l place (Some Coming.Packet) = NoPacket l place → ⊥
WaitsFor l place (Some Coming.Mail) = ⊤
WaitsFor l place (Some Coming.Script) = ⊤
WaitsFor l place (Some (Coming.State target)) = ⊤

-- and then it is laid ready
abbrev pub LaysPacket : Option Coming → Laid → Type 0
LaysPacket None laid = ⊤
LaysPacket (Some Coming.Packet) laid = laid ≡ Laid.Packet
LaysPacket (Some Coming.Mail) laid = ⊤
LaysPacket (Some Coming.Script) laid = ⊤
LaysPacket (Some (Coming.State target)) laid = ⊤

-- A SLAVE WHILE A FRAME IS MADE, where these places were visited, with what came into hand of it, and the mails that waited before
pub record HasStarted {G : Ghosts InHand} (lens : ℕ → Lens) (l : Lan) (visited : List ℕ) (i : ℕ) (begun : Option (Stated.Service Asked)) (a : Leads) (waits : List Keyed) (s : Stop InHand G) : Type 0 where
  pub under : s.under ≡ true → is_in i visited ≡ true
  pub ends : is_in i visited ≡ true → knows s.side.hand.course ≡ true → MayBegin lens a → a.lived.life.era.passing ≡ None → begun ≡ None → IsAtEnd lens l i a × (waits ≡ [])
  pub unvisited : s.under ≡ false → begun ≡ None

-- all slaves, by the places that were visited so far: of a run, or of a serving
pub record HaveStarted {A : Type 0} {G : Ghosts InHand} (lead : A → Leads) (waits : A → List Keyed) (lens : ℕ → Lens) (l : Lan) (begun : ℕ → Option (Stated.Service Asked)) (as' : List Leads) (xs : List A) (ss : List (Stop InHand G)) : Type 0 where
  pub visited : List ℕ
  pub each : AllFrom (λ i x s. HasStarted lens l visited i (begun_for begun as' i) (lead x) (waits x) s) 0 xs ss

-- A MASTER LEADS THE LIVES OF ITS SLAVES: what it has of each, before a frame and while one is under way.
use Rattle.std.specs.Prelude.{◌≡◌, ◌≤◌, ◌<◌, ℕ, Bool, true, false, None, List, [], ◌∷◌, map, length, All}
use Rattle.life_runs.specs.of_frame_view.View.{Lens}
use Rattle.life_runs.specs.of_frame_view.Seen.{seen}
use Rattle.life_runs.specs.of_frame_view.Shares.{Lived, AllBoth, AreDistinct}
use Rattle.life_runs.specs.of_life_model.Lives
use Rattle.life_runs.specs.of_life_model.Lives.{Spot}
use Rattle.life_runs.specs.Led.{Leads, Turn, speech_at}
use Rattle.life_runs.specs.of_link_mails.Body.{Body}
use Rattle.life_runs.specs.of_mailbox_master.Any.{in_area_len}
use Rattle.life_runs.specs.of_master_duty.Reply.{Reply}
use Rattle.life_runs.specs.of_master_hand.Shown.{Shows}
use Rattle.life_runs.specs.of_master_hand.Spoken.{Asked}
use Rattle.life_runs.specs.of_master_hand.declared.hand.InHand.{InHand}
use Rattle.life_runs.specs.of_master_side.Passing.{passing_seen}
use Rattle.life_runs.specs.of_master_side.Shown.{SideShows}
use Rattle.life_runs.specs.of_master_side.declared.hand.Hand.{Ghosts}
use Rattle.life_runs.specs.of_master_tour.Goes.{holds_at}
use Rattle.life_runs.specs.of_master_tour.Made.{StopLives, is_in}
use Rattle.life_runs.specs.of_master_tour.Orders.{AreOnce}
use Rattle.life_runs.specs.of_master_tour.Stands.{StandUnder, is_opening}
use Rattle.life_runs.specs.of_master_tour.declared.stop.Stand.{Stand}
use Rattle.life_runs.specs.of_master_tour.declared.stop.Stop.{Stop}
use Rattle.life_runs.specs.of_segment_model.Seats.{Side}
use Rattle.life_runs.specs.of_state_model.Accounts.{Account}
use Rattle.master_node.specs.Rooms.{FitAgain, FitUnder}
use Rattle.master_node.specs.declared.node.MasterNode.{MasterNode}
use Rattle.master_node.specs.declared.post.Post.{Post}

-- a slave that was not given up for good
abbrev pub is_led : Lives.Stand → Bool
is_led (Lives.Stand.Opens o) = true
is_led Lives.Stand.Open = true
is_led Lives.Stand.Gone = false

-- no mail waits to be passed on
abbrev pub WaitsNone : Post → Type 0
WaitsNone p = p.mails.items ≡ []

-- the slave behind the frame that is under way, should nothing come of it
abbrev pub lead_of : Turn → Leads
lead_of u = record { script = u.script; number = u.number; lived = u.lived }

-- the life of a slave that is led
abbrev pub lived_of : Leads → Lived Asked Reply
lived_of a = a.lived

-- the life of a slave before a frame
abbrev pub turned_of : Turn → Lived Asked Reply
turned_of u = u.lived

-- tests of a slave: it is live, it is brought up or opened anew, the frame has a datagram of it
abbrev pub is_live_lead : Leads → Bool
is_live_lead a = is_led a.lived.life.stand

-- it is brought up or opened anew
abbrev pub is_opening_lead : Leads → Bool
is_opening_lead a = is_opening a.lived.life.stand

-- before a frame it is live
abbrev pub is_live_turn : Turn → Bool
is_live_turn u = is_led u.lived.life.stand

-- before a frame it is brought up or opened anew
abbrev pub is_opening_turn : Turn → Bool
is_opening_turn u = is_opening u.lived.life.stand

-- the frame has a datagram of it
abbrev pub is_carried : Turn → Bool
is_carried u = u.share.under

-- the first of these places is one where the test holds
abbrev pub HoldsFirst : {S : Type 0} → (S → Bool) → List S → List ℕ → Type 0
HoldsFirst test ss [] = ⊥
HoldsFirst test ss (p ∷ ps) = holds_at test ss p ≡ true

-- in the first bring-up just the slave that is brought up is among these places
abbrev pub IsAlone : ℕ → ℕ → List ℕ → Type 0
IsAlone opened count places = opened < count → (k : ℕ) → is_in k places ≡ true → k ≡ opened

-- THE SLAVES THAT A LOST FRAME CARRIED come again: no one twice, and the first is live
pub record ComeAgain {S : Type 0} (live : S → Bool) (visit : List ℕ) (opened : ℕ) (ss : List S) : Type 0 where
  pub once : AreOnce visit
  pub first : HoldsFirst live ss visit
  pub alone : IsAlone opened (length ss) visit

-- WHERE THE TOUR GOES ON: those from `opened` on are in their first bring-up
pub record GoesOn (again : Bool) (visit : List ℕ) (opened : ℕ) (as' : List Leads) : Type 0 where
  pub ahead : (k : ℕ) → opened ≤ k → k < length as' → holds_at is_opening_lead as' k ≡ true
  pub comes : again ≡ true → ComeAgain is_live_lead visit opened as'

-- and where it stands while a frame is under way: that carries one of these at most
pub record GoesUnder (visit : List ℕ) (opened : ℕ) (us : List Turn) : Type 0 where
  pub ahead : (k : ℕ) → opened ≤ k → k < length us → holds_at is_opening_turn us k ≡ true
  pub apart : (k : ℕ) → opened < k → k < length us → holds_at is_carried us k ≡ false
  pub comes : ComeAgain is_live_turn visit opened us

module _ (lens : ℕ → Lens) (recover : ℕ) where
  -- what a slave's side shows of its mailboxes and services, in the speech of this slave
  abbrev pub side_shows : {G : Ghosts InHand} → Stop InHand G → Spot → Side Body Asked Reply → Account Asked Reply → Type 0
  side_shows s spot d b = SideShows (Shows s.side.hand.course s.side.hand.which s.side.hand.clients (speech_at lens spot)) s.side.out s.side.inn s.side.fresh s.side.duty d b

  -- a slave's life, as its stop has it
  abbrev pub IsLived : {G : Ghosts InHand} → Lived Asked Reply → Stop InHand G → Type 0
  IsLived a s = StopLives lens recover (side_shows s a.spot) s.side.station s.place s.start s.stand s.spare s.side.out.len (in_area_len s.side.inn) a

  -- THE SLAVE BEFORE A FRAME: its life, its script and the number of the next service; no mail is passed on to it
  pub record IsLead {G : Ghosts InHand} (a : Leads) (s : Stop InHand G) : Type 0 where
    pub lives : IsLived a.lived s
    pub script : s.side.hand.laying.script ≡ a.script
    pub number : s.side.hand.laying.number ≡ a.number
    pub short : length a.script ≤ 4096
    pub unpassed : s.side.passing ≡ None
    pub own : a.lived.life.era.passing ≡ None

  -- THE SLAVE WHILE A FRAME IS UNDER WAY, whatever is passed on to it: its life, its share of the frame, and what the frame has of it
  pub record IsOnFrame {G : Ghosts InHand} (octets : List ℕ) (u : Turn) (s : Stop InHand G) : Type 0 where
    pub lives : IsLived u.lived s
    pub passing : s.stand ≡ Stand.Open → u.lived.life.era.passing ≡ passing_seen s.side.passing
    pub under : u.share.under ≡ s.under
    pub at : u.share.at ≡ s.at
    pub way : StandUnder lens s.side.station s.at s.under s.side.carried s.stand u.lived.life (seen lens octets)

  -- THE SLAVE WHILE A FRAME IS UNDER WAY: besides, its share of the frame, and what the frame has of it
  pub record IsUnder {G : Ghosts InHand} (octets : List ℕ) (u : Turn) (s : Stop InHand G) : Type 0 where
    pub lead : IsLead (lead_of u) s
    pub under : u.share.under ≡ s.under
    pub at : u.share.at ≡ s.at
    pub way : StandUnder lens s.side.station s.at s.under s.side.carried s.stand u.lived.life (seen lens octets)

  -- A FRAME IS UNDER WAY with these slaves, whatever is passed on to them
  pub record IsUnderWay (m : MasterNode) (octets : List ℕ) (us : List Turn) : Type 0 where
    pub each : AllBoth (λ u s. IsOnFrame octets u s) us m.tour.stops.items
    pub sent : 1 ≤ length (seen lens octets)
    pub few : length m.tour.visit.items ≤ 16

  module _ (retry : ℕ) where
    -- THE MASTER BEFORE A FRAME: it leads these slaves, behind so many lost frames in a row; no mail waits to be passed on
    pub record MasterShows (m : MasterNode) (missed : ℕ) (as' : List Leads) : Type 0 where
      pub each : AllBoth (λ a s. IsLead a s) as' m.tour.stops.items
      pub distinct : AreDistinct (map lived_of as')
      pub quiet : All WaitsNone m.posts.items
      pub goes : GoesOn m.tour.again m.tour.visit.items m.tour.opened as'
      pub missed_is : m.tour.missed ≡ missed
      pub retry_is : m.tour.retry ≡ retry
      pub again : m.tour.again ≡ true → FitAgain m.tour.visit.items m.tour.stops.items

    -- THE MASTER WHILE THIS FRAME IS UNDER WAY
    pub record MasterUnder (m : MasterNode) (octets : List ℕ) (missed : ℕ) (us : List Turn) : Type 0 where
      pub each : AllBoth (λ u s. IsUnder octets u s) us m.tour.stops.items
      pub distinct : AreDistinct (map turned_of us)
      pub quiet : All WaitsNone m.posts.items
      pub goes : GoesUnder m.tour.visit.items m.tour.opened us
      pub missed_is : m.tour.missed ≡ missed
      pub retry_is : m.tour.retry ≡ retry
      pub sent : 1 ≤ length (seen lens octets)
      pub fits : FitUnder m.tour.visit.items m.tour.stops.items

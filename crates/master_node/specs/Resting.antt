-- WHAT A MASTER WANTS NOTHING MORE OF, by the lives of its slaves and by what it has of them.
use Rattle.std.specs.Prelude.{◌≡◌, ◌⊎◌, ℕ, suc, true, None, List, [], ◌∷◌, slice_get, ⊤}
use Rattle.life_runs.specs.of_frame_view.View.{Lens}
use Rattle.life_runs.specs.Led.{Leads, speech_at}
use Rattle.life_runs.specs.of_mailbox_master.Any.{in_half_of}
use Rattle.life_runs.specs.of_link_model.Master.{InState}
use Rattle.life_runs.specs.of_master_duty.Reply.{Reply}
use Rattle.life_runs.specs.of_exchange_model.Exchange.{Speech}
use Rattle.life_runs.specs.of_segment_model.Seats
use Rattle.life_runs.specs.of_state_model.Accounts.{Account, is_free, is_acknowledged}
use Rattle.life_runs.specs.of_master_hand.Shown.{Shows, knows}
use Rattle.life_runs.specs.of_master_hand.Spoken.{Asked, acknowledged}
use Rattle.life_runs.specs.of_master_hand.declared.hand.InHand.{InHand}
use Rattle.life_runs.specs.of_master_side.Carried.{in_hand}
use Rattle.life_runs.specs.of_master_side.Recall.{Recall}
use Rattle.life_runs.specs.of_master_side.Shown.{SideShows}
use Rattle.life_runs.specs.of_master_side.declared.hand.Hand.{Ghosts}
use Rattle.life_runs.specs.of_master_side.declared.side.Side.{Side}
use Rattle.life_runs.specs.of_link_mails.Body.{Body}
use Rattle.life_runs.specs.of_master_tour.declared.stop.Stand as Stands
use Rattle.life_runs.specs.of_master_tour.declared.stop.Stop.{Stop}
use Rattle.life_runs.specs.of_life_model.Lives.{Stand}
use Rattle.master_node.specs.Forwards.{forwarded}
use Rattle.master_node.specs.declared.lan.Lan.{Lan}

-- a service may begin: the newest is over, with the write of its last acknowledgement
pub record MayBegin (lens : ℕ → Lens) (a : Leads) : Type 0 where
  pub stands : a.lived.life.stand ≡ Stand.Open
  pub free : is_free (speech_at lens a.lived.spot) a.lived.life.era.side a.lived.life.era.side.now ≡ true
  pub done : is_acknowledged (speech_at lens a.lived.spot) acknowledged a.lived.life.era.side a.lived.life.era.side.now ≡ true
  pub hand : a.lived.life.era.account.hand ≡ None

-- THE MASTER WANTS NOTHING of a slave, by its life: it was given up for good; or it is open, no service is in hand and none is left of its script, both
-- halves of its link are idle, and no packet waits at its port
pub record Rests (lens : ℕ → Lens) (l : Lan) (place : ℕ) (m : Recall) (a : Leads) : Type 0 where
  pub known : m.knows ≡ true
  pub free : MayBegin lens a
  pub held : a.lived.life.era.side.halves.out.holding ≡ None
  pub clear : a.lived.life.era.side.halves.inn.state ≡ InState.Clear
  pub script : slice_get a.script a.number ≡ None
  pub packet : forwarded l.switch l.ports.items place ≡ []

-- either
abbrev pub IsResting : (ℕ → Lens) → Lan → ℕ → Recall → Leads → Type 0
IsResting lens l place m a = (a.lived.life.stand ≡ Stand.Gone) ⊎ Rests lens l place m a

-- of all slaves, from this place on
abbrev pub AllRest : (ℕ → Lens) → Lan → ℕ → List Recall → List Leads → Type 0
AllRest lens l place (m ∷ ms) (a ∷ as') = IsResting lens l place m a × AllRest lens l (suc place) ms as'
AllRest lens l place [] [] = ⊤
AllRest lens l place _ _ = ⊥

-- A SIDE THAT RESTS: a service could come into hand, no mail is held and nothing is asked again, and the script is at its end
pub record SideRests {G : Ghosts InHand} (s : Side InHand G) : Type 0 where
  pub speech : Speech Body Asked Reply
  pub side : Seats.Side Body Asked Reply
  pub account : Account Asked Reply
  pub shows : SideShows (Shows s.hand.course s.hand.which s.hand.clients speech) s.out s.inn s.fresh s.duty side account
  pub known : knows s.hand.course ≡ true
  pub hand : in_hand s.duty ≡ None
  pub unpassed : s.passing ≡ None
  pub free : is_free speech side side.now ≡ true
  pub done : is_acknowledged speech acknowledged side side.now ≡ true
  pub out : s.out.state ≡ None
  pub inn : (in_half_of s.inn).state ≡ InState.Clear
  pub script : slice_get s.hand.laying.script s.hand.laying.number ≡ None

-- a slave that was given up for good, or is open and rests, with no packet at its port
abbrev pub StandRests : {G : Ghosts InHand} → Lan → ℕ → Stands.Stand → Side InHand G → Type 0
StandRests l place (Stands.Stand.Opening up) s = ⊥
StandRests l place Stands.Stand.Open s = SideRests s × (forwarded l.switch l.ports.items place ≡ [])
StandRests l place Stands.Stand.Gone s = ⊤

-- of a stop
abbrev pub StopRests : {G : Ghosts InHand} → Lan → ℕ → Stop InHand G → Type 0
StopRests l place s = StandRests l place s.stand s.side

-- WHAT A MASTER STILL WANTS of the slaves that it leads, and how often each was given up.
use Rattle.std.specs.Prelude.{◌≡◌, ◌⊎◌, ◌≤◌, ℕ, suc, ◌-◌, Bool, true, false, nat_lt, nat_le, Option, None, IfSome, List, [], ◌∷◌, length, slice_get, ⊤}
use Rattle.std.specs.List.{list_any}
use Rattle.life_runs.specs.of_exchange_model.Exchange.{Speech}
use Rattle.life_runs.specs.of_frame_view.View.{Lens}
use Rattle.life_runs.specs.of_life_model.Lives
use Rattle.life_runs.specs.Led.{Leads, speech_at}
use Rattle.life_runs.specs.of_link_mails.Body.{Body}
use Rattle.life_runs.specs.of_link_model.Master.{InState}
use Rattle.life_runs.specs.of_mailbox_master.Any.{in_half_of}
use Rattle.life_runs.specs.of_master_duty.Reply.{Reply}
use Rattle.life_runs.specs.of_master_hand.Shown.{Shows}
use Rattle.life_runs.specs.of_master_hand.Spoken.{Asked}
use Rattle.life_runs.specs.of_master_hand.declared.hand.InHand.{InHand}
use Rattle.life_runs.specs.of_master_side.Carried.{in_hand}
use Rattle.life_runs.specs.of_master_side.Shown.{SideShows}
use Rattle.life_runs.specs.of_master_side.declared.hand.Hand.{Ghosts}
use Rattle.life_runs.specs.of_master_side.declared.passing.Passing.{Passing}
use Rattle.life_runs.specs.of_master_side.declared.side.Side as Sides
use Rattle.life_runs.specs.of_master_tour.Goes.{holds_at, is_live}
use Rattle.life_runs.specs.of_master_tour.declared.stop.Stand.{Stand}
use Rattle.life_runs.specs.of_segment_model.Laws.{WantsNothing}
use Rattle.life_runs.specs.of_segment_model.Seats
use Rattle.life_runs.specs.of_state_model.Accounts.{Account, is_free}
use Rattle.life_runs.specs.Served.{Serves}
use Rattle.master_node.specs.Forwards.{forwarded}
use Rattle.master_node.specs.Lives.{waiting_at}
use Rattle.master_node.specs.Shows.{WaitsNone}
use Rattle.master_node.specs.declared.node.MasterNode.{MasterNode}
use Rattle.master_node.specs.declared.post.Post.{Post}

-- the frames at which a slave was given up
abbrev pub gave_of : Leads → List ℕ
gave_of a = a.lived.life.gave

-- HOW OFTEN A SLAVE WAS GIVEN UP: no more often than it is opened anew, unless it was given up for good, and then once more
abbrev pub IsCounted : ℕ → Lives.Stand → ℕ → Type 0
IsCounted recover (Lives.Stand.Opens o) times = times ≤ recover
IsCounted recover Lives.Stand.Open times = times ≤ recover
IsCounted recover Lives.Stand.Gone times = times ≡ suc recover

-- a slave that is opened anew so often, and still so often, was given up more often than so
abbrev pub gave_more : Stand → ℕ → ℕ → ℕ → Bool
gave_more (Stand.Opening up) spare recover times = nat_lt times (recover - spare)
gave_more Stand.Open spare recover times = nat_lt times (recover - spare)
gave_more Stand.Gone spare recover times = nat_le times recover

-- each of these was given up so often
abbrev pub AllCounted : ℕ → List Leads → Type 0
AllCounted recover [] = ⊤
AllCounted recover (a ∷ as') = IsCounted recover a.lived.life.stand (length (gave_of a)) × AllCounted recover as'

-- no more of a script came into hand than it has
abbrev pub AllPlaced : List Leads → Type 0
AllPlaced [] = ⊤
AllPlaced (a ∷ as') = (a.number ≤ length a.script) × AllPlaced as'

-- THE MASTER WANTS NOTHING of a slave: it is open, no service is in hand and none is left of its script, and both halves of its link are idle
pub record IsIdle (lens : ℕ → Lens) (a : Leads) : Type 0 where
  pub stand : a.lived.life.stand ≡ Lives.Stand.Open
  pub side : WantsNothing (speech_at lens a.lived.spot) a.lived.life.era.side
  pub hand : a.lived.life.era.account.hand ≡ None
  pub script : a.number ≡ length a.script

-- a slave that was given up for good, or of which it wants nothing
abbrev pub IsLeft : (ℕ → Lens) → Leads → Type 0
IsLeft lens a = (a.lived.life.stand ≡ Lives.Stand.Gone) ⊎ IsIdle lens a

-- of all slaves
abbrev pub AllLeft : (ℕ → Lens) → List Leads → Type 0
AllLeft lens [] = ⊤
AllLeft lens (a ∷ as') = IsLeft lens a × AllLeft lens as'

-- A SIDE THAT IS QUIET: the service in hand is over, no mail is held and nothing is asked again, and the script is at its end
pub record IsQuiet {G : Ghosts InHand} (s : Sides.Side InHand G) : Type 0 where
  pub free : (x : Speech Body Asked Reply) (d : Seats.Side Body Asked Reply) (b : Account Asked Reply) → SideShows (Shows s.hand.course s.hand.which s.hand.clients x) s.out s.inn s.fresh s.duty d b →
      (is_free x d d.now ≡ true) × (in_hand s.duty ≡ None)
  pub out : s.out.state ≡ None
  pub inn : (in_half_of s.inn).state ≡ InState.Clear
  pub script : slice_get s.hand.laying.script s.hand.laying.number ≡ None

-- a slave that was given up for good, or is open and quiet
abbrev pub IsQuietBy : {G : Ghosts InHand} → Stand → Sides.Side InHand G → Type 0
IsQuietBy (Stand.Opening up) s = ⊥
IsQuietBy Stand.Open s = IsQuiet s
IsQuietBy Stand.Gone s = ⊤

-- nothing waits for the slave at a place: no packet at its port, and no mail that is passed on
abbrev pub NoneWaiting : MasterNode → ℕ → Type 0
NoneWaiting m k = (forwarded m.lan.switch m.lan.ports.items k ≡ []) × (waiting_at m.posts.items k ≡ 0)

-- NOTHING IS STILL TO COME: nothing waits for a slave that is live, and while one is all packets of the host have come in
pub record NoneToCome (m : MasterNode) : Type 0 where
  pub slaves : (k : ℕ) → holds_at (λ s. is_live s.stand) m.tour.stops.items k ≡ true → NoneWaiting m k
  pub host : list_any (λ s. is_live s.stand) m.tour.stops.items ≡ true → nat_lt m.lan.entered (length m.lan.host) ≡ false

-- THE MASTER WANTS NOTHING of a slave of a serving: nothing as in a run, and of the mails that are passed on to it none waits, and none is in hand
pub record IsMailless (lens : ℕ → Lens) (w : Serves) : Type 0 where
  pub idle : IsIdle lens w.lead
  pub waits : w.waits ≡ []
  pub over : w.lead.lived.life.era.passing ≡ None

-- or it was given up for good
abbrev pub IsServedOut : (ℕ → Lens) → Serves → Type 0
IsServedOut lens w = (w.lead.lived.life.stand ≡ Lives.Stand.Gone) ⊎ IsMailless lens w

-- by what the master has of it: it was given up for good, or it is open, with none in hand and none that waits
abbrev pub IsMaillessBy : Stand → Option Passing → Post → Type 0
IsMaillessBy (Stand.Opening up) passing p = ⊥
IsMaillessBy Stand.Open passing p = (passing ≡ None) × WaitsNone p
IsMaillessBy Stand.Gone passing p = ⊤

-- of the slave at a place
abbrev pub MaillessAt : MasterNode → ℕ → Type 0
MaillessAt m place = IfSome (slice_get m.posts.items place) (λ p. IfSome (slice_get m.tour.stops.items place) (λ s. IsMaillessBy s.stand s.side.passing p))

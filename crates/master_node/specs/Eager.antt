-- A MASTER MAKES NO VISIT IN VAIN where more could go on: what it remembers of a slave's visits, what the datagram of a visit asks, and that behind a visit
-- no mail is left that could be held.
use Rattle.std.specs.Prelude.{◌≡◌, ℕ, Bool, true, is_some, Option, Some, None, List, [], ◌∷◌, map, ⊤}
use Rattle.life_runs.specs.of_life_model.Visits.{Visit, mails_visit, drain_visit}
use Rattle.life_runs.specs.of_frame_view.View.{Lens}
use Rattle.life_runs.specs.Led.{Turn, speech_at}
use Rattle.life_runs.specs.of_state_model.States.{Phase}
use Rattle.life_runs.specs.of_link_model.Frames.{Ask}
use Rattle.life_runs.specs.of_link_model.Link.{Halves}
use Rattle.life_runs.specs.of_link_model.Mails.{LinkMail}
use Rattle.life_runs.specs.of_link_model.Master.{InState}
use Rattle.life_runs.specs.of_master_duty.Reply.{Reply}
use Rattle.life_runs.specs.of_exchange_model.Rows.{Row, left}
use Rattle.life_runs.specs.of_segment_model.Slaves.{Datagram, Access}
use Rattle.life_runs.specs.of_state_model.Accounts.{Duty, Stage, phase_access}
use Rattle.life_runs.specs.of_master_hand.Spoken.{Asked}
use Rattle.life_runs.specs.of_master_hand.Shown.{Shows, knows}
use Rattle.life_runs.specs.of_master_hand.declared.hand.InHand.{InHand}
pub use Rattle.life_runs.specs.of_master_side.Recall.{Recall, recall_by}
use Rattle.life_runs.specs.of_link_mails.Body.{Body}
use Rattle.life_runs.specs.of_master_side.declared.hand.Hand.{Ghosts}
use Rattle.life_runs.specs.of_master_side.Shown.{SideShows}
use Rattle.life_runs.specs.of_master_tour.Recalls.{TakesUp as Holds}
use Rattle.life_runs.specs.of_master_tour.Walks.{EachPair}
use Rattle.life_runs.specs.of_life_model.Lives.{Stand}
use Rattle.life_runs.specs.of_life_model.Own.{own}
use Rattle.life_runs.specs.of_master_tour.declared.stop.Stop.{Stop}
use Rattle.master_node.specs.declared.node.MasterNode.{MasterNode}

-- WHAT A MASTER REMEMBERS of a slave's visits
abbrev pub recall_of : {G : Ghosts InHand} → Stop InHand G → Recall
recall_of s = recall_by s.side.paused s.side.duty s.side.passing s.side.turn (knows s.side.hand.course)

-- of all slaves
abbrev pub recalls : MasterNode → List Recall
recalls m = map (λ s. recall_of s) m.tour.stops.items

-- what a visit is for by the stage of a state service in hand: one that drains wants mailbox 0 seen empty, and one past its drain has an access of its own
abbrev pub stage_visit : Stage → Recall → Option Visit
stage_visit Stage.Drains m = Some (drain_visit m.turn)
stage_visit (Stage.Goes phase) m = None

-- THE NEXT VISIT of an open slave, by the state service in hand, what is remembered, and whether a mail is held
abbrev pub next_visit : Option Duty → Recall → Bool → Option Visit
next_visit None m holding = Some (mails_visit m.paused holding)
next_visit (Some duty) m holding = stage_visit duty.stage m

-- by a slave's life
abbrev pub turn_visit : Turn → Recall → Option Visit
turn_visit u m = next_visit u.lived.life.era.account.hand m (is_some u.lived.life.era.side.halves.out.holding)

-- WHAT THE DATAGRAM OF A VISIT ASKS: it writes the mail held, reads mailbox 1, or reads the status of mailbox 0
abbrev pub AsksVisit : Halves Body → Visit → Datagram Body → Type 0
AsksVisit h Visit.Write d = (m : LinkMail Body) × (h.out.holding ≡ Some m) × (d.gram.ask ≡ Ask.WriteMail m) × (d.access ≡ Access.Elsewhere)
AsksVisit h Visit.Read d = (d.gram.ask ≡ Ask.ReadMail) × (d.access ≡ Access.Elsewhere)
AsksVisit h Visit.Full d = (d.gram.ask ≡ Ask.Other) × (d.access ≡ Access.ReadFull)

-- past its drain a state service asks by its own access
abbrev pub AsksAccess : Option Duty → Datagram Body → Type 0
AsksAccess None d = ⊤
AsksAccess (Some duty) d = (phase : Phase) → duty.stage ≡ Stage.Goes phase → (d.gram.ask ≡ Ask.Other) × (d.access ≡ phase_access duty.target phase)

-- by that, where there is one
abbrev pub AsksSo : Option Duty → Halves Body → Option Visit → Datagram Body → Type 0
AsksSo hand h None d = AsksAccess hand d
AsksSo hand h (Some visit) d = AsksVisit h visit d

-- each of these does
abbrev pub EachSo : Option Duty → Halves Body → Option Visit → List (Datagram Body) → Type 0
EachSo hand h visit [] = ⊤
EachSo hand h visit (d ∷ ds) = AsksSo hand h visit d × EachSo hand h visit ds

-- an open slave with nothing in doubt
pub record IsClear (u : Turn) : Type 0 where
  pub stands : u.lived.life.stand ≡ Stand.Open
  pub clear : u.lived.life.era.side.halves.inn.state ≡ InState.Clear

-- THE FRAME ASKS SUCH A SLAVE by its visit
abbrev pub VisitAsks : List (Datagram Body) → Recall → Turn → Type 0
VisitAsks sent m u = IsClear u → EachSo u.lived.life.era.account.hand u.lived.life.era.side.halves (turn_visit u m) (own u.lived.spot.station sent)

-- nothing is left to tell of the newest service
abbrev pub NoneLeft : (ℕ → Lens) → Turn → Type 0
NoneLeft lens u = (r : Row Body Asked Reply) → u.lived.life.era.side.now ≡ Some r → left (speech_at lens u.lived.spot) r ≡ []

-- A MAIL IS TAKEN UP AT A VISIT: behind one of an open slave, with none held, none is left
abbrev pub TakesUp : (ℕ → Lens) → Recall → Turn → Type 0
TakesUp lens m u = m.knows ≡ true → u.lived.life.stand ≡ Stand.Open → u.share.under ≡ true → u.lived.life.era.side.halves.out.holding ≡ None → NoneLeft lens u

-- AT ITS VISIT each slave that a frame carries has taken up its next mail: behind it none is left that an open slave's hand could take up, where none is held
abbrev pub StopTakesUp : {G : Ghosts InHand} → Stop InHand G → Type 0
StopTakesUp s = s.under ≡ true → Holds s.stand s.side.out.state (knows s.side.hand.course) (λ x d a. SideShows (Shows s.side.hand.course s.side.hand.which s.side.hand.clients x) s.side.out s.side.inn s.side.fresh s.side.duty d a)

-- while a frame is made what is remembered stays
abbrev pub StopGoes : {G : Ghosts InHand} → Stop InHand G → Stop InHand G → Type 0
StopGoes s t = (recall_of t ≡ recall_of s) × (StopTakesUp s → StopTakesUp t)

-- of each slave
abbrev pub EagerOn : MasterNode → MasterNode → Type 0
EagerOn m n = EachPair (λ s t. StopGoes s t) m.tour.stops.items n.tour.stops.items

-- once it is made
abbrev pub EagerFrom : MasterNode → MasterNode → Type 0
EagerFrom m n = EachPair (λ s t. (recall_of t ≡ recall_of s) × StopTakesUp t) m.tour.stops.items n.tour.stops.items

-- all slaves
abbrev pub AllVisit : List (Datagram Body) → List Recall → List Turn → Type 0
AllVisit sent (m ∷ ms) (u ∷ us) = VisitAsks sent m u × AllVisit sent ms us
AllVisit sent [] [] = ⊤
AllVisit sent _ _ = ⊥

-- so do all slaves
abbrev pub AllTakeUp : (ℕ → Lens) → List Recall → List Turn → Type 0
AllTakeUp lens (m ∷ ms) (u ∷ us) = TakesUp lens m u × AllTakeUp lens ms us
AllTakeUp lens [] [] = ⊤
AllTakeUp lens _ _ = ⊥

-- What a side shows of the model's side and account of its slave.
use Rattle.std.specs.Prelude.{◌≡◌, ℕ, Bool, true, false, Option, Some, None, option_map, List, [], ◌∷◌, ◌++◌, ⊤}
use Rattle.master_duty.specs.of_mailbox_mail.declared.mail.Mail.{Mail}
use Rattle.mailbox_master.specs.of_link_mails.Body.{Body}
use Rattle.mailbox_master.specs.of_link_model.Link.{new_link}
use Rattle.frame_view.specs.of_exchange_model.Exchange.{Speech}
use Rattle.frame_view.specs.of_exchange_model.Rows.{Row}
use Rattle.master_duty.specs.of_segment_model.Ends.{Outcome}
use Rattle.master_duty.specs.of_segment_model.Seats
use Rattle.master_duty.specs.of_segment_model.Seats.{Side, next_mail, side_holds, side_next}
use Rattle.master_duty.specs.of_state_model.Stated.{Service}
use Rattle.master_duty.specs.of_state_model.Accounts
use Rattle.master_duty.specs.of_state_model.Accounts.{Account, Started, mails_choice, mails_begin, account_begins, account_next}
use Rattle.mailbox_master.specs.declared.halves.InwardHalf.{InwardHalf}
use Rattle.mailbox_master.specs.Links.{OutLink}
use Rattle.mailbox_master.specs.Any.{in_half_of}
use Rattle.mailbox_master.specs.Seat.{seat_half}
use Rattle.master_duty.specs.declared.duty.Duty.{Duty}
use Rattle.master_duty.specs.declared.stage.Met.{Met}
use Rattle.master_duty.specs.Stages.{stage_of}
use Rattle.master_duty.specs.Reply.{Reply}
use Rattle.master_side.specs.Carried.{in_hand}
use Rattle.master_side.specs.declared.carried.Wish.{Wish}

-- a state service in hand: its target and its stage; the frame at which it began is stored nowhere
abbrev pub DutyShows : Option Duty → Option Accounts.Duty → Type 0
DutyShows None hand = hand ≡ None
DutyShows (Some duty) hand = (frame : ℕ) × (hand ≡ Some (record { target = duty.target; frame = frame; stage = stage_of duty.stage }))

-- the change that got over last has this answer
pub record HasOver {R : Type 0} (over : List (Accounts.Change R)) (answer : Outcome R) : Type 0 where
  pub front : List (Accounts.Change R)
  pub change : Accounts.Change R
  pub is : over ≡ front ++ change ∷ []
  pub answered : change.answer ≡ answer

-- the newest state service, where it is over: none came into hand, one is in hand, or it has this answer
abbrev pub OverShows : {R : Type 0} → Option Met → List (Accounts.Change R) → Type 0
OverShows None over = over ≡ []
OverShows (Some (Met.On duty)) over = ⊤
OverShows (Some Met.Reached) over = HasOver over Outcome.Reached
OverShows (Some (Met.Refused code)) over = HasOver over (Outcome.Refused code)

-- THE SIDE: halves and whether the mail held was not yet sent, as they are; the newest row as the hand shows it; the newest state service, in hand
-- or over. Of the rows that are over and of the services that began nothing is stored, and nothing is said
pub record SideShows {Q : Type 0} (hand : Option (Row Body Q Reply) → Type 0) (out : OutLink (Option Mail)) (inn : InwardHalf) (fresh : Bool) (duty : Option Met)
    (d : Side Body Q Reply) (a : Account Q Reply) : Type 0 where
  pub halves : d.halves ≡ record { out = seat_half out; inn = in_half_of inn }
  pub unsent : d.fresh ≡ fresh
  pub row : hand d.now
  pub state : DutyShows (in_hand duty) a.hand
  pub over : OverShows duty a.over

-- the side of a slave at the end of its bring-up
abbrev pub new_side : {Q : Type 0} → Side Body Q Reply
new_side = record { halves = (new_link {B = Body} {S = ⊤} tt).halves; fresh = false; past = []; now = None }

-- the next mail is taken up, or none is
pub record Holds {Q : Type 0} (x : Speech Body Q Reply) (d : Side Body Q Reply) (shows : Side Body Q Reply → Type 0) : Type 0 where
  pub hold : Bool
  pub shown : shows (side_holds d (next_mail x d.now d.halves.out.holding hold))

-- what comes into hand by a wish: the service by mails that is laid ready, or a change of state
abbrev pub wished : {Q : Type 0} → Wish → Option Q → Option (Service Q)
wished Wish.Mails ready = option_map (λ q. Service.Mails q) ready
wished (Wish.State target) ready = Some (Service.State target.state)

-- WHAT CAME INTO HAND AT A VISIT, where something did: what was wished
abbrev pub wish_begun : {Q : Type 0} → Bool → Option Wish → Option Q → Option (Service Q)
wish_begun true (Some wish) ready = wished wish ready
wish_begun _ _ ready = None

-- it is the service that was laid ready
abbrev pub takes_ready : Bool → Option Wish → Bool
takes_ready true (Some Wish.Mails) = true
takes_ready _ _ = false

-- what comes into hand before a frame, as an account counts it
abbrev pub started_by : {Q : Type 0} → ℕ → Option (Service Q) → List (Started Q)
started_by made None = []
started_by made (Some service) = record { service = service; frame = made } ∷ []

-- this comes into hand, where something does, and is counted
pub record Begins {Q : Type 0} (x : Speech Body Q Reply) (acknowledged : Q → Bool) (made : ℕ) (d : Side Body Q Reply) (a : Account Q Reply) (begin : Option (Service Q)) (shows : Side Body Q Reply → Account Q Reply → Type 0) : Type 0 where
  pub shown : shows (Seats.side_begins x made d d.now (mails_begin a.hand begin)) (account_begins x acknowledged made d a a.hand begin)
  pub took : (account_begins x acknowledged made d a a.hand begin).started ≡ a.started ++ started_by made begin

-- A SLAVE'S NEXT STEP: this comes into hand, and the next mail is taken up, or none is
pub record Picked {Q : Type 0} (x : Speech Body Q Reply) (acknowledged : Q → Bool) (made : ℕ) (d : Side Body Q Reply) (a : Account Q Reply) (begin : Option (Service Q)) (shows : Side Body Q Reply → Account Q Reply → Type 0) : Type 0 where
  pub hold : Bool
  pub shown : shows (side_next x made d (mails_choice a (record { begin = begin; hold = hold }))) (account_next x acknowledged made d a (record { begin = begin; hold = hold }))
  pub took : (account_next x acknowledged made d a (record { begin = begin; hold = hold })).started ≡ a.started ++ started_by made begin

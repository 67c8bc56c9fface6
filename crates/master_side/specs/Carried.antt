-- The datagram of one slave in a frame: what it asks, by what its side remembers, and what came back of it.
use Rattle.std.specs.Prelude.{◌≡◌, ℕ, ◌==◌, ◌&&◌, not, is_some, Bool, true, false, if◌then◌else◌, List, [], ◌∷◌, length, Option, Some, None}
use Rattle.master_duty.specs.of_mailbox_mail.declared.mail.Mail.{Mail}
use Rattle.mailbox_master.specs.of_link_model.Mails.{LinkMail}
use Rattle.mailbox_master.specs.of_link_model.Master.{InState}
use Rattle.mailbox_master.specs.of_link_model.Link.{Halves}
use Rattle.mailbox_master.specs.of_link_model.Frames.{Ask, in_ask}
use Rattle.mailbox_master.specs.of_link_mails.Body.{Body}
use Rattle.master_duty.specs.of_segment_model.Slaves.{Datagram, Address, Access}
use Rattle.frame_view.specs.View.{link_counter, register_counter, link_mail_in, acknowledge_in, found_of}
use Rattle.master_duty.specs.declared.duty.Duty.{Duty}
use Rattle.master_duty.specs.declared.stage.Errand.{Errand}
use Rattle.master_duty.specs.declared.stage.Met.{Met}
use Rattle.master_duty.specs.Stages.{errand_of}
use Rattle.master_side.specs.declared.carried.Carried.{Carried}
use Rattle.master_side.specs.declared.passing.Passing.{Passing}

-- a list of one
abbrev pub one : {T : Type 0} → T → List T
one g = g ∷ []

-- what a datagram asks of the link and of the registers, by what its side remembers; `due` is the access that the state service in hand sends
abbrev pub Asks : Carried → Halves Body → Option Access → Ask Body → Access → Type 0
Asks Carried.Nothing h due ask access = ⊥
Asks Carried.Write h due ask access = (m : LinkMail Body) × (ask ≡ Ask.WriteMail m) × (h.out.holding ≡ Some m) × (access ≡ Access.Elsewhere)
Asks Carried.Inward h due ask access = (ask ≡ in_ask h.inn.state h.inn.bit) × (access ≡ Access.Elsewhere)
Asks Carried.Full h due ask access = (ask ≡ Ask.Other) × (access ≡ Access.ReadFull)
Asks Carried.Control h due ask access = (target : ℕ) × (acknowledge : Bool) × (ask ≡ Ask.Other) × (due ≡ Some access) × (access ≡ Access.SetControl target acknowledge)
Asks Carried.Status h due ask access = (ask ≡ Ask.Other) × (due ≡ Some access) × (access ≡ Access.ReadState)

-- THE DATAGRAM OF A SLAVE, as it was sent and as it comes back: by its station, and what it asks
pub record Meant (station : ℕ) (carried : Carried) (h : Halves Body) (due : Option Access) (d : Datagram Body) : Type 0 where
  pub station_is : d.gram.station ≡ station
  pub address : d.address ≡ Address.Station station
  pub asks : Asks carried h due d.gram.ask d.access

-- what came back of it, with this counter and these octets; a status has six
pub record IsBack (counter : ℕ) (octets : List ℕ) (d : Datagram Body) : Type 0 where
  pub counted : d.gram.counter ≡ link_counter d.gram.ask counter
  pub mail : d.gram.mail ≡ link_mail_in d.gram.ask counter octets
  pub acknowledge : d.gram.acknowledge ≡ acknowledge_in d.gram.ask octets
  pub registers : d.counter ≡ register_counter d.access counter
  pub found : d.found ≡ found_of d.access counter octets
  pub whole : d.access ≡ Access.ReadState → length octets ≡ 6

-- the inward half may read mailbox 1 for the first time
abbrev pub is_clear : InState → Bool
is_clear InState.Clear = true
is_clear InState.Doubt = false
is_clear InState.Asked = false
is_clear InState.Refetch = false

-- THE ORDER OF THE DATAGRAMS OF A VISIT: the access of a state service; that of an inward half that isn't clear; the write of a mail held, unless
-- it pauses; the read of mailbox 1. A state service that drains, and a mail that is passed on and stands in mailbox 0, read the status of
-- mailbox 0 and mailbox 1 in turn, the status only where the inward half is clear
abbrev pub link_choice : InState → Bool → Option Mail → Carried
link_choice s paused held = if is_clear s && (not paused && is_some held) then Carried.Write else Carried.Inward

-- in turn
abbrev pub drain_choice : InState → Bool → Carried
drain_choice s turn = if is_clear s && not turn then Carried.Full else Carried.Inward

-- by what a state service sends
abbrev pub errand_carried : Errand → Carried
errand_carried (Errand.Write word) = Carried.Control
errand_carried Errand.ReadStatus = Carried.Status

-- which is nothing while it drains
abbrev pub errand_choice : Option Errand → InState → Bool → Carried
errand_choice None s turn = drain_choice s turn
errand_choice (Some errand) s turn = errand_carried errand

-- without a state service
abbrev pub mails_choice : Option Passing → InState → Bool → Bool → Option Mail → Carried
mails_choice (Some Passing.Boxed) s turn paused held = drain_choice s turn
mails_choice _ s turn paused held = link_choice s paused held

-- what is left of a state service
abbrev pub duty_left : Met → Option Duty
duty_left (Met.On duty) = Some duty
duty_left Met.Reached = None
duty_left (Met.Refused code) = None

-- the newest state service, while it is in hand
abbrev pub in_hand : Option Met → Option Duty
in_hand None = None
in_hand (Some met) = duty_left met

-- with one in hand or without
abbrev pub duty_choice : Option Duty → Option Passing → InState → Bool → Bool → Option Mail → Carried
duty_choice None passing s turn paused held = mails_choice passing s turn paused held
duty_choice (Some duty) passing s turn paused held = errand_choice (errand_of duty.stage) s turn

-- by the newest state service, which is in hand or over
abbrev pub choice_of : Option Met → Option Passing → InState → Bool → Bool → Option Mail → Carried
choice_of duty passing s turn paused held = duty_choice (in_hand duty) passing s turn paused held

-- it is an access of a state service, or the status that ends its drain
abbrev pub is_errand : Carried → Bool
is_errand Carried.Nothing = false
is_errand Carried.Write = false
is_errand Carried.Inward = false
is_errand Carried.Full = true
is_errand Carried.Control = true
is_errand Carried.Status = true

-- a state service is past its drain
abbrev pub is_past : Option Duty → Bool
is_past None = false
is_past (Some duty) = is_some (errand_of duty.stage)

-- and then an access for it is under way
abbrev pub is_behind_errand : Option Duty → Carried → Bool
is_behind_errand duty carried = if is_past duty then is_errand carried else true

-- THE INWARD HALF COMES FIRST: any other datagram is sent only where that half is clear
abbrev pub is_by_half : Carried → InState → Bool
is_by_half Carried.Nothing s = true
is_by_half Carried.Write s = is_clear s
is_by_half Carried.Inward s = true
is_by_half Carried.Full s = is_clear s
is_by_half Carried.Control s = is_clear s
is_by_half Carried.Status s = is_clear s

-- the inward half reads mailbox 1
abbrev pub is_read : InState → Bool
is_read InState.Clear = true
is_read InState.Doubt = false
is_read InState.Asked = false
is_read InState.Refetch = true

-- a write that came back and was not done pauses, until a read comes back
abbrev pub paused_after : Carried → InState → ℕ → Bool → Bool
paused_after Carried.Write s counter paused = counter == 0
paused_after Carried.Inward s counter paused = if is_read s then false else paused
paused_after _ s counter paused = paused

-- behind a done access of its own the state service lets mailbox 1 be read next, and behind that read the status of mailbox 0
abbrev pub turn_after : Carried → InState → ℕ → Bool → Bool
turn_after Carried.Inward s counter turn = if is_read s then false else turn
turn_after Carried.Full s counter turn = if counter == 0 then turn else true
turn_after Carried.Control s counter turn = if counter == 0 then turn else true
turn_after Carried.Status s counter turn = if counter == 0 then turn else true
turn_after _ s counter turn = turn

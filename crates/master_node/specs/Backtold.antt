-- WHAT A FRAME THAT CAME BACK TELLS of a slave, by its life before the frame and behind it.
use Rattle.std.specs.Prelude.{◌&&◌, not, ℕ, zero, suc, Bool, true, false, is_some, Option, Some, None, List, [], ◌∷◌, ◌++◌, length}
use Rattle.life_runs.specs.Led.{speech_at}
use Rattle.life_runs.specs.of_frame_view.View.{Lens}
use Rattle.life_runs.specs.of_mailbox_mail.declared.outcome.ReplyKind.{ReplyKind}
use Rattle.life_runs.specs.of_master_duty.Reply.{Reply}
use Rattle.life_runs.specs.of_exchange_model.Exchange.{Speech}
use Rattle.life_runs.specs.of_exchange_model.Rows.{Row}
use Rattle.life_runs.specs.of_segment_model.Ends.{Outcome, Passing}
use Rattle.life_runs.specs.of_segment_model.Slaves.{Datagram}
use Rattle.life_runs.specs.of_state_model.Accounts.{Change, is_free}
use Rattle.life_runs.specs.of_master_hand.Brings.{emergencies_in}
use Rattle.life_runs.specs.of_master_hand.Spoken.{Asked}
use Rattle.life_runs.specs.of_master_side.Recall.{Recall}
use Rattle.life_runs.specs.of_link_mails.Body.{Body}
use Rattle.life_runs.specs.of_master_tour.Brings.{accepted_in}
use Rattle.life_runs.specs.of_master_tour.Stands.{turned}
use Rattle.life_runs.specs.of_master_tour.declared.stop.Turned.{Turned}
use Rattle.life_runs.specs.of_life_model.Lives
use Rattle.life_runs.specs.of_life_model.Lives.{Life}
use Rattle.life_runs.specs.Served.{Serves, ServedTurn}
use Rattle.life_runs.specs.Told.{Passed, replies_in}
use Rattle.life_runs.specs.of_master_hand.Hears.{kind_in}
use Rattle.master_node.specs.Begins.{is_other}
use Rattle.master_node.specs.Gateways.{replies_told}
pub use Rattle.master_node.specs.Inhand.{AnswerHas, HasInHand, HasPassed, IsFresh, MailsWork, NewestHas, OpenHas, OpeningHas, PacketHas, ServiceHas, WorkOf}
use Rattle.master_node.specs.Lifetold.{told_at}
use Rattle.master_node.specs.declared.event.Event.{Event}

-- ---- what is told of an open slave

-- the emergencies among the mails that were accepted, in order
abbrev pub emergencies_told : ℕ → List (List ℕ) → List Event
emergencies_told place [] = []
emergencies_told place (octets ∷ rest) = Event.Emergency place (record { items = octets }) ∷ emergencies_told place rest

-- a mail that was in hand, and isn't any more, has its answer and gets no further reply
abbrev pub ended_told : ℕ → ℕ → Bool → Bool → List Event
ended_told place key true false = Event.Answered place ReplyKind.Handed ∷ Event.GatewayDone key ∷ []
ended_told place key true true = []
ended_told place key false goes = []

-- OF THE MAIL IN HAND that is passed on: its replies among these mails, and its end
abbrev pub passed_told : ℕ → Option Passed → Option Passing → Option Passing → List Body → List Event
passed_told place None old new ms = []
passed_told place (Some p) old new ms = replies_told p.key (replies_in old ms) ++ ended_told place p.key (is_some old) (is_some new)

-- the kind of a row's answer, if it has one; that of a mail that is passed on has none
abbrev pub kind_by : Option (Reply × ℕ) → Option ReplyKind
kind_by None = None
kind_by (Some answer) = kind_in (Some answer.0)

-- of the newest service by mails
abbrev pub kind_of : Option (Row Body Asked Reply) → Option ReplyKind
kind_of None = None
kind_of (Some row) = kind_by row.answer

-- OF A SERVICE OF THE SCRIPT by mails: the answer that is there, and wasn't
abbrev pub answer_told : ℕ → Option ReplyKind → Option ReplyKind → List Event
answer_told place None (Some kind) = Event.Answered place kind ∷ []
answer_told place None None = []
answer_told place (Some before) behind = []

-- the newest service is a packet
abbrev pub has_packet : Option (Row Body Asked Reply) → Bool
has_packet None = false
has_packet (Some row) = not (is_other row.service)

-- it is over, and wasn't
abbrev pub over_told : ℕ → Bool → Bool → List Event
over_told place false true = Event.Answered place ReplyKind.Handed ∷ []
over_told place false false = []
over_told place true free = []

-- OF A PACKET: that its last fragment's write is done, where the hand knows its mails behind the frame; behind a mail that was not due it never is
abbrev pub packet_told : ℕ → Bool → Bool → Bool → Bool → List Event
packet_told place false knows was is = []
packet_told place true knows was is = over_told place was (knows && is)

-- how a change of state ended
abbrev pub change_kind : Outcome Reply → ReplyKind
change_kind (Outcome.Replied r) = ReplyKind.Done
change_kind Outcome.Handed = ReplyKind.Handed
change_kind Outcome.Reached = ReplyKind.Done
change_kind (Outcome.Refused code) = ReplyKind.StateRefused code

-- OF CHANGES OF STATE: the answers of those that are over, behind so many that were
abbrev pub changes_told : ℕ → ℕ → List (Change Reply) → List Event
changes_told place n [] = []
changes_told place zero (c ∷ cs) = Event.Answered place (change_kind c.answer) ∷ changes_told place zero cs
changes_told place (suc n) (c ∷ cs) = changes_told place n cs

-- ---- how the slave turned

-- a slave that is open, which answers the change of state that caused its opening
abbrev pub opened_told : ℕ → Bool → List Event
opened_told place true = Event.Opened place ∷ Event.Answered place ReplyKind.Done ∷ []
opened_told place false = Event.Opened place ∷ []

-- it was seen in Init, or is open
abbrev pub turned_told : ℕ → Bool → Option Turned → List Event
turned_told place own None = []
turned_told place own (Some Turned.GivenUp) = []
turned_told place own (Some Turned.Cleared) = Event.Cleared place own ∷ []
turned_told place own (Some Turned.Opened) = opened_told place own

module _ (x : Speech Body Asked Reply) where
  -- OF AN OPEN SLAVE, by its side and account before the frame and behind it, the mails accepted and the mail in hand; just one service is in hand
  abbrev pub open_told : Bool → ℕ → Option Passed → List Body → Life Body Asked Reply → Life Body Asked Reply → List Event
  open_told knows place hand ms l m =
      emergencies_told place (emergencies_in ms) ++ passed_told place hand l.era.passing m.era.passing ms ++ answer_told place (kind_of l.era.side.now) (kind_of m.era.side.now) ++
      packet_told place (has_packet l.era.side.now) knows (is_free x l.era.side l.era.side.now) (is_free x m.era.side m.era.side.now) ++ changes_told place (length l.era.account.over) m.era.account.over

  -- WHAT A FRAME THAT CAME BACK TELLS of a slave; `knows` is whether its hand knows its mails behind the frame
  abbrev pub returned_told : Bool → ℕ → Option Passed → List Body → Life Body Asked Reply → Life Body Asked Reply → Lives.Stand → List Event
  returned_told knows place hand ms l m (Lives.Stand.Opens o) = turned_told place o.own (turned l m)
  returned_told knows place hand ms l m Lives.Stand.Open = open_told knows place hand ms l m
  returned_told knows place hand ms l m Lives.Stand.Gone = []

-- whether the hand of the slave at a place knows its mails, by what a master remembers
abbrev pub known_at : List Recall → ℕ → Bool
known_at [] k = false
known_at (m ∷ ms) zero = m.knows
known_at (m ∷ ms) (suc k) = known_at ms k

-- WHAT A FRAME THAT CAME BACK TELLS of the slave at a place, by all lives before it and behind it, and by what the master remembers behind it
abbrev pub returned_at : (ℕ → Lens) → List (Datagram Body) → List Recall → List ServedTurn → List Serves → ℕ → List Event
returned_at lens back ms vs ws k =
    told_at (λ v w. returned_told (speech_at lens v.turn.lived.spot) (known_at ms k) k v.hand (accepted_in v.turn.lived.spot v.turn.lived.life back) v.turn.lived.life w.lead.lived.life v.turn.lived.life.stand) vs ws k

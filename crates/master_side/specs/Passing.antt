-- A MAIL THAT IS PASSED ON, as the side of its slave has it and as the life of its slave does.
use Rattle.std.specs.Prelude.{◌≡◌, ℕ, ◌/◌, ◌==◌, ◌&&◌, not, nat_lt, is_some, Bool, true, false, if◌then◌else◌, Option, Some, None, List, []}
use Rattle.mailbox_master.specs.of_link_mails.Body.{Body}
use Rattle.mailbox_master.specs.of_link_model.Counters.{next_counter}
use Rattle.mailbox_master.specs.of_link_model.Mails.{LinkMail}
use Rattle.mailbox_master.specs.of_link_model.Master.{InState}
use Rattle.mailbox_master.specs.of_link_model.Segment.{RingFate}
use Rattle.master_duty.specs.of_segment_model.Ends as Ends
use Rattle.master_duty.specs.of_segment_model.Record.{News, Kept, frame_news, without_empty}
use Rattle.master_duty.specs.of_segment_model.Seats.{Side}
use Rattle.master_duty.specs.of_segment_model.Slaves.{Datagram}
use Rattle.master_duty.specs.Reply.{Reply}
use Rattle.master_duty.specs.of_state_model.Stated.{Service}
use Rattle.master_side.specs.declared.passing.Passing.{Passing}
use Rattle.master_side.specs.declared.hand.Heard.{Heard}
use Rattle.master_side.specs.declared.carried.Carried.{Carried}
use Rattle.master_side.specs.Carried.{is_read}

-- how far it has come, as the life has it
abbrev pub passing_seen : Option Passing → Option Ends.Passing
passing_seen None = None
passing_seen (Some Passing.Waiting) = Some Ends.Passing.Waiting
passing_seen (Some Passing.Sent) = Some Ends.Passing.Sent
passing_seen (Some Passing.Boxed) = Some Ends.Passing.Boxed
passing_seen (Some Passing.Served) = Some Ends.Passing.Served
passing_seen (Some Passing.Answered) = Some Ends.Passing.Answered

-- THE SIDE HAS IT AS THE LIFE DOES; and while it isn't over, the hand awaits a reply of it
pub record PassingShows (awaits : Bool) (passing : Option Passing) (life : Option Ends.Passing) : Type 0 where
  pub is : life ≡ passing_seen passing
  pub awaited : is_some passing ≡ true → awaits ≡ true

-- what a mail is to it: it replies to nothing, other replies follow, or it is the last
abbrev pub told_as : Bool → Bool → Heard
told_as true more = Heard.Emission
told_as false true = Heard.More
told_as false false = Heard.Last

-- a reply is still awaited behind it
abbrev pub goes_on : Heard → Bool
goes_on Heard.Emission = true
goes_on Heard.More = true
goes_on Heard.Last = false
goes_on Heard.Foreign = false

-- a service that comes into hand and passes a mail on: that waits to be sent
abbrev pub passing_behind : {Q : Type 0} → (Q → Bool) → Option Ends.Passing → Option (Service Q) → Option Ends.Passing
passing_behind passed p None = p
passing_behind passed p (Some (Service.Mails q)) = if passed q then Some Ends.Passing.Waiting else p
passing_behind passed p (Some (Service.State target)) = p

-- THE RECORD'S COUNTERS ARE THE SIDE'S: the last mail told is the one held, or the one before where that was not yet sent; the last one heard is
-- the inward half's
pub record IsKept {Q : Type 0} (kept : Kept) (d : Side Body Q Reply) : Type 0 where
  pub told : d.halves.out.last ≡ (if d.fresh then next_counter kept.told else kept.told)
  pub held : (m : LinkMail Body) → d.halves.out.holding ≡ Some m → (m.counter ≡ d.halves.out.last) × ((m.counter == 0) ≡ false)
  pub idle : d.halves.out.holding ≡ None → d.fresh ≡ false
  pub heard : d.halves.inn.last ≡ kept.heard

-- an empty read in the frame of this number counts: the slave's processor, which steps behind each frame whose number and 1 its pace divides, made a
-- step since the last done read
abbrev pub counts_at : Option ℕ → ℕ → ℕ → Bool
counts_at None pace made = true
counts_at (Some at) pace made = nat_lt (at / pace) (made / pace)

-- the frame that brought the last done read, behind a datagram that came back in the frame of this number
abbrev pub read_behind : Carried → InState → ℕ → ℕ → Option ℕ → Option ℕ
read_behind Carried.Inward s counter made at = if is_read s && not (counter == 0) then Some made else at
read_behind _ s counter made at = at

-- what a frame tells that came back with these datagrams, for a mail that is passed on: without an empty read that doesn't count
abbrev pub news_back : ℕ → Kept → Bool → List (Datagram Body) → List (News Body)
news_back station kept counts back =
    let ns = frame_news station kept (record { sent = back; fate = RingFate.Back; back = back }) in
    if counts then ns else without_empty ns

-- and a lost one
abbrev pub news_lost : ℕ → Kept → List (Datagram Body) → List (News Body)
news_lost station kept sent = frame_news station kept (record { sent = sent; fate = RingFate.Lost 0; back = [] })

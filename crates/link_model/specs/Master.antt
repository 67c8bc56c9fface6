-- The master's two halves of a link, and how each goes on by what returned or was lost.
use Rattle.std.specs.Prelude.{ℕ, ◌==◌, Bool, not, if◌then◌else◌, Option, Some, None, List, []}
use Rattle.link_model.specs.Counters.{next_counter}
use Rattle.link_model.specs.Mails.{LinkMail, news, seen, differs}

-- the outward half: the counter of the last mail that it took up, and the mail that it holds
pub record OutHalf (B : Type 0) : Type 0 where
  pub last : ℕ
  pub holding : Option (LinkMail B)

-- an idle half takes up a mail, with the next counter
abbrev pub out_hold : {B : Type 0} → OutHalf B → B → OutHalf B
out_hold h body =
    record { last = next_counter h.last; holding = Some (record { counter = next_counter h.last; body = body }) }

-- its write returned: with counter 0 mailbox 0 was full, and the mail is still held
abbrev pub out_answered : {B : Type 0} → OutHalf B → ℕ → OutHalf B
out_answered h counter = if counter == 0 then h else record h { holding = None }

-- nothing is in doubt; a read was lost, and the repeat request is to be written;
-- it was written, and the acknowledge is awaited; the mail can be fetched again
pub data InState : Type 0 where
  Clear : InState
  Doubt : InState
  Asked : InState
  Refetch : InState

-- the inward half: the counter of the last accepted mail, its state, and its repeat request bit
pub record InHalf : Type 0 where
  pub last : ℕ
  pub state : InState
  pub bit : Bool

-- a read of mailbox 1 returned, with the mail that stood there
abbrev pub read_answered : {B : Type 0} → InHalf → Option (LinkMail B) → InHalf
read_answered h mail = record h { last = seen h.last mail; state = InState.Clear }

-- a read of mailbox 1 was lost: the repeat request is inverted
abbrev pub read_lost : InHalf → InHalf
read_lost h = record h { state = InState.Doubt; bit = not h.bit }

-- the write of the repeat request returned
abbrev pub doubt_answered : InHalf → ℕ → InHalf
doubt_answered h counter = if counter == 0 then h else record h { state = InState.Asked }

-- the read of the acknowledge returned
abbrev pub asked_answered : InHalf → ℕ → Bool → InHalf
asked_answered h counter acknowledge =
    if counter == 0 then h else if differs acknowledge h.bit then h else record h { state = InState.Refetch }

-- the half goes on, in this state, by a datagram that was met by its slave and returned:
-- what stood in mailbox 1, and the acknowledge
abbrev pub in_answered : {B : Type 0} → InHalf → InState → Option (LinkMail B) → Bool → InHalf
in_answered h InState.Clear box acknowledge = read_answered h box
in_answered h InState.Doubt box acknowledge = doubt_answered h 1
in_answered h InState.Asked box acknowledge = asked_answered h 1 acknowledge
in_answered h InState.Refetch box acknowledge = read_answered h box

-- the half goes on, in this state, by a datagram that was lost
abbrev pub in_lost : InHalf → InState → InHalf
in_lost h InState.Clear = read_lost h
in_lost h InState.Doubt = h
in_lost h InState.Asked = h
in_lost h InState.Refetch = read_lost h

-- the bodies that it accepts by that return
abbrev pub in_accepts : {B : Type 0} → InHalf → InState → Option (LinkMail B) → List B
in_accepts h InState.Clear box = news h.last box
in_accepts h InState.Doubt box = []
in_accepts h InState.Asked box = []
in_accepts h InState.Refetch box = news h.last box

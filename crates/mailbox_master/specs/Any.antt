-- A half in whichever state.
use Rattle.std.specs.Prelude.{ℕ, Bool, Option, Some, None, List, slice_index}
use Rattle.link_mails.specs.of_mailbox_mail.declared.mail.Mail.{Mail}
use Rattle.link_mails.specs.of_mailbox_mail.Mail.{mail_read}
use Rattle.link_mails.specs.of_link_model.Mails.{LinkMail}
use Rattle.link_mails.specs.of_link_model.Master.{OutHalf, InHalf, InState, out_hold, out_answered, read_answered, doubt_answered, asked_answered}
use Rattle.link_mails.specs.Body.{Body, mail_brought, bit_1}
use Rattle.mailbox_master.specs.Halves.{idle_half, holding_half, in_half, held_mail}
use Rattle.mailbox_master.specs.Next.{got_by}
use Rattle.mailbox_master.specs.Access.{Access, read_access, request_access, acknowledge_access}
use Rattle.mailbox_master.specs.declared.inward.Got.{Got}
use Rattle.mailbox_master.specs.declared.outward.OutNext.{OutNext}
use Rattle.mailbox_master.specs.declared.outward.OutNext.TheVariants.{Taken, Full}
use Rattle.mailbox_master.specs.declared.inward.DoubtNext.{DoubtNext}
use Rattle.mailbox_master.specs.declared.inward.DoubtNext.TheVariants.{Still as StillDoubt, Next as NowAsked}
use Rattle.mailbox_master.specs.declared.inward.AskedNext.{AskedNext}
use Rattle.mailbox_master.specs.declared.inward.AskedNext.TheVariants.{Still as StillAsked, Next as NowRefetch}
use Rattle.mailbox_master.specs.declared.halves.OutwardHalf.{OutwardHalf}
use Rattle.mailbox_master.specs.declared.halves.OutwardHalf.TheVariants.{Idle, Holding}
use Rattle.mailbox_master.specs.declared.halves.InwardHalf.{InwardHalf}
use Rattle.mailbox_master.specs.declared.halves.InwardHalf.TheVariants.{Clear, Doubt, Asked, Refetch}

-- the outward half of the link model that it is
abbrev pub out_half_of : OutwardHalf → OutHalf Body
out_half_of (Idle o) = idle_half o
out_half_of (Holding o) = holding_half o

-- its slave's station
abbrev pub out_station : OutwardHalf → ℕ
out_station (Idle o) = o.station
out_station (Holding o) = o.station

-- the length of mailbox 0
abbrev pub out_len : OutwardHalf → ℕ
out_len (Idle o) = o.len
out_len (Holding o) = o.len

-- the mail held
abbrev pub mail_held : OutwardHalf → Option Mail
mail_held (Idle o) = None
mail_held (Holding o) = Some (held_mail o)

-- a half that holds a mail keeps it; an idle one takes this one up
abbrev pub out_held : OutHalf Body → Option (LinkMail Body) → Body → OutHalf Body
out_held h (Some m) body = h
out_held h None body = out_hold h body

-- the write of a mail held returned; of an idle half nothing does
abbrev pub out_returned : OutHalf Body → Option (LinkMail Body) → ℕ → OutHalf Body
out_returned h (Some m) counter = out_answered h counter
out_returned h None counter = h

-- the inward half of the link model that it is
abbrev pub in_half_of : InwardHalf → InHalf
in_half_of (Clear i) = in_half InState.Clear i
in_half_of (Doubt i) = in_half InState.Doubt i
in_half_of (Asked i) = in_half InState.Asked i
in_half_of (Refetch i) = in_half InState.Refetch i

-- its slave's station
abbrev pub in_station : InwardHalf → ℕ
in_station (Clear i) = i.station
in_station (Doubt i) = i.station
in_station (Asked i) = i.station
in_station (Refetch i) = i.station

-- the length of mailbox 1
abbrev pub in_area_len : InwardHalf → ℕ
in_area_len (Clear i) = i.len
in_area_len (Doubt i) = i.len
in_area_len (Asked i) = i.len
in_area_len (Refetch i) = i.len

-- the datagram of an inward half returned with this working counter and these octets
abbrev pub in_returned : InHalf → InState → ℕ → List ℕ → InHalf
in_returned h InState.Clear counter octets = read_answered h (mail_brought counter (mail_read octets))
in_returned h InState.Doubt counter octets = doubt_answered h counter
in_returned h InState.Asked counter octets = asked_answered h counter (bit_1 (slice_index octets 0))
in_returned h InState.Refetch counter octets = read_answered h (mail_brought counter (mail_read octets))

-- what a read of mailbox 1 gave by that; the other states read none
abbrev pub in_got : InHalf → InState → ℕ → List ℕ → Option Got
in_got h InState.Clear counter octets = Some (got_by h.last counter (mail_read octets))
in_got h InState.Doubt counter octets = None
in_got h InState.Asked counter octets = None
in_got h InState.Refetch counter octets = Some (got_by h.last counter (mail_read octets))

-- the access of an inward half, by its state
abbrev pub in_access : ℕ → Bool → InState → Access
in_access len bit InState.Clear = read_access len
in_access len bit InState.Doubt = request_access bit
in_access len bit InState.Asked = acknowledge_access
in_access len bit InState.Refetch = read_access len

-- its access
abbrev pub in_access_of : InwardHalf → Access
in_access_of h = in_access (in_area_len h) (in_half_of h).bit (in_half_of h).state

-- the half that a returned write of mailbox 0 has left
abbrev pub out_next_of : OutNext → OutwardHalf
out_next_of (Taken o) = Idle o
out_next_of (Full o) = Holding o

-- the half that a returned write of the repeat request has left
abbrev pub doubt_next_of : DoubtNext → InwardHalf
doubt_next_of (StillDoubt i) = Doubt i
doubt_next_of (NowAsked i) = Asked i

-- the half that a returned read of the acknowledge has left
abbrev pub asked_next_of : AskedNext → InwardHalf
asked_next_of (StillAsked i) = Asked i
asked_next_of (NowRefetch i) = Refetch i

-- A datagram of octets as a session sees it.
use Rattle.std.specs.Prelude.{ℕ, ◌-◌, ◌==◌, ◌&&◌, nat_le, nat_lt, not, Bool, false, if◌then◌else◌, Option, Some, None, List, length, slice_index}
use Rattle.al_state.specs.of_ec_fields.Fields.{number_at, bits_of}
use Rattle.al_state.specs.of_datagrams.declared.command.Command.{Command}
use Rattle.al_state.specs.of_datagrams.declared.command.Command.TheVariants.{Aprd, Apwr, Aprw, Fprd, Fpwr, Fprw}
use Rattle.al_state.specs.of_datagrams.declared.head.Head.{Head}
use Rattle.al_state.specs.of_datagrams.Datagram as Raw
use Rattle.link_mails.specs.of_mailbox_mail.Mail.{mail_read}
use Rattle.link_mails.specs.of_link_model.Mails.{LinkMail}
use Rattle.link_mails.specs.of_link_model.Frames.{Ask}
use Rattle.link_mails.specs.Body.{Body, link_read, mail_brought, bit_1}
use Rattle.life_model.specs.of_segment_model.Slaves.{Address, Access, Found, Datagram}

-- the lengths of a slave's mailboxes
pub record Lens : Type 0 where
  pub out : ℕ
  pub back : ℕ

-- what a write by station asks of the link, by register and octets
abbrev pub write_ask : Lens → ℕ → List ℕ → Ask Body
write_ask lens ado octets =
    if ado == 4096 then (if length octets == lens.out then Ask.WriteMail (link_read (mail_read octets)) else Ask.Other)
    else if ado == 2062 then (if length octets == 1 then Ask.WriteRequest (bit_1 (slice_index octets 0)) else Ask.Other)
    else Ask.Other

-- and a read
abbrev pub read_ask : Lens → ℕ → ℕ → Ask Body
read_ask lens ado len =
    if ado == 6144 then (if len == lens.back then Ask.ReadMail else Ask.Other)
    else if ado == 2063 then (if len == 1 then Ask.ReadAcknowledge else Ask.Other)
    else Ask.Other

-- by the command; one by place asks nothing of the link
abbrev pub ask_of : Lens → Command → ℕ → List ℕ → Ask Body
ask_of lens Fpwr ado octets = write_ask lens ado octets
ask_of lens Fprd ado octets = read_ask lens ado (length octets)
ask_of lens _ ado octets = Ask.Other

-- bit 0 of an activate octet
abbrev pub enables : ℕ → Bool
enables octet = bits_of octet 0 1 == 1

-- the eight octets of a sync manager are the slave's own
abbrev pub is_own : List ℕ → ℕ → ℕ → ℕ → Bool
is_own octets start len control =
    number_at 2 octets 0 == start && (number_at 2 octets 2 == len && (slice_index octets 4 == control && enables (slice_index octets 6)))

-- what a write asks of the other registers
abbrev pub write_access : Lens → ℕ → List ℕ → Access
write_access lens ado octets =
    if ado == 288 then (if length octets == 2 then Access.SetControl (bits_of (number_at 2 octets 0) 0 4) (not (bits_of (number_at 2 octets 0) 4 1 == 0)) else Access.Elsewhere)
    else if ado == 16 then (if length octets == 2 then Access.SetStation (number_at 2 octets 0) else Access.Elsewhere)
    else if ado == 2048 then (if length octets == 8 then Access.SetFirst (is_own octets 4096 lens.out 38) else Access.Elsewhere)
    else if ado == 2056 then (if length octets == 8 then Access.SetSecond (is_own octets 6144 lens.back 34) else Access.Elsewhere)
    else Access.Elsewhere

-- and a read
abbrev pub read_access : ℕ → ℕ → Access
read_access ado len =
    if ado == 304 then (if len == 6 then Access.ReadState else Access.Elsewhere)
    else if ado == 2053 then (if len == 1 then Access.ReadFull else Access.Elsewhere)
    else Access.Elsewhere

-- by the command, by station and by place
abbrev pub access_of : Lens → Command → ℕ → List ℕ → Access
access_of lens Fpwr ado octets = write_access lens ado octets
access_of lens Apwr ado octets = write_access lens ado octets
access_of lens Fprd ado octets = read_access ado (length octets)
access_of lens Aprd ado octets = read_access ado (length octets)
access_of lens _ ado octets = Access.Elsewhere

-- a place is the two's complement of ADP; from 1 on it was passed
abbrev pub place_of : ℕ → Address
place_of adp =
    if adp == 0 then Address.Place 0
    else if nat_le 32768 adp then Address.Place (65536 - adp)
    else Address.Passed

-- whom it means
abbrev pub address_of : Command → ℕ → Address
address_of Fpwr adp = Address.Station adp
address_of Fprd adp = Address.Station adp
address_of Fprw adp = Address.Station adp
address_of Apwr adp = place_of adp
address_of Aprd adp = place_of adp
address_of Aprw adp = place_of adp
address_of _ adp = Address.Passed

-- the station that it is addressed to, 0 where it is addressed to none
abbrev pub station_of : Command → ℕ → ℕ
station_of Fpwr adp = adp
station_of Fprd adp = adp
station_of Fprw adp = adp
station_of _ adp = 0

-- a counter counts where the access is one of these
abbrev pub link_counter : Ask Body → ℕ → ℕ
link_counter Ask.Other counter = 0
link_counter _ counter = counter

-- and that of an access of another register
abbrev pub register_counter : Access → ℕ → ℕ
register_counter Access.Elsewhere counter = 0
register_counter _ counter = counter

-- what a read of the link brings
abbrev pub link_mail_in : Ask Body → ℕ → List ℕ → Option (LinkMail Body)
link_mail_in Ask.ReadMail counter octets = mail_brought counter (mail_read octets)
link_mail_in _ counter octets = None

-- and the acknowledge
abbrev pub acknowledge_in : Ask Body → List ℕ → Bool
acknowledge_in Ask.ReadAcknowledge octets = bit_1 (slice_index octets 0)
acknowledge_in _ octets = false

-- what octets say of AL status and code: nothing from 32 on
abbrev pub state_found : ℕ → ℕ → Option Found
state_found status code =
    if nat_lt status 32 then Some (Found.State (bits_of status 0 4) (if bits_of status 4 1 == 1 then Some code else None)) else None

-- what a read of another register found, where it was done
abbrev pub found_of : Access → ℕ → List ℕ → Option Found
found_of Access.ReadState counter octets = if counter == 0 then None else state_found (number_at 2 octets 0) (number_at 2 octets 4)
found_of Access.ReadFull counter octets = if counter == 0 then None else Some (Found.Full (bits_of (slice_index octets 0) 3 1 == 1))
found_of _ counter octets = None

-- the datagram that asks this of the link and of the other registers
abbrev pub asking : Ask Body → Access → ℕ → Address → ℕ → List ℕ → Datagram Body
asking ask access station address counter octets = record {
  gram = record {
    station = station;
    ask = ask;
    counter = link_counter ask counter;
    mail = link_mail_in ask counter octets;
    acknowledge = acknowledge_in ask octets;
  };
  address = address;
  access = access;
  counter = register_counter access counter;
  found = found_of access counter octets;
}

-- THE DATAGRAM with this head and these octets, to a slave with mailboxes of these lengths
abbrev pub head_seen : Lens → Head → List ℕ → Datagram Body
head_seen lens h octets =
    asking (ask_of lens h.command h.ado octets) (access_of lens h.command h.ado octets) (station_of h.command h.adp) (address_of h.command h.adp) h.counter octets

-- THE DATAGRAM: by the lengths at the station that it is addressed to
abbrev pub datagram_seen : (ℕ → Lens) → Raw.Datagram → Datagram Body
datagram_seen lens d = head_seen (lens (station_of d.head.command d.head.adp)) d.head d.body

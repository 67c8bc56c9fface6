-- The datagrams that a side sends.
use Rattle.std.specs.Prelude.{◌≡◌, ◌≤◌, ◌<◌, ◌^◌, ⊤, ℕ, Bool, Option, Some, None, false, List, [], ◌∷◌, length}
use Rattle.byteorder.specs.Endian.{little_bytes}
use Rattle.mailbox_master.specs.of_datagrams.declared.command.Command.{Command}
use Rattle.mailbox_master.specs.of_datagrams.declared.command.Command.TheVariants.{Fprd, Fpwr, Nop}
use Rattle.mailbox_master.specs.of_datagrams.declared.head.Head.{Head}
use Rattle.mailbox_master.specs.of_datagrams.Command.{IsNamed}
use Rattle.mailbox_master.specs.of_datagrams.Datagram.{Datagram}
use Rattle.mailbox_master.specs.of_datagrams.Frame.{datagram_of}
use Rattle.master_duty.specs.of_mailbox_mail.declared.mail.Mail.{Mail}
use Rattle.master_duty.specs.of_mailbox_mail.Area.{mail_area}
use Rattle.mailbox_master.specs.declared.halves.InwardHalf.{InwardHalf}
use Rattle.mailbox_master.specs.Links.{OutLink}
use Rattle.mailbox_master.specs.Any.{in_station, in_area_len, in_access_of}
use Rattle.mailbox_master.specs.Access.{access_head, write_access}
use Rattle.master_duty.specs.declared.duty.Duty.{Duty}
use Rattle.master_duty.specs.declared.stage.Errand.{Errand}
use Rattle.master_duty.specs.declared.stage.Met.{Met}
use Rattle.master_duty.specs.Stages.{errand_of}
use Rattle.master_side.specs.declared.carried.Carried.{Carried}
use Rattle.master_side.specs.Carried.{in_hand}

-- a datagram that is sent to a slave whose larger mailbox has this length
pub record IsSent (area : ℕ) (d : Datagram) : Type 0 where
  pub counter : d.head.counter ≡ 0
  pub sized : d.head.len ≡ length d.body
  pub named : IsNamed d.head.command
  pub some : 1 ≤ length d.body
  pub fits : length d.body ≤ area

-- the head of an access by station that no slave has met
abbrev pub head_to : Command → ℕ → ℕ → ℕ → ℕ → Head
head_to command station index register len =
    record { command = command; index = index; adp = station; ado = register; len = len; circulating = false; more = false; interrupt = 0; counter = 0 }

-- the status octet of mailbox 0 is read
abbrev pub full_head : ℕ → ℕ → Head
full_head station index = head_to Fprd station index 2053 1

-- AL control is written, or AL status and code are read
abbrev pub errand_head : ℕ → ℕ → Errand → Head
errand_head station index (Errand.Write word) = head_to Fpwr station index 288 2
errand_head station index Errand.ReadStatus = head_to Fprd station index 304 6

-- and its octets
abbrev pub errand_octets : Errand → List ℕ
errand_octets (Errand.Write word) = little_bytes 2 word
errand_octets Errand.ReadStatus = 0 ∷ 0 ∷ 0 ∷ 0 ∷ 0 ∷ 0 ∷ []

-- no datagram
abbrev pub no_gram : Datagram
no_gram = datagram_of (head_to Nop 0 0 0 0) []

-- the write of the mail held
abbrev pub write_gram : ℕ → OutLink (Option Mail) → Option Mail → Datagram
write_gram index out None = no_gram
write_gram index out (Some m) = datagram_of (access_head out.station index (write_access out.len m)) (mail_area out.len m)

-- the datagram of the inward half
abbrev pub inward_gram : ℕ → InwardHalf → Datagram
inward_gram index inn = datagram_of (access_head (in_station inn) index (in_access_of inn)) (in_access_of inn).octets

-- the access of a state service
abbrev pub errand_gram : ℕ → ℕ → Option Errand → Datagram
errand_gram station index None = no_gram
errand_gram station index (Some errand) = datagram_of (errand_head station index errand) (errand_octets errand)

-- by the stage of the service in hand
abbrev pub duty_gram : ℕ → ℕ → Option Duty → Datagram
duty_gram station index None = no_gram
duty_gram station index (Some duty) = errand_gram station index (errand_of duty.stage)

-- THE DATAGRAM OF A VISIT
abbrev pub visit_gram : ℕ → ℕ → OutLink (Option Mail) → InwardHalf → Option Met → Carried → Datagram
visit_gram station index out inn duty Carried.Nothing = no_gram
visit_gram station index out inn duty Carried.Write = write_gram index out out.state
visit_gram station index out inn duty Carried.Inward = inward_gram index inn
visit_gram station index out inn duty Carried.Full = datagram_of (full_head station index) (0 ∷ [])
visit_gram station index out inn duty Carried.Control = duty_gram station index (in_hand duty)
visit_gram station index out inn duty Carried.Status = duty_gram station index (in_hand duty)

-- how many octets it has
abbrev pub gram_len : OutLink (Option Mail) → InwardHalf → Carried → ℕ
gram_len out inn Carried.Nothing = 0
gram_len out inn Carried.Write = out.len
gram_len out inn Carried.Inward = length (in_access_of inn).octets
gram_len out inn Carried.Full = 1
gram_len out inn Carried.Control = 2
gram_len out inn Carried.Status = 6

-- the same link
pub record SameLink (out : OutLink (Option Mail)) (inn : InwardHalf) (station area : ℕ) (out' : OutLink (Option Mail)) (inn' : InwardHalf) (station' area' : ℕ) : Type 0 where
  pub out_is : out'.len ≡ out.len
  pub in_is : in_area_len inn' ≡ in_area_len inn
  pub station_is : station' ≡ station
  pub area_is : area' ≡ area

-- the same halves and state service
pub record SameSide (out : OutLink (Option Mail)) (inn : InwardHalf) (fresh : Bool) (duty : Option Met) (out' : OutLink (Option Mail)) (inn' : InwardHalf) (fresh' : Bool) (duty' : Option Met) : Type 0 where
  pub out_is : out' ≡ out
  pub in_is : inn' ≡ inn
  pub fresh_is : fresh' ≡ fresh
  pub duty_is : duty' ≡ duty

-- a word that is written has 16 bits
abbrev pub IsWord : Errand → Type 0
IsWord (Errand.Write word) = word < 2 ^ 16
IsWord Errand.ReadStatus = ⊤

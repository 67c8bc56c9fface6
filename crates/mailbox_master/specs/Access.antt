-- The register accesses of the halves (ETG.1000.4, sync manager registers).
use Rattle.std.specs.Prelude.{ℕ, ◌+◌, ◌*◌, Bool, false, List, [], ◌∷◌, length, replicate}
use Rattle.link_mails.specs.of_mailbox_mail.declared.mail.Mail.{Mail}
use Rattle.link_mails.specs.of_mailbox_mail.Area.{mail_area}
use Rattle.datagrams.specs.declared.command.Command.{Command}
use Rattle.datagrams.specs.declared.command.Command.TheVariants.{Fprd, Fpwr}
use Rattle.datagrams.specs.declared.head.Head.{Head}
use Rattle.mailbox_master.specs.Halves.{bit_number}

-- an access of one slave, by its station: the command, the first register, and the octets of the body
pub record Access : Type 0 where
  pub command : Command
  pub register : ℕ
  pub octets : List ℕ

-- mailbox 0 is written whole
abbrev pub write_access : ℕ → Mail → Access
write_access len m = record { command = Fpwr; register = 4096; octets = mail_area len m }

-- mailbox 1 is read whole
abbrev pub read_access : ℕ → Access
read_access len = record { command = Fprd; register = 6144; octets = replicate len 0 }

-- the activate octet of sync manager 1 is written: enabled, and the repeat request in bit 1
abbrev pub request_access : Bool → Access
request_access bit = record { command = Fpwr; register = 2062; octets = (1 + 2 * bit_number bit) ∷ [] }

-- the PDI control octet of sync manager 1 is read: the repeat acknowledge in bit 1
abbrev pub acknowledge_access : Access
acknowledge_access = record { command = Fprd; register = 2063; octets = 0 ∷ [] }

-- the head of the datagram with this access to this station
abbrev pub access_head : ℕ → ℕ → Access → Head
access_head station index a =
    record { command = a.command; index = index; adp = station; ado = a.register; len = length a.octets; circulating = false; more = false; interrupt = 0; counter = 0 }

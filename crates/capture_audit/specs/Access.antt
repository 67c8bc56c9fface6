-- What a datagram is to an audit.
use Rattle.std.specs.Prelude.{ℕ, ◌==◌, ◌&&◌, if◌then◌else◌}
use Rattle.capture_view.specs.of_datagrams.declared.head.Head.{Head}
use Rattle.capture_view.specs.of_datagrams.declared.command.Command.{Command}
use Rattle.capture_view.specs.of_datagrams.declared.command.Command.TheVariants as commands
use Rattle.capture_audit.specs.declared.access.Access.{Access}
use Rattle.capture_audit.specs.declared.access.Access.TheVariants.{Manager, Mailbox, Other}
use Rattle.capture_audit.specs.declared.access.Manager.TheVariants as managers
use Rattle.capture_audit.specs.declared.access.MailAccess.TheVariants as accesses

-- a write of so many octets at this register: mailbox 0 at 0x1000, the repeat request at 0x080E, the sync managers at
-- 0x0800 and 0x0808
abbrev pub write_by : ℕ → ℕ → Access
write_by ado len =
    if ado == 4096 then Mailbox accesses.WriteMail
    else if ado == 2062 then Mailbox accesses.WriteRequest
    else if ado == 2048 && len == 8 then Manager managers.Out
    else if ado == 2056 && len == 8 then Manager managers.In
    else Other

-- a read at this register: mailbox 1 at 0x1800, the repeat acknowledge at 0x080F
abbrev pub read_by : ℕ → Access
read_by ado =
    if ado == 6144 then Mailbox accesses.ReadMail
    else if ado == 2063 then Mailbox accesses.ReadAcknowledge
    else Other

-- by its command and register: FPWR and FPRD count
abbrev pub access_by : Command → ℕ → ℕ → Access
access_by commands.Fpwr ado len = write_by ado len
access_by commands.Fprd ado len = read_by ado
access_by _ ado len = Other

-- a datagram with this head and a body of so many octets
abbrev pub access_of : Head → ℕ → Access
access_of h len = access_by h.command h.ado len

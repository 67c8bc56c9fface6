-- The lines of packets, frames, datagrams and mails.
use Rattle.std.specs.Prelude.{ℕ, Bool, if◌then◌else◌, List, ◌++◌, length, codes}
use Rattle.std.specs.Fmt.{decimal}
use Rattle.pcap_frames.specs.declared.capture.PacketAt.{PacketAt}
use Rattle.pcap_frames.specs.declared.capture.Stamp.{Stamp}
use Rattle.datagrams.specs.declared.command.Command.{Command}
use Rattle.datagrams.specs.declared.command.Command.TheVariants as commands
use Rattle.datagrams.specs.declared.head.Head.{Head}
use Rattle.datagrams.specs.declared.frame.FrameFault.{FrameFault}
use Rattle.datagrams.specs.declared.frame.FrameFault.TheVariants as frame_faults
use Rattle.mailbox_mail.specs.declared.mail.Kind.{Kind}
use Rattle.mailbox_mail.specs.declared.mail.Kind.TheVariants as kinds
use Rattle.mailbox_mail.specs.declared.mail.Mail.{Mail}
use Rattle.capture_view.specs.Numbers.{decimal_of, hex_of}

-- when a packet was captured: seconds, and a part of a second in micro- or nanoseconds
abbrev pub stamp_text : Bool → Stamp → List ℕ
stamp_text nanos stamp = codes " at " ++ (decimal stamp.seconds ++ (codes "." ++ decimal_of (if nanos then 9 else 6) stamp.part))

-- a packet: its number, its time with the part of a second in micro- or nanoseconds, its captured length
abbrev pub packet_line : Bool → ℕ → PacketAt → List ℕ
packet_line nanos number p =
    codes "packet " ++ (decimal number ++ (codes " at " ++ (decimal p.stamp.seconds ++ (codes "."
    ++ (decimal_of (if nanos then 9 else 6) p.stamp.part ++ (codes " length " ++ (decimal p.len ++ codes "\n")))))))

-- how many packets there are
abbrev pub packets_line : ℕ → List ℕ
packets_line count = codes "packets " ++ (decimal count ++ codes "\n")

-- a fault by its place in the order of faults
abbrev pub fault_line : ℕ → List ℕ
fault_line number = codes "fault " ++ (decimal number ++ codes "\n")

-- octets that are no frame of datagrams: another packet where header, EtherType or type say so, else a fault
abbrev pub no_frame_line : FrameFault → List ℕ
no_frame_line frame_faults.Short = codes "other\n"
no_frame_line frame_faults.NotEtherCat = codes "other\n"
no_frame_line frame_faults.WrongType = codes "other\n"
no_frame_line frame_faults.LengthWord = fault_line 4
no_frame_line (frame_faults.DatagramCut at) = fault_line 5
no_frame_line frame_faults.MoreButEnd = fault_line 6

-- a command by its name, or by its number where it has none
abbrev pub command_text : Command → List ℕ
command_text commands.Nop = codes "nop"
command_text commands.Aprd = codes "aprd"
command_text commands.Apwr = codes "apwr"
command_text commands.Aprw = codes "aprw"
command_text commands.Fprd = codes "fprd"
command_text commands.Fpwr = codes "fpwr"
command_text commands.Fprw = codes "fprw"
command_text commands.Brd = codes "brd"
command_text commands.Bwr = codes "bwr"
command_text commands.Brw = codes "brw"
command_text commands.Lrd = codes "lrd"
command_text commands.Lwr = codes "lwr"
command_text commands.Lrw = codes "lrw"
command_text commands.Armw = codes "armw"
command_text commands.Frmw = codes "frmw"
command_text (commands.Other number) = codes "command " ++ decimal number

-- a datagram's index and the address that it names: ADP and ADO
abbrev pub address_text : Head → List ℕ
address_text h = codes " " ++ (hex_of 2 h.index ++ (codes " " ++ (hex_of 4 h.adp ++ (codes ":" ++ hex_of 4 h.ado))))

-- the length of a datagram's body and its working counter
abbrev pub counts_text : Head → List ℕ
counts_text h = codes " length " ++ (decimal h.len ++ (codes " counter " ++ (decimal h.counter ++ codes "\n")))

-- what a datagram's line has behind the command: index, ADP and ADO, the body's length, the working counter
abbrev pub head_text : Head → List ℕ
head_text h =
    codes " " ++ (hex_of 2 h.index ++ (codes " " ++ (hex_of 4 h.adp ++ (codes ":" ++ (hex_of 4 h.ado
    ++ (codes " length " ++ (decimal h.len ++ (codes " counter " ++ (decimal h.counter ++ codes "\n")))))))))

-- a datagram by its head
abbrev pub datagram_line : Head → List ℕ
datagram_line h = codes "datagram " ++ command_text h.command ++ head_text h

-- the protocol of a mail
abbrev pub kind_text : Kind → List ℕ
kind_text kinds.Error = codes "error"
kind_text kinds.AoE = codes "aoe"
kind_text kinds.EoE = codes "eoe"
kind_text kinds.CoE = codes "coe"
kind_text kinds.FoE = codes "foe"
kind_text kinds.SoE = codes "soe"
kind_text kinds.VoE = codes "voe"

-- a mail: its protocol, its counter and its body's length
abbrev pub mail_line : Mail → List ℕ
mail_line m =
    codes "mail " ++ (kind_text m.kind ++ (codes " counter " ++ (decimal m.counter ++ (codes " length " ++ (decimal (length m.body.items) ++ codes "\n")))))

-- The decoding text of a capture.
use Rattle.std.specs.Prelude.{◌≡◌, ◌≤◌, ℕ, ◌+◌, Bool, false, ◌==◌, ◌&&◌, not, if◌then◌else◌, List, [], ◌∷◌, ◌++◌, length, take, drop, Option, Result, Ok, Err}
use Rattle.pcap_frames.specs.declared.capture.Capture.{Capture}
use Rattle.pcap_frames.specs.declared.capture.PacketAt.{PacketAt}
use Rattle.datagrams.specs.declared.frame.Frame.{Frame}
use Rattle.datagrams.specs.declared.frame.FrameFault.{FrameFault}
use Rattle.datagrams.specs.declared.frame.Part.{Part}
use Rattle.datagrams.specs.declared.head.Head.{Head}
use Rattle.datagrams.specs.declared.command.Command.{Command}
use Rattle.datagrams.specs.declared.command.Command.TheVariants as commands
use Rattle.datagrams.specs.Frame.{frame_read}
use Rattle.mailbox_mail.specs.declared.mail.Mail.{Mail}
use Rattle.mailbox_mail.specs.declared.mail.MailFault.{MailFault}
use Rattle.mailbox_mail.specs.Mail.{mail_read}
use Rattle.ec_outside.specs.declared.sink.SinkErr.{SinkErr}
use Rattle.ec_outside.specs.declared.sink.SinkErr.TheVariants.{Failed}
use Rattle.ec_outside.specs.Faults.{Rose}
use Rattle.ec_outside.specs.Sink.{Wrote, WrotePrefix}
use Rattle.capture_view.specs.Lines.{packet_line, packets_line, no_frame_line, datagram_line, mail_line}
use Rattle.capture_view.specs.Bodies.{body_line}

-- a mail and its body; octets that are no mail have no line
abbrev pub mail_lines : Result Mail MailFault → List ℕ
mail_lines (Ok mail) = mail_line mail ++ body_line mail.kind mail.body.items
mail_lines (Err fault) = []

-- whether a command at an address is one for mails: FPWR at 0x1000, FPRD at 0x1800
abbrev pub is_for_mail : Command → ℕ → Bool
is_for_mail commands.Fpwr ado = ado == 4096
is_for_mail commands.Fprd ado = ado == 6144
is_for_mail _ ado = false

-- whether a datagram moved a mail: it is one for mails, and its working counter isn't 0
abbrev pub moves_mail : Head → Bool
moves_mail h = not (h.counter == 0) && is_for_mail h.command h.ado

-- the octets of a datagram's body, which stand behind its ten first
abbrev pub body_of : List ℕ → Part → List ℕ
body_of frame part = take part.head.len (drop (part.at + 10) frame)

-- a datagram, and the mail that it moved
abbrev pub datagram_lines : List ℕ → Part → List ℕ
datagram_lines frame part = datagram_line part.head ++ (if moves_mail part.head then mail_lines (mail_read (body_of frame part)) else [])

-- datagrams in their order
abbrev pub parts_lines : List ℕ → List Part → List ℕ
parts_lines frame [] = []
parts_lines frame (part ∷ parts) = datagram_lines frame part ++ parts_lines frame parts

-- a frame by its datagrams, or what else it is
abbrev pub frame_lines : List ℕ → Result Frame FrameFault → List ℕ
frame_lines frame (Ok found) = parts_lines frame found.parts.items
frame_lines frame (Err fault) = no_frame_line fault

-- the octets of a packet in its file
abbrev pub octets_of : List ℕ → PacketAt → List ℕ
octets_of file packet = take packet.len (drop packet.from file)

-- a packet with its number, and the frame in it
abbrev pub packet_lines : List ℕ → Bool → ℕ → PacketAt → List ℕ
packet_lines file nanos number packet =
    packet_line nanos number packet ++ frame_lines (octets_of file packet) (frame_read (octets_of file packet))

-- packets in their order, numbered from here on
abbrev pub packets_lines : List ℕ → Bool → ℕ → List PacketAt → List ℕ
packets_lines file nanos number [] = []
packets_lines file nanos number (packet ∷ packets) =
    packet_lines file nanos number packet ++ packets_lines file nanos (number + 1) packets

-- the decoding text of a capture: its packets, numbered from 0, and how many there are
abbrev pub view_text : List ℕ → Capture → List ℕ
view_text file capture = packets_lines file capture.nanos 0 capture.packets ++ packets_line (length capture.packets)

-- what is written where a call ends: the text, or a prefix of it behind an error
abbrev pub Tells : Option (List ℕ) → Option (List ℕ) → List ℕ → Result (Unit {0}) SinkErr → Type 0
Tells old new text (Ok done) = Wrote old new text
Tells old new text (Err e) = WrotePrefix old new text

-- the same of a sink that tells what is written and counts its faults: the count never falls, and rose where the sink failed
pub record Told {S : Type 0} (written : S → Option (List ℕ)) (faults : S → ℕ) (old new : S) (text : List ℕ) (result : Result (Unit {0}) SinkErr) : Type 0 where
  pub text_told : Tells (written old) (written new) text result
  pub later : faults old ≤ faults new
  pub cause : result ≡ Err Failed → Rose (faults old) (faults new)

-- a packet's octets lie within its file
abbrev pub IsWithin : List ℕ → PacketAt → Type 0
IsWithin file packet = packet.from + packet.len ≤ length file

-- The line of a mail's body, by its protocol.
use Rattle.std.specs.Prelude.{ℕ, Bool, ◌==◌, ◌&&◌, if◌then◌else◌, List, [], ◌++◌, length, slice_index, codes, Result, Ok, Err}
use Rattle.std.specs.Fmt.{decimal}
use Rattle.coe_codec.specs.of_ec_fields.Fields.{number_at, bits_of}
use Rattle.mailbox_mail.specs.declared.mail.Kind.{Kind}
use Rattle.mailbox_mail.specs.declared.mail.Kind.TheVariants as kinds
use Rattle.coe_codec.specs.declared.message.Coe.{Coe}
use Rattle.coe_codec.specs.declared.message.Coe.TheVariants as messages
use Rattle.coe_codec.specs.declared.message.CoeFault.{CoeFault}
use Rattle.coe_codec.specs.declared.message.CoeFault.TheVariants as coe_faults
use Rattle.coe_codec.specs.Fields.{service_in, opcode_in}
use Rattle.coe_codec.specs.Reading.{coe_read}
use Rattle.foe_codec.specs.declared.message.Foe.{Foe}
use Rattle.foe_codec.specs.declared.message.FoeFault.{FoeFault}
use Rattle.foe_codec.specs.declared.message.FoeFault.TheVariants as foe_faults
use Rattle.foe_codec.specs.Message.{foe_read}
use Rattle.soe_codec.specs.declared.message.Soe.{Soe}
use Rattle.soe_codec.specs.declared.message.SoeFault.{SoeFault}
use Rattle.soe_codec.specs.declared.message.SoeFault.TheVariants as soe_faults
use Rattle.soe_codec.specs.Message.{soe_read}
use Rattle.eoe.specs.declared.message.Eoe.{Eoe}
use Rattle.eoe.specs.declared.message.EoeFault.{EoeFault}
use Rattle.eoe.specs.declared.message.EoeFault.TheVariants as eoe_faults
use Rattle.eoe.specs.Message.{eoe_read}
use Rattle.capture_view.specs.Numbers.{hex_of}
use Rattle.capture_view.specs.Lines.{fault_line}

-- ---- CoE

-- the places of the faults in their order
abbrev pub coe_fault : CoeFault → ℕ
coe_fault coe_faults.Short = 1
coe_fault coe_faults.Service = 2
coe_fault coe_faults.Command = 3
coe_fault coe_faults.Size = 4

-- an SDO body's service and command
abbrev pub service_text : List ℕ → List ℕ
service_text body = codes "coe service " ++ (decimal (service_in body) ++ (codes " command " ++ hex_of 2 (slice_index body 2)))

-- an SDO segment, its request or its answer: service and command
abbrev pub segment_line : List ℕ → List ℕ
segment_line body = service_text body ++ codes "\n"

-- an SDO initiate, its answer or an abort: service and command, index and subindex
abbrev pub object_line : List ℕ → List ℕ
object_line body =
    service_text body ++ (codes " object " ++ (hex_of 4 (number_at 2 body 3) ++ (codes ":" ++ (hex_of 2 (slice_index body 5) ++ codes "\n"))))

-- an emergency: its error code
abbrev pub emergency_line : List ℕ → List ℕ
emergency_line body = codes "coe emergency " ++ (hex_of 4 (number_at 2 body 2) ++ codes "\n")

-- an information form: its opcode, and how many fragments are left
abbrev pub information_line : List ℕ → List ℕ
information_line body = codes "coe information opcode " ++ (decimal (opcode_in body) ++ (codes " left " ++ (decimal (number_at 2 body 4) ++ codes "\n")))

-- a CoE body by the form that it reads as
abbrev pub form_line : List ℕ → Coe → List ℕ
form_line body (messages.Emergency octets) = emergency_line body
form_line body (messages.Segment toggle last bytes) = segment_line body
form_line body (messages.SegmentAnswer toggle) = segment_line body
form_line body (messages.UploadSegment toggle) = segment_line body
form_line body (messages.UploadSegmentAnswer toggle last bytes) = segment_line body
form_line body (messages.ListRequest kind) = information_line body
form_line body (messages.ObjectRequest index) = information_line body
form_line body (messages.EntryRequest index sub info) = information_line body
form_line body (messages.Information opcode incomplete left bytes) = information_line body
form_line body (messages.InformationError code) = information_line body
form_line body _ = object_line body

-- a CoE body as it reads
abbrev pub coe_line : List ℕ → Result Coe CoeFault → List ℕ
coe_line body (Ok message) = form_line body message
coe_line body (Err fault) = fault_line (coe_fault fault)

-- ---- FoE

-- the places of the faults in their order
abbrev pub foe_fault : FoeFault → ℕ
foe_fault foe_faults.Short = 1
foe_fault foe_faults.Opcode = 2
foe_fault foe_faults.Name = 3

-- an FoE body: its opcode and its field of four octets
abbrev pub foe_line : List ℕ → Result Foe FoeFault → List ℕ
foe_line body (Ok message) = codes "foe opcode " ++ (decimal (slice_index body 0) ++ (codes " number " ++ (hex_of 8 (number_at 4 body 2) ++ codes "\n")))
foe_line body (Err fault) = fault_line (foe_fault fault)

-- ---- SoE

-- the places of the faults in their order
abbrev pub soe_fault : SoeFault → ℕ
soe_fault soe_faults.Short = 1
soe_fault soe_faults.Opcode = 2
soe_fault soe_faults.Incomplete = 3

-- an SoE body: its opcode, its drive, its element flags, and the IDN or the fragments that follow
abbrev pub soe_line : Result Soe SoeFault → List ℕ
soe_line (Ok s) =
    codes "soe opcode " ++ (decimal s.opcode ++ (codes " drive " ++ (decimal s.drive ++ (codes " elements " ++ (hex_of 2 s.elements
    ++ (codes " field " ++ (hex_of 4 s.field ++ codes "\n")))))))
soe_line (Err fault) = fault_line (soe_fault fault)

-- ---- EoE

-- the places of the faults in their order
abbrev pub eoe_fault : EoeFault → ℕ
eoe_fault eoe_faults.Short = 1
eoe_fault eoe_faults.WrongType = 2
eoe_fault eoe_faults.Offset = 3

-- the two words of an EoE body: type in bits 0 to 3 and last in bit 8 of the first, fragment number in bits 0 to 5 of the second
abbrev pub words_line : ℕ → ℕ → List ℕ
words_line first second =
    codes "eoe type " ++ (decimal (bits_of first 0 4) ++ (codes " last " ++ (decimal (bits_of first 8 1) ++ (codes " fragment " ++ (decimal (bits_of second 0 6)
    ++ (codes " second " ++ (hex_of 4 second ++ codes "\n")))))))

-- an EoE body as it reads
abbrev pub eoe_line : List ℕ → Result Eoe EoeFault → List ℕ
eoe_line body (Ok message) = words_line (number_at 2 body 0) (number_at 2 body 2)
eoe_line body (Err fault) = fault_line (eoe_fault fault)

-- ---- mailbox errors

-- whether a body is a mailbox error: four octets that begin with 01 00
abbrev pub is_error : List ℕ → Bool
is_error body = length body == 4 && (slice_index body 0 == 1 && slice_index body 1 == 0)

-- an error body: its detail, and no line where it has none
abbrev pub error_line : List ℕ → List ℕ
error_line body = if is_error body then codes "error detail " ++ (decimal (number_at 2 body 2) ++ codes "\n") else []

-- ---- all

-- the line of a mail's body; AoE and VoE have none
abbrev pub body_line : Kind → List ℕ → List ℕ
body_line kinds.Error body = error_line body
body_line kinds.AoE body = []
body_line kinds.EoE body = eoe_line body (eoe_read body)
body_line kinds.CoE body = coe_line body (coe_read body)
body_line kinds.FoE body = foe_line body (foe_read body)
body_line kinds.SoE body = soe_line (soe_read body)
body_line kinds.VoE body = []

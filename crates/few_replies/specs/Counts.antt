-- HOW MANY MAILS A SERVICE TAKES, by the octets that it moves and the lengths of the mailboxes.
use Rattle.std.specs.Prelude.{ℕ, ◌+◌, ◌*◌, ◌/◌, nat_le, if◌then◌else◌, false, length}
use Rattle.slave_parts.specs.of_eoe.Cutting.{blocks_of}
use Rattle.slave_parts.specs.of_exchange_model.Areas.{Areas}
use Rattle.slave_parts.specs.of_exchange_model.Exchange.{Exchange, given}
use Rattle.slave_parts.specs.of_protocol_models.Tables as Tables
use Rattle.slave_parts.specs.of_protocol_models.CoeMeaning as CoeMeaning
use Rattle.slave_parts.specs.of_protocol_models.CoeModel.{value_length}
use Rattle.slave_parts.specs.of_protocol_models.Files as Files
use Rattle.slave_parts.specs.of_protocol_models.FoeMeaning as FoeMeaning
use Rattle.slave_parts.specs.of_protocol_models.FoeModel.{read_length}
use Rattle.slave_parts.specs.of_protocol_models.Elements as Elements
use Rattle.slave_parts.specs.of_protocol_models.SoeClient as SoeClient
use Rattle.slave_parts.specs.of_protocol_models.EoeClient as EoeClient

-- the mails of a service at a server: those of its client, and those that the server gives
abbrev pub mails_between : {V A M Q R : Type 0} → Exchange V A M Q R → V → Q → ℕ
mails_between x v q = length (x.full v q) + length (given x.serve v (x.full v q))

-- the smaller of two mailboxes
abbrev pub smaller : Areas → ℕ
smaller areas = if nat_le areas.out areas.back then areas.out else areas.back

-- a third of it, which each mail with a part of a value holds at least, but for the last
abbrev pub third : Areas → ℕ
third areas = smaller areas / 3

-- the mails of so many octets, at most: a request and an answer for each third that is begun, and two before them
abbrev pub mails_within : Areas → ℕ → ℕ
mails_within areas octets = 2 + 2 * (octets / third areas + 1)

-- the octets that a service of CoE brings or takes
abbrev pub coe_octets : {S : Type 0} → Tables.Tables S → S → CoeMeaning.Service → ℕ
coe_octets o app (CoeMeaning.download t bytes) = length bytes
coe_octets o app (CoeMeaning.upload t) = value_length (o.upload app t)
coe_octets o app (CoeMeaning.information a) = value_length (o.info app a)

-- the octets of a file that is read or written
abbrev pub foe_octets : {S : Type 0} → Files.Files S → S → FoeMeaning.Service → ℕ
foe_octets o app (FoeMeaning.read name pass) = read_length (o.allowed app name pass false) (o.get app name)
foe_octets o app (FoeMeaning.write name pass bytes) = length bytes

-- how often a file that is written answers by busy
abbrev pub foe_busy : {S : Type 0} → Files.Files S → S → FoeMeaning.Service → ℕ
foe_busy o app (FoeMeaning.read name pass) = 0
foe_busy o app (FoeMeaning.write name pass bytes) = o.busy app name

-- the octets of an element that is read or written
abbrev pub soe_octets : {S : Type 0} → Elements.Elements S → S → SoeClient.Service → ℕ
soe_octets o app (SoeClient.read t) = value_length (o.read app t)
soe_octets o app (SoeClient.write t bytes) = length bytes

-- the mails of a service of EoE, but for what it emits
abbrev pub eoe_mails : EoeClient.Service → ℕ
eoe_mails (EoeClient.packet octets frame) = blocks_of (length octets)
eoe_mails (EoeClient.set_ip block) = 2
eoe_mails EoeClient.get_ip = 2

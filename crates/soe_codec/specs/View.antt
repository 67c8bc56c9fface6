-- An SoE message as it stands in a body.
use Rattle.std.specs.Prelude.{◌≤◌, length, Result, Ok, Err}
use Rattle.soe_codec.specs.declared.message.Soe.{Soe}
use Rattle.soe_codec.specs.declared.message.SoeFault.{SoeFault}
use Rattle.soe_codec.specs.declared.viewing.SoeView.{SoeView}

-- the message that is seen
abbrev pub soe_seen : SoeView → Soe
soe_seen v = record {
  opcode = v.opcode;
  incomplete = v.incomplete;
  error = v.error;
  drive = v.drive;
  elements = v.elements;
  field = v.field;
  bytes = record { items = v.bytes.now };
}

-- what a view of a body comes to
abbrev pub seen : Result SoeView SoeFault → Result Soe SoeFault
seen (Ok v) = Ok (soe_seen v)
seen (Err fault) = Err fault

-- its octets fit a body
abbrev pub IsCapped : SoeView → Type 0
IsCapped v = length v.bytes.now ≤ 1476

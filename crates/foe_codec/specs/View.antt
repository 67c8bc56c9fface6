-- An FoE message as it stands in a body.
use Rattle.std.specs.Prelude.{◌≤◌, length, Result, Ok, Err}
use Rattle.foe_codec.specs.declared.message.Foe.{Foe}
use Rattle.foe_codec.specs.declared.message.Foe.TheVariants.{Read, Write, Data, Ack, Error, Busy}
use Rattle.foe_codec.specs.declared.message.FoeFault.{FoeFault}
use Rattle.foe_codec.specs.declared.viewing.FoeView.{FoeView}
use Rattle.foe_codec.specs.declared.viewing.FoeView.TheVariants.{Read as VRead, Write as VWrite, Data as VData, Ack as VAck, Error as VError, Busy as VBusy}

-- the message that is seen
abbrev pub foe_seen : FoeView → Foe
foe_seen (VRead pass name) = Read pass (record { items = name.now })
foe_seen (VWrite pass name) = Write pass (record { items = name.now })
foe_seen (VData packet bytes) = Data packet (record { items = bytes.now })
foe_seen (VAck packet) = Ack packet
foe_seen (VError code) = Error code
foe_seen (VBusy done entire) = Busy done entire

-- what a view of a body comes to
abbrev pub seen : Result FoeView FoeFault → Result Foe FoeFault
seen (Ok v) = Ok (foe_seen v)
seen (Err fault) = Err fault

-- a name has at most 32 octets, and a packet at most 1,474
abbrev pub IsCapped : FoeView → Type 0
IsCapped (VRead pass name) = length name.now ≤ 32
IsCapped (VWrite pass name) = length name.now ≤ 32
IsCapped (VData packet bytes) = length bytes.now ≤ 1474
IsCapped _ = Unit {0}

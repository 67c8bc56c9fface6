use Rattle.std.proofs.Common.{rules, ◌≡◌, ◌<◌, ◌+◌, length, take, drop, refl, Ok}
use Rattle.capture_view.specs.View.{packets_lines}
use Rattle.capture_view.proofs.Packets.{packets_split, packets_more}
use Rattle.capture_view.proofs.Telling.{stops, goes_on}
use Rattle.capture_view.proofs.viewing.put_packets.Goals as goal

pub returns-in_err-put_packet : goal.returns-in_err-put_packet
returns-in_err-put_packet g c =
    let few : c.loop-number.number < length c.args.packets.now = search rules in
    let rest = packets_lines c.args.file.now c.args.nanos (c.loop-number.number + 1) (drop (c.loop-number.number + 1) c.args.packets.now) in
    goes_on (packets_lines c.args.file.now c.args.nanos 0 c.args.packets.now) c.loop-number.invariant refl
    (stops rest _ c.in_err-put_packet.field-0.0 c.from_residual.result c.put_packet.ensures (search rules) (search rules) refl)
    (packets_split c.args.file.now c.args.nanos c.args.packets.now c.loop-number.number _ few)

pub loop-number-preserved : goal.loop-number-preserved
loop-number-preserved g c =
    let few : c.loop-number.number < length c.args.packets.now = search rules in
    let ok : c.put_packet.result ≡ Ok tt = search rules in
    goes_on (packets_lines c.args.file.now c.args.nanos 0 (take (c.loop-number.number + 1) c.args.packets.now)) c.loop-number.invariant refl (rw ok at c.put_packet.ensures)
    (packets_more c.args.file.now c.args.nanos c.args.packets.now c.loop-number.number _ few)

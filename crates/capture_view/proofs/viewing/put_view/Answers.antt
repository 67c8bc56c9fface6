use Rattle.std.proofs.Common.{rules, ◌≡◌, ◌++◌, List, ℕ, length, sym, ap, ◌∙◌}
use Rattle.pcap_frames.specs.declared.capture.PacketAt.{PacketAt}
use Rattle.capture_view.specs.Lines.{packets_line}
use Rattle.capture_view.specs.View.{packets_lines, view_text}
use Rattle.capture_view.proofs.Telling.{stops, goes_on}
use Rattle.capture_view.proofs.viewing.put_view.Goals as goal

pub returns-in_err-put_packets : goal.returns-in_err-put_packets
returns-in_err-put_packets g c =
    let last = packets_line (length c.args.capture.now.packets) in
    stops last (view_text c.args.bytes.now c.args.capture.now) c.in_err-put_packets.field-0.0 c.from_residual.result c.put_packets.ensures (search rules) (search rules)
    (ap (λ (ps : List PacketAt). packets_lines c.args.bytes.now c.args.capture.now.nanos 0 ps ++ last) (sym c.as_slice-packets.ensures))

pub returns : goal.returns
returns g c =
    let last = packets_line (length c.args.capture.now.packets) in
    let line : last ≡ c.as_str.result.now = search rules in
    goes_on (view_text c.args.bytes.now c.args.capture.now) c.put_packets.ensures (search rules) c.put_line.ensures
    (ap (λ (ps : List PacketAt). packets_lines c.args.bytes.now c.args.capture.now.nanos 0 ps ++ last) (sym c.as_slice-packets.ensures)
    ∙ ap (λ (t : List ℕ). packets_lines c.args.bytes.now c.args.capture.now.nanos 0 c.as_slice-packets.result.now ++ t) line)

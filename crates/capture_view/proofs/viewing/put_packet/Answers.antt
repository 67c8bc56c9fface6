use Rattle.std.proofs.Common.{rules, ◌≡◌, ◌++◌, List, ℕ, ap, sym, ◌∙◌}
use Rattle.datagrams.specs.Frame.{frame_read}
use Rattle.capture_view.specs.Lines.{packet_line}
use Rattle.capture_view.specs.View.{octets_of, frame_lines, packet_lines}
use Rattle.capture_view.proofs.Telling.{stops, goes_on}
use Rattle.capture_view.proofs.viewing.put_packet.Goals as goal

pub returns-in_err-put_line : goal.returns-in_err-put_line
returns-in_err-put_line g c =
    let octets = octets_of c.args.file.now c.args.packet.now in
    let rest = frame_lines octets (frame_read octets) in
    let first : packet_line c.args.nanos c.args.number c.args.packet.now ≡ c.as_str.result.now = search rules in
    stops rest (packet_lines c.args.file.now c.args.nanos c.args.number c.args.packet.now) c.in_err-put_line.field-0.0 c.from_residual-in_err-put_line.result c.put_line.ensures
    (search rules) (search rules) (ap (λ (t : List ℕ). t ++ rest) first)

pub returns : goal.returns
returns g c =
    let octets = octets_of c.args.file.now c.args.packet.now in
    let rest = frame_lines octets (frame_read octets) in
    let first : packet_line c.args.nanos c.args.number c.args.packet.now ≡ c.as_str.result.now = search rules in
    goes_on (packet_lines c.args.file.now c.args.nanos c.args.number c.args.packet.now) c.put_line.ensures (search rules) c.put_frame.ensures
    (ap (λ (t : List ℕ). t ++ rest) first ∙ ap (λ (o : List ℕ). c.as_str.result.now ++ frame_lines o (frame_read o)) (sym c.octets_of.ensures))

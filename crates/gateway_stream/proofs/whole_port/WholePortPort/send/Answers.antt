use Rattle.std.proofs.Common.{◌≡◌, ◌∙◌, sym, [], true, false, rules}
use Rattle.gateway_stream.specs.Cutting.{is_request}
use Rattle.gateway_stream.specs.Sending.{has_failed}
use Rattle.gateway_stream.proofs.Heard.{loopback}
use Rattle.gateway_stream.proofs.Sent.{no_octets, sends_one, sends_part}
use Rattle.gateway_stream.proofs.whole_port.WholePortPort.send.Goals as goal

pub returns-then-has_failed-clause-sends : goal.returns-then-has_failed-clause-sends
returns-then-has_failed-clause-sends g c =
    let empty : c.is_empty.result ≡ true = search rules in
    let none : c.self.inside.failed.items ≡ [] = no_octets c.self.inside.failed.items (sym c.is_empty.ensures ∙ empty) in
    let peer : c.args.to ≡ loopback = search rules in
    let is : is_request c.args.bytes.now ≡ true = search rules in
    let cut : has_failed c.send-sent.result ≡ true = search rules in
    rw (← c.self.view_is, none, peer, c.refill.ensures) (sends_part (g.L.Link.sent c.self.inside.port.link) (g.L.Link.sent c.send-sent.new.self.link) c.args.bytes.now c.send-sent.result is cut c.send-sent.ensures.puts)

pub returns-else-has_failed-clause-sends : goal.returns-else-has_failed-clause-sends
returns-else-has_failed-clause-sends g c =
    let empty : c.is_empty.result ≡ true = search rules in
    let none : c.self.inside.failed.items ≡ [] = no_octets c.self.inside.failed.items (sym c.is_empty.ensures ∙ empty) in
    let peer : c.args.to ≡ loopback = search rules in
    let is : is_request c.args.bytes.now ≡ true = search rules in
    let whole : has_failed c.send-sent.result ≡ false = search rules in
    rw (← c.self.view_is, none, peer) (sends_one (g.L.Link.sent c.self.inside.port.link) (g.L.Link.sent c.send-sent.new.self.link) c.args.bytes.now c.send-sent.result is whole c.send-sent.ensures.puts)

use Rattle.std.proofs.Common.{◌≡◌, ◌≤◌, ◌||◌, [], length, Ok}
use Rattle.ec_links.specs.of_ec_outside.Port.{Hears}
use Rattle.ec_links.specs.of_ec_outside.declared.port.Heard.TheVariants.{Quiet}
use Rattle.gateway_stream.specs.Hearing.{heard_of, is_broken}
use Rattle.gateway_stream.proofs.Asked.{AskedFew}
use Rattle.gateway_stream.proofs.stream.StreamPort.hear.Given as goal

abbrev pub invariant-loop : goal.invariant-loop
invariant-loop g l = record {
  heard : Hears (heard_of (g.L.Link.given l.fn.self.link) l.fn.self.kept.items) (heard_of (g.L.Link.given l.self.link) l.self.kept.items) [] (Ok Quiet);
  blank : l.into.items ≡ [];
  over : (g.L.Link.over l.self.link || is_broken l.self.kept.items) ≡ (g.L.Link.over l.fn.self.link || is_broken l.fn.self.kept.items);
  sent : g.L.Link.sent l.self.link ≡ g.L.Link.sent l.fn.self.link;
  later : g.L.Link.link_faults l.fn.self.link ≤ g.L.Link.link_faults l.self.link;
  more : l.counter ≤ length l.self.kept.items;
  few : l.counter ≤ 2047;
  asked : AskedFew (g.L.Link.asked l.fn.self.link) (g.L.Link.asked l.self.link) l.counter;
  same : is_broken l.self.kept.items ≡ is_broken l.fn.self.kept.items;
}

use Rattle.std.proofs.Common.{◌≡◌, ◌≤◌, ◌<◌, [], length}
use Rattle.std.specs.Prelude.{None}
use Rattle.gateway_tool.specs.Rule.{Call}
use Rattle.gateway_tool.specs.Told.{Told, told}
use Rattle.gateway_tool.specs.Client.{left, awaits}
use Rattle.gateway_tool.specs.Talk.{Goes, most_left}
use Rattle.gateway_tool.proofs.talk.Talk.go_on.Given as goal

abbrev pub invariant-loop-self : goal.invariant-loop-self
invariant-loop-self g l = record {
  goes : (c : Call) (first : Told) → Goes c first (told g.P.Port.heard g.P.Port.sent g.P.Port.over g.P.Port.port_faults l.fn.port) l.fn.self → Goes c first (told g.P.Port.heard g.P.Port.sent g.P.Port.over g.P.Port.port_faults l.port) l.self;
  few : length (left l.self.client []) ≤ 1;
  quiet : 0 < l.self.passed → left l.self.client [] ≡ [];
  waits : awaits l.self.client [] ≡ None;
  over : g.P.Port.over l.port ≡ g.P.Port.over l.fn.port;
}

abbrev pub decreases-loop-self : goal.decreases-loop-self
decreases-loop-self g l = most_left l.self

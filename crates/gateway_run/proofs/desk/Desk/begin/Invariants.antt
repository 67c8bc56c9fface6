use Rattle.std.proofs.Common.{◌≡◌}
use Rattle.gateway_run.proofs.Accounts.{NoneWaits}
use Rattle.gateway_run.proofs.desk.Desk.begin.Given as goal

abbrev pub invariant-loop-at : goal.invariant-loop-at
invariant-loop-at l = record {
  same : l.self ≡ l.fn.self;
  none : NoneWaits l.slave l.at l.self.requests.items;
}

use Rattle.std.proofs.Common.{◌≡◌, drop}
use Rattle.gateway_core.specs.Gateway.{place_from}
use Rattle.gateway_core.proofs.gateway.place_of.Given as goal

abbrev pub invariant-loop-at : goal.invariant-loop-at
invariant-loop-at l = place_from l.at l.station (drop l.at l.stations) ≡ place_from 0 l.station l.stations

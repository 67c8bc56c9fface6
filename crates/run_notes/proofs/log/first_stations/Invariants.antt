use Rattle.std.proofs.Common.{◌≡◌, ◌++◌, drop, map, Some}
use Rattle.run_notes.proofs.log.first_stations.Given as goal

abbrev pub invariant-loop-home : goal.invariant-loop-home
invariant-loop-home l = l.stations ++ map Some (drop l.home-index l.homes) ≡ map Some l.homes

use Rattle.std.proofs.Common.{◌≡◌, map, take}
use Rattle.ecmbx_call.specs.Audits.{line_of}
use Rattle.ecmbx_call.proofs.auditing.station_lines.Given as goal

abbrev pub invariant-loop-row : goal.invariant-loop-row
invariant-loop-row l = l.lines ≡ map line_of (take l.row-index l.stations)

use Rattle.std.proofs.Common.{length, ◌-◌, ◌≤◌}
use Rattle.capture_records.proofs.Steps.{IsReading}
use Rattle.capture_records.proofs.records.read_plain.Given as goal

abbrev pub invariant-packets : goal.invariant-packets
invariant-packets l = record { inside : l.at ≤ length l.bytes; reading : IsReading l.form l.bytes l.begin l.packets l.at }

abbrev pub decreases-packets : goal.decreases-packets
decreases-packets l = length l.bytes - l.at

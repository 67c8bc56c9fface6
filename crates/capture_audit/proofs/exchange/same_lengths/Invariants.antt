use Rattle.std.proofs.Common.{◌≡◌, drop, length}
use Rattle.capture_audit.specs.Exchanges.{same_lengths}
use Rattle.capture_audit.proofs.exchange.same_lengths.Given as goal

abbrev pub invariant-loop-place : goal.invariant-loop-place
invariant-loop-place l = (length l.sent ≡ length l.back) × (same_lengths l.sent l.back ≡ same_lengths (drop l.place l.sent) (drop l.place l.back))

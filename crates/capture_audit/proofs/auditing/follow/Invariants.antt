use Rattle.std.proofs.Common.{◌≡◌, drop}
use Rattle.std.specs.Prelude.{option_map}
use Rattle.capture_audit.specs.Exchanges.{datagrams_of}
use Rattle.capture_audit.specs.Seen.{found_seen}
use Rattle.capture_audit.specs.Audit.{judged}
use Rattle.capture_audit.proofs.auditing.follow.Given as goal

abbrev pub invariant-loop-place : goal.invariant-loop-place
invariant-loop-place l =
    judged l.fn.known (datagrams_of (option_map found_seen l.back) l.sent.octets.now 0 l.sent.parts.now)
    ≡ judged l.known (datagrams_of (option_map found_seen l.back) l.sent.octets.now l.place (drop l.place l.sent.parts.now))

use Rattle.std.proofs.Common.{◌≡◌, false, drop}
use Rattle.capture_audit.specs.Exchanges.{exchanges}
use Rattle.capture_audit.specs.Audit.{first_known, judged_all}
use Rattle.capture_audit.proofs.auditing.audit_packets.Given as goal

abbrev pub invariant-loop-number : goal.invariant-loop-number
invariant-loop-number l =
    judged_all first_known (exchanges l.file false 0 l.packets) ≡ judged_all l.known (exchanges l.file l.used l.number (drop l.number l.packets))

use Rattle.std.proofs.Common.{◌≡◌, rules, true, Bool, drop, ap, ◌∙◌}
use Rattle.capture_audit.specs.Exchanges.{exchanges}
use Rattle.capture_audit.specs.Audit.{judged_all}
use Rattle.capture_audit.proofs.Walk.{used_up}
use Rattle.capture_audit.proofs.auditing.audit_packets.Goals as goal

pub loop-number-preserved-then-used : goal.loop-number-preserved-then-used
loop-number-preserved-then-used c =
    let was : c.loop-number.used ≡ true = search rules in
    c.loop-number.invariant
    ∙ ap (λ (u : Bool). judged_all c.loop-number.known (exchanges c.args.file.now u c.loop-number.number (drop c.loop-number.number c.args.packets.now))) was
    ∙ ap (judged_all c.loop-number.known) (used_up c.args.file.now c.loop-number.number c.loop-number.number c.args.packets.now)

use Rattle.std.proofs.Common.{rules}
use Rattle.capture_audit.proofs.Frames.{lengths_differ}
use Rattle.capture_audit.proofs.exchange.same_lengths.Goals as goal

pub returns-then-sent-back : goal.returns-then-sent-back
returns-then-sent-back c = lengths_differ c.args.sent.now c.args.back.now (λ same. search rules)

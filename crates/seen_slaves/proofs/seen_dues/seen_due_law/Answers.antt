use Rattle.seen_slaves.proofs.Seen.{seen_due}
use Rattle.seen_slaves.proofs.seen_dues.seen_due_law.Goals as goal

pub returns : goal.returns
returns g c = λ w k hears fair u processor seer table spot run opened v r plan answers fs counts e n led. seen_due w k hears fair u processor seer table spot run opened v r plan answers fs counts e n led

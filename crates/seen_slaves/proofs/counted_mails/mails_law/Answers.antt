use Rattle.seen_slaves.proofs.Steps.{mail_step}
use Rattle.seen_slaves.proofs.counted_mails.mails_law.Goals as goal

pub returns : goal.returns
returns g c = λ o p al j b. mail_step o p al j b

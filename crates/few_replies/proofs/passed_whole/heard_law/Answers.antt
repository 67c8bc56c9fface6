-- The lemmas on awaited mails, at the types of the function.
use Rattle.few_replies.proofs.Turns
use Rattle.few_replies.proofs.passed_whole.heard_law.Goals as goal

pub returns : goal.returns
returns g c = λ x law acknowledged processor more passed spot opened v r fs counts e n led. Turns.heard_law x law acknowledged processor more passed spot opened v r fs counts e n led

-- The lemmas on mails without a reply, at the types of the function.
use Rattle.few_replies.proofs.Silences
use Rattle.few_replies.proofs.passed_whole.silent_law.Goals as goal

pub returns-clause-silent : goal.returns-clause-silent
returns-clause-silent g c = λ x core law order acknowledged processor more spot opened v r fs counts e n led. Silences.silent x order core law acknowledged processor more spot opened v r fs counts e n led

pub returns-clause-whole : goal.returns-clause-whole
returns-clause-whole g c = λ x w r m answers is right row. Silences.whole x w r m answers is right row

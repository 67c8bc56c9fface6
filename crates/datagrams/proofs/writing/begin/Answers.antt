use Rattle.datagrams.proofs.Drafting.{draft_begun}
use Rattle.datagrams.proofs.writing.begin.Goals as goal

pub returns-clause-draft : goal.returns-clause-draft
returns-clause-draft c = (draft_begun _ c.begin_plain.ensures.begun).1

pub returns-clause-none : goal.returns-clause-none
returns-clause-none c = (draft_begun _ c.begin_plain.ensures.begun).0

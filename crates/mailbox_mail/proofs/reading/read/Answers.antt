use Rattle.std.proofs.Common.{◌∙◌}
use Rattle.mailbox_mail.proofs.Laws.{read-found, read-only, read-exact}
use Rattle.mailbox_mail.proofs.reading.read.Goals as goal

pub returns-clause-found : goal.returns-clause-found
returns-clause-found c = rw c.read_parts.ensures (read-found c.args.area.now (λ i. (c.type_inv.area i).fits))

pub returns-clause-only : goal.returns-clause-only
returns-clause-only c = λ mail spelled. c.read_parts.ensures ∙ read-only c.args.area.now mail spelled

pub returns-clause-exact : goal.returns-clause-exact
returns-clause-exact c = rw c.read_parts.ensures (read-exact c.args.area.now)

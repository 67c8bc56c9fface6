-- The first of many zeros are zeros.
use Rattle.std.proofs.Common.{◌∙◌}
use Rattle.std.proofs.lemmas.List.{take-replicate}
use Rattle.mailbox_master.proofs.access.fill_blank.Goals as goal

pub returns : goal.returns
returns c = c.buffer_of.ensures ∙ take-replicate c.args.len 1486 0 c.requires

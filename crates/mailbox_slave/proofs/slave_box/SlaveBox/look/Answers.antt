-- What step 1 keeps fits as before.
use Rattle.mailbox_slave.specs.Registers.{in_len}
use Rattle.mailbox_slave.proofs.slave_box.SlaveBox.look.Goals as goal

pub repeat-requires : goal.repeat-requires
repeat-requires c = c.notice.ensures.kept (in_len c.args.esc.now) c.requires

pub returns-else-repeat_asked-clause-kept : goal.returns-else-repeat_asked-clause-kept
returns-else-repeat_asked-clause-kept c = c.notice.ensures.kept (in_len c.args.esc.now) c.requires

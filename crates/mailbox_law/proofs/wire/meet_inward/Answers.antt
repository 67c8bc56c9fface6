-- By the state of the half.
use Rattle.std.proofs.Common.{length}
use Rattle.mailbox_law.proofs.Meetings.{meets_half}
use Rattle.mailbox_law.proofs.wire.meet_inward.Goals as goal

pub returns : goal.returns
returns c =
    meets_half (length c.args.esc.now.out_manager.area) c.args.half.now c.args.esc.now (record { registers = c.send_inward.new.esc; head = c.send_inward.result; body = c.send_inward.new.body.items }) c.requires.linked c.requires.readable c.send_inward.ensures

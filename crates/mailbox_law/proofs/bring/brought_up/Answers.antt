-- Access by access.
use Rattle.mailbox_law.proofs.Brought.{linked_behind}
use Rattle.mailbox_law.proofs.bring.brought_up.Goals as goal

pub returns-clause-linked : goal.returns-clause-linked
returns-clause-linked c =
    linked_behind c.args.out_len c.args.in_len c.in_ok-esc.esc c.carry_out.new.esc c.carry_out-2.new.esc c.carry_out-3.new.esc c.bring_new-up.result c.carry_out.new.up c.carry_out-2.new.up c.ranges.out_len.fits c.ranges.in_len.fits c.in_ok-esc.ensures c.bring_new-up.ensures c.carry_out.ensures.registers c.carry_out.ensures.goes_on c.carry_out-2.ensures.registers c.carry_out-2.ensures.goes_on c.carry_out-3.ensures.registers

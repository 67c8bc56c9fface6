use Rattle.std.proofs.Common.{length, drop, ◌-◌}
use Rattle.al_state.specs.of_datagrams.Frame.{part_at}
use Rattle.mailbox_slave.specs.of_esc_registers.Access.{KeepsLengths}
use Rattle.slave_node.proofs.Passes.{AllPassing}
use Rattle.slave_node.proofs.frame_pass.pass_parts.Given as goal

abbrev pub invariant-datagrams : goal.invariant-datagrams
invariant-datagrams l = AllPassing l.initial.esc l.esc l.initial.frame.items l.frame.items (part_at l.at (drop l.at l.frame.items)) × KeepsLengths l.initial.esc l.esc

abbrev pub decreases-datagrams : goal.decreases-datagrams
decreases-datagrams l = length l.initial.frame.items - l.at

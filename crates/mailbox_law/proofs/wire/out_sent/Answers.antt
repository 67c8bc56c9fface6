-- Mailbox 0 met the write, whether it returned or not.
use Rattle.std.proofs.Common.{ap, sym, ◌∙◌}
use Rattle.mailbox_master.specs.of_link_model.Link.{out_side_after}
use Rattle.mailbox_slave.specs.Registers.{out_box}
use Rattle.mailbox_slave.specs.Node.{out_side}
use Rattle.mailbox_master.specs.Any.{out_half_of}
use Rattle.mailbox_law.specs.Steps.{fate_of}
use Rattle.mailbox_law.proofs.Meetings.{out_met}
use Rattle.mailbox_law.proofs.wire.out_sent.Goals as goal

pub returns-in-LostBehind-clause-out : goal.returns-in-LostBehind-clause-out
returns-in-LostBehind-clause-out c = λ k.
    let s = out_side k c.args.esc.now in
    let holding = (out_half_of c.args.half).holding in
    let box = out_box c.args.esc.now in
    c.meet_outward.ensures.out k ∙ out_met s holding box ∙ sym (ap (λ fate. out_side_after s holding box (fate_of fate)) c.in-LostBehind.is)

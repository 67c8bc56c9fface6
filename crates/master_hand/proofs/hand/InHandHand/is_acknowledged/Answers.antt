use Rattle.std.proofs.Common.{sym, ◌∙◌}
use Rattle.master_hand.proofs.Hands.{refused_acknowledged}
use Rattle.master_hand.proofs.Knowing.{delivered_idle}
use Rattle.master_hand.proofs.hand.InHandHand.is_acknowledged.Goals as goal

pub returns-then-not-is_delivered-clause-done : goal.returns-then-not-is_delivered-clause-done
returns-then-not-is_delivered-clause-done c = λ x d k i h.
    let old = c.args.self.now in
    refused_acknowledged old.course old.which old.clients x d c.in-Answered.is (sym c.is_delivered.ensures ∙ c.if-not-is_delivered.true) h

pub returns-else-not-is_delivered-clause-sure : goal.returns-else-not-is_delivered-clause-sure
returns-else-not-is_delivered-clause-sure c = λ x d k i h e.
    let old = c.args.self.now in
    delivered_idle old.course old.which old.clients c.args.idle x d c.in-Answered.is (sym c.is_delivered.ensures ∙ c.if-not-is_delivered.false) i h e

use Rattle.std.proofs.Common.{refl, sym, ◌∙◌}
use Rattle.master_node.proofs.Says.{value_waits, waits_by}
use Rattle.master_node.proofs.told.told_of.Goals as goal

pub returns-then-not-is_answered-clause-told : goal.returns-then-not-is_answered-clause-told
returns-then-not-is_answered-clause-told c = λ x now h. let hand = c.args.hand.now in waits_by hand.course hand.which hand.clients x now (sym c.is_answered.ensures ∙ c.if-not-is_answered.true) h

pub returns-then-not-is_answered-clause-value : goal.returns-then-not-is_answered-clause-value
returns-then-not-is_answered-clause-value c = λ x now h.
    let hand = c.args.hand.now in
    value_waits hand.course hand.which hand.clients x now c.args.into.now c.args.into.now (sym c.is_answered.ensures ∙ c.if-not-is_answered.true) h refl

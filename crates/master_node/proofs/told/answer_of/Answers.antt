use Rattle.std.proofs.Common.{refl}
use Rattle.master_node.proofs.Says.{told_answer, told_passed, value_answer, value_passed}
use Rattle.master_node.proofs.told.answer_of.Goals as goal

pub returns-clause-told : goal.returns-clause-told
returns-clause-told c = λ x now h.
    let hand = c.args.hand.now in
    told_answer hand.course hand.which hand.clients c.in-Some.kind c.args.into.now c.value.new.into c.requires (c.in_ok-value.ensures.ok c.requires) (λ y other row a s e f. c.in-Some.ensures.told y other row a s e f) x now h

pub returns-in_default-clause-told : goal.returns-in_default-clause-told
returns-in_default-clause-told c = λ x now h.
    let hand = c.args.hand.now in
    told_passed hand.course hand.which hand.clients x now c.requires (c.answer.ensures.none c.in_default.is c.requires) h

pub returns-clause-value : goal.returns-clause-value
returns-clause-value c = λ x now h.
    let hand = c.args.hand.now in
    value_answer hand.course hand.which hand.clients c.in-Some.kind c.args.into.now c.value.new.into c.requires (c.in_ok-value.ensures.ok c.requires) (λ y other row a s e f. c.in-Some.ensures.told y other row a s e f) x now h

pub returns-in_default-clause-value : goal.returns-in_default-clause-value
returns-in_default-clause-value c = λ x now h.
    let hand = c.args.hand.now in
    value_passed hand.course hand.which hand.clients x now c.args.into.now c.args.into.now c.requires (c.answer.ensures.none c.in_default.is c.requires) h refl

use Rattle.std.proofs.Common.{◌∙◌, ap, arith}
use Rattle.master_side.specs.Recall.{recall_by}
use Rattle.master_side.specs.Sent.{gram_len}
use Rattle.master_side.proofs.Agains.{holds_again, holds_len, again_len}
use Rattle.master_side.proofs.side.Side.ahead.Goals as goal

pub returns-in_default-clause-again : goal.returns-in_default-clause-again
returns-in_default-clause-again g c = λ r.
    let on = c.hold_next.ensures.on in
    let m = c.hold_next.new.self in
    let again = holds_again c.args.self.now m on r in
    let len = holds_len c.args.self.now m on in
    let same = c.len_of.ensures.is ∙ ap (gram_len m.out m.inn) c.choice.ensures ∙ again_len m again ∙ len in
    (again, len, omega (arith, same))

pub returns-in_default-clause-recalled : goal.returns-in_default-clause-recalled
returns-in_default-clause-recalled g c =
    let on = c.hold_next.ensures.on in
    λ i. recall_by (on.paused i) (on.duty i) (on.passing i) (on.turn i) (c.hold_next.ensures.knows i)

use Rattle.std.proofs.Common.{◌≡◌, ◌<◌, ◌≤◌, ◌∙◌, ◌++◌, true, false, length, ap, sym, arith}
use Rattle.life_runs.specs.of_life_model.Lives.{Stand}
use Rattle.life_runs.specs.Led.{speech_at}
use Rattle.master_node.specs.Shows.{IsLived}
use Rattle.master_node.specs.Told.{has_value, value_in}
use Rattle.master_node.proofs.Says.{answer_here, answer_out, both_here, lived_open}
use Rattle.master_node.proofs.node.MasterNode.value.Goals as goal
use Rattle.master_node.proofs.node.MasterNode.value.Goals.{then-place-len-via-then-place-len, then-place-len-via-else-place-len+then-place-len-2}

pub returns-then-place-len-clause-value : goal.returns-then-place-len-clause-value
returns-then-place-len-clause-value c = λ e lens recover as' x.
    let m = c.args.self.now in
    let out : length m.posts.items ≤ c.args.slave =
    elim c.then-place-len.branch [
      | then-place-len-via-then-place-len w ↦ (let a = c.len.ensures in let b = w.if-place-len.true in omega (arith, a, b, m.posts.ok.0))
      | then-place-len-via-else-place-len+then-place-len-2 w ↦ (let a = w.len-else-place-len.ensures in let b = w.if-place-len-2.true in omega (arith, a, b, m.paired, m.posts.ok.0, m.tour.stops.ok.0))
    ] in
    absurd (let bad : false ≡ true = sym (ap has_value (answer_out m.posts.items c.args.slave out)) ∙ e in cc)

pub returns-then-not-has_value-clause-value : goal.returns-then-not-has_value-clause-value
returns-then-not-has_value-clause-value c = λ e lens recover as' x.
    let m = c.args.self.now in
    let l : c.args.slave < length m.posts.items = (let a = c.len.ensures in let b = c.if-place-len.false in omega (arith, a, b, m.posts.ok.0)) in
    absurd (let bad : false ≡ true = sym c.if-not-has_value.true ∙ c.has_value.ensures ∙ sym (ap has_value (answer_here m.posts.items c.args.slave c.index.result.now l c.index.ensures)) ∙ e in cc)

pub returns-clause-none : goal.returns-clause-none
returns-clause-none c = λ no.
    let m = c.args.self.now in
    let l : c.args.slave < length m.posts.items = (let a = c.len.ensures in let b = c.if-place-len.false in omega (arith, a, b, m.posts.ok.0)) in
    absurd (let bad : false ≡ true = sym no ∙ ap has_value (answer_here m.posts.items c.args.slave c.index.result.now l c.index.ensures) ∙ sym c.has_value.ensures ∙ c.if-not-has_value.false in cc)

pub returns-clause-value : goal.returns-clause-value
returns-clause-value c = λ e lens recover as' x.
    let m = c.args.self.now in
    let l : c.args.slave < length m.tour.stops.items = (let a = c.len-else-place-len.ensures in let b = c.if-place-len-2.false in omega (arith, a, b, m.tour.stops.ok.0)) in
    both_here (λ a s. IsLived lens recover a s) (λ a. a.life.stand ≡ Stand.Open → c.told_of.new.into ≡ c.args.into.now ++ value_in a.life.era.side.now) as' m.tour.stops.items c.args.slave c.index-2.result.now x l c.index-2.ensures
    (λ a p o. c.in_ok-told_of.ensures.value (speech_at lens a.spot) a.life.era.side.now (lived_open lens recover a c.index-2.result.now p o).row)

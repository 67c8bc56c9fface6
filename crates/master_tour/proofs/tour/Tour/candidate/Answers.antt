use Rattle.std.proofs.Common.{◌≡◌, length, true, false, sym, ◌∙◌, arith}
use Rattle.master_tour.specs.Goes.{is_live, holds_at}
use Rattle.master_tour.proofs.Firsts.{again_order, first_order, later_order, first_none, later_none}
use Rattle.master_tour.proofs.Orders.{again_next, first_of, round_of}
use Rattle.master_tour.proofs.tour.Tour.candidate.Goals as goal

pub returns-then-self-clause-left : goal.returns-then-self-clause-left
returns-then-self-clause-left g c = λ p e o.
    let t = c.args.self.now in
    again_next t.again t.visit.items t.opened (length t.stops.items) t.last t.passed c.carried_again.new.self.passed p c.if-self.true o (c.carried_again.ensures.left p e)

pub returns-then-self-len-clause-left : goal.returns-then-self-len-clause-left
returns-then-self-len-clause-left g c = λ p e o.
    let t = c.args.self.now in
    let len = c.len.ensures ∙ t.stops.ok.0 in
    let test = c.if-self-len.true in
    first_of t.again t.visit.items t.opened (length t.stops.items) t.last t.passed c.brought_up.new.self.passed p c.if-self.false (omega (arith, len, test)) (c.brought_up.ensures.left p e)

pub returns-clause-left : goal.returns-clause-left
returns-clause-left g c = λ p e o.
    let t = c.args.self.now in
    let len = c.len.ensures ∙ t.stops.ok.0 in
    let test = c.if-self-len.false in
    round_of t.again t.visit.items t.opened (length t.stops.items) t.last t.passed c.next_in_round.new.self.passed p c.if-self.false (omega (arith, len, test)) (c.next_in_round.ensures.left p e)

pub returns-then-self-clause-order : goal.returns-then-self-clause-order
returns-then-self-clause-order g c = λ p e.
    let t = c.args.self.now in
    let o = c.carried_again.ensures.order p e in
    let n = o.0 in
    (omega (arith, n), again_order (λ k. holds_at (λ s. is_live s.stand) t.stops.items k) t.again t.visit.items t.opened (length t.stops.items) t.last t.passed c.carried_again.new.self.passed p c.if-self.true o.1)

pub returns-then-self-clause-none : goal.returns-then-self-clause-none
returns-then-self-clause-none g c = λ e n. absurd (let w : true ≡ false = sym c.if-self.true ∙ n in cc)

pub returns-then-self-len-clause-order : goal.returns-then-self-len-clause-order
returns-then-self-len-clause-order g c = λ p e.
    let t = c.args.self.now in
    let len = c.len.ensures ∙ t.stops.ok.0 in
    let test = c.if-self-len.true in
    let o = c.brought_up.ensures.order p e in
    let n = o.0 in
    (omega (arith, n), first_order (λ k. holds_at (λ s. is_live s.stand) t.stops.items k) t.again t.visit.items t.opened (length t.stops.items) t.last t.passed c.brought_up.new.self.passed p c.if-self.false (omega (arith, len, test)) o.1)

pub returns-then-self-len-clause-none : goal.returns-then-self-len-clause-none
returns-then-self-len-clause-none g c = λ e n.
    let t = c.args.self.now in
    let len = c.len.ensures ∙ t.stops.ok.0 in
    let test = c.if-self-len.true in
    first_none (λ k. holds_at (λ s. is_live s.stand) t.stops.items k) t.again t.visit.items t.opened (length t.stops.items) t.last t.passed c.if-self.false (omega (arith, len, test)) (c.brought_up.ensures.none e)

pub returns-clause-order : goal.returns-clause-order
returns-clause-order g c = λ p e.
    let t = c.args.self.now in
    let len = c.len.ensures ∙ t.stops.ok.0 in
    let test = c.if-self-len.false in
    let o = c.next_in_round.ensures.order p e in
    (o.0, later_order (λ k. holds_at (λ s. is_live s.stand) t.stops.items k) t.again t.visit.items t.opened (length t.stops.items) t.last t.passed c.next_in_round.new.self.passed p c.if-self.false (omega (arith, len, test)) o.1)

pub returns-clause-none : goal.returns-clause-none
returns-clause-none g c = λ e n.
    let t = c.args.self.now in
    let len = c.len.ensures ∙ t.stops.ok.0 in
    let test = c.if-self-len.false in
    later_none (λ k. holds_at (λ s. is_live s.stand) t.stops.items k) t.again t.visit.items t.opened (length t.stops.items) t.last t.passed c.if-self.false (omega (arith, len, test)) (c.next_in_round.ensures.none e)

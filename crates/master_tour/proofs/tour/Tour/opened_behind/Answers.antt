use Rattle.std.proofs.Common.{◌<◌, length, sym, ◌∙◌, arith}
use Rattle.master_tour.specs.Goes.{is_opened}
use Rattle.master_tour.proofs.Goes.{holds_here, opened_more, opened_here, opened_out}
use Rattle.master_tour.proofs.tour.Tour.opened_behind.Goals as goal

pub returns-then-self-len : goal.returns-then-self-len
returns-then-self-len g c =
    let t = c.args.self.now in
    let n = c.len.ensures ∙ t.stops.ok.0 in
    let test = c.if-self-len.true in
    sym (opened_out (λ s. is_opened s.stand) t.opened t.stops.items (omega (arith, n, test)))

pub returns-then-is_opened : goal.returns-then-is_opened
returns-then-is_opened g c =
    let t = c.args.self.now in
    let n = c.len.ensures ∙ t.stops.ok.0 in
    let test = c.if-self-len.false in
    let l : t.opened < length t.stops.items = omega (arith, n, test) in
    let here = holds_here (λ s. is_opened s.stand) t.stops.items t.opened c.index.result.now l c.index.ensures in
    sym (opened_here (λ s. is_opened s.stand) t.opened t.stops.items l (sym here ∙ sym c.is_opened.ensures ∙ c.if-is_opened.true))

pub returns-else-is_opened : goal.returns-else-is_opened
returns-else-is_opened g c =
    let t = c.args.self.now in
    let n = c.len.ensures ∙ t.stops.ok.0 in
    let test = c.if-self-len.false in
    let l : t.opened < length t.stops.items = omega (arith, n, test) in
    let here = holds_here (λ s. is_opened s.stand) t.stops.items t.opened c.index.result.now l c.index.ensures in
    sym (opened_more (λ s. is_opened s.stand) t.opened t.stops.items l (sym here ∙ sym c.is_opened.ensures ∙ c.if-is_opened.false))

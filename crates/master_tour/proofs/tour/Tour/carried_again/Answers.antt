use Rattle.std.proofs.Common.{◌≡◌, ◌<◌, length, get_or, sym, ap, ◌∙◌, subst, arith, true}
use Rattle.std.proofs.lemmas.Bool.{ltb-true}
use Rattle.master_tour.specs.Goes.{is_live, holds_at}
use Rattle.master_tour.proofs.Goes.{begins_at, holds_inside}
use Rattle.master_tour.proofs.Orders.{list_next}
use Rattle.master_tour.proofs.tour.Tour.carried_again.Goals as goal

pub returns-then-place-len-clause-left : goal.returns-then-place-len-clause-left
returns-then-place-len-clause-left g c = λ p e o.
    let t = c.args.self.now in
    let place = c.in_ok-place.field-0.now in
    let l = c.in_ok-place.ensures.lookup in
    let items = c.deref.ensures.0 in
    let same : place ≡ p = cc in
    list_next t.visit.items t.passed _ p place (omega arith) (subst (λ z. t.passed < length z) items (ltb-true t.passed (length c.deref.result.now) (sym l.0))) (sym same ∙ l.1 ∙ ap (λ z. get_or z t.passed place) items) o

pub returns-else-place-len-clause-first : goal.returns-else-place-len-clause-first
returns-else-place-len-clause-first g c = λ z b.
    let t = c.args.self.now in
    let place = c.in_ok-place.field-0.now in
    let items = c.deref.ensures.0 in
    let l = c.in_ok-place.ensures.lookup in
    let at = begins_at (λ s. is_live s.stand) t.visit.items t.opened t.stops.items t.passed place z b in
    let here = l.1 ∙ ap (λ w. get_or w t.passed place) items in
    let inside = holds_inside (λ s. is_live s.stand) t.stops.items place (subst (λ w. holds_at (λ s. is_live s.stand) t.stops.items w ≡ true) (sym here) at) in
    let n = c.len.ensures ∙ t.stops.ok.0 in
    let test = c.if-place-len.false in
    omega (arith, inside, n, test)

use Rattle.std.proofs.Common.{◌≡◌, length, sym, ◌∙◌, refl, true, false, None, arith}
use Rattle.master_tour.specs.Goes.{is_live, holds_at}
use Rattle.master_tour.proofs.Goes.{none_in_round}
use Rattle.master_tour.specs.Orders.{start_of}
use Rattle.master_tour.proofs.Orders.{round_next, start_low}
use Rattle.master_tour.proofs.Firsts.{round_order, round_none}
use Rattle.master_tour.proofs.tour.Tour.next_in_round.Goals as goal

pub returns-clause-left : goal.returns-clause-left
returns-clause-left g c = λ p e.
    let count = length c.args.self.now.stops.items in
    let last = c.args.self.now.last in
    let same : c.place_of.result ≡ p = cc in
    round_next (start_of count last) count c.args.self.now.passed _ c.in_ok-k.k p (start_low count last) c.in_ok-k.ensures.later c.in_ok-k.ensures.inside refl (sym same ∙ c.place_of.ensures.is)

pub returns-in_err-k-clause-first : goal.returns-in_err-k-clause-first
returns-in_err-k-clause-first g c = λ z some.
    let t = c.args.self.now in
    let count = length t.stops.items in
    let nothing : c.next_live.result ≡ None = cc in
    let none = none_in_round (λ s. is_live s.stand) t.stops.items (start_of count t.last) count t.passed refl (start_low count t.last) z (λ k a b. c.next_live.ensures.none nothing k a b) in
    absurd (let e : true ≡ false = sym some ∙ none in cc)

pub returns-in_err-k-clause-none : goal.returns-in_err-k-clause-none
returns-in_err-k-clause-none g c = λ e.
    let t = c.args.self.now in
    let count = length t.stops.items in
    let nothing : c.next_live.result ≡ None = cc in
    round_none (λ k. holds_at (λ s. is_live s.stand) t.stops.items k) (start_of count t.last) count t.passed (λ j a b. c.next_live.ensures.none nothing j a b)

pub returns-clause-order : goal.returns-clause-order
returns-clause-order g c = λ p e.
    let t = c.args.self.now in
    let count = length t.stops.items in
    let same : c.place_of.result ≡ p = cc in
    let k = c.in_ok-k.ensures in
    let later = k.later in (
      omega (arith, later),
      round_order (λ i. holds_at (λ s. is_live s.stand) t.stops.items i) (start_of count t.last) count t.passed _ c.in_ok-k.k p k.later k.inside k.passes k.live refl (sym same ∙ c.place_of.ensures.is),
    )

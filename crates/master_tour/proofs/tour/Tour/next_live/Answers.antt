use Rattle.std.proofs.Common.{◌≡◌, ◌<◌, ◌≤◌, ℕ, false, true, length, sym, ◌∙◌, subst, arith, refl, ◌+◌}
use Rattle.std.proofs.lemmas.Bool.{ltb-true, ltb-false}
use Rattle.std.specs.Prelude.{nat_lt, Bool}
use Rattle.master_tour.specs.Goes.{is_live, holds_at}
use Rattle.master_tour.specs.Orders.{start_of, place_in}
use Rattle.master_tour.proofs.Goes.{holds_here}
use Rattle.master_tour.proofs.tour.Tour.next_live.Goals as goal

pub returns-then-is_live-clause-live : goal.returns-then-is_live-clause-live
returns-then-is_live-clause-live g c =
    let t = c.args.self.now in
    let p = c.place_of.result in
    let here = holds_here (λ s. is_live s.stand) t.stops.items p c.index.result.now c.place_of.ensures.inside c.index.ensures in
    subst (λ z. holds_at (λ s. is_live s.stand) t.stops.items z ≡ true) c.place_of.ensures.is (sym here ∙ sym c.is_live.ensures ∙ c.if-is_live.true)

pub loop-k-preserved : goal.loop-k-preserved
loop-k-preserved g c = λ j a b. go j a b (nat_lt j c.loop-k.k) refl
  where
    go : (j : ℕ) → c.args.self.now.passed ≤ j → j < c.loop-k.k + 1 → (z : Bool) → nat_lt j c.loop-k.k ≡ z → holds_at (λ s. is_live s.stand) c.args.self.now.stops.items (place_in (start_of (length c.args.self.now.stops.items) c.args.self.now.last) (length c.args.self.now.stops.items) j) ≡ false
    go j a b true e = c.loop-k.invariant j a (ltb-true j c.loop-k.k e)
    go j a b false e =
        let t = c.args.self.now in
        let p = c.place_of.result in
        let l = ltb-false j c.loop-k.k e in
        let same : j ≡ c.loop-k.k = omega (arith, b, l) in
        let here = holds_here (λ s. is_live s.stand) t.stops.items p c.index.result.now c.place_of.ensures.inside c.index.ensures in
        subst (λ z. holds_at (λ s. is_live s.stand) t.stops.items (place_in (start_of (length t.stops.items) t.last) (length t.stops.items) z) ≡ false) (sym same)
        (subst (λ z. holds_at (λ s. is_live s.stand) t.stops.items z ≡ false) c.place_of.ensures.is (sym here ∙ sym c.is_live.ensures ∙ c.if-is_live.false))

use Rattle.std.proofs.Common.{◌≡◌, ◌+◌, sym, ◌∙◌, arith, add-one, refl}
use Rattle.std.specs.Prelude.{false}
use Rattle.master_tour.proofs.Walks.{walk_on, walk_over, walked_length}
use Rattle.master_tour.proofs.tour.Tour.rewind.Goals as goal

pub loop-i-preserved : goal.loop-i-preserved
loop-i-preserved g c =
    let len = c.len-i-end.ensures in
    let test = c.loop-i-test.true in
    let i = c.loop-i.invariant in (
      walk_on (λ s t. (t.side ≡ s.side) × (t.stand ≡ s.stand) × (t.place ≡ s.place) × (t.start ≡ s.start) × (t.spare ≡ s.spare) × (t.under ≡ false))
          c.loop-i.i (c.loop-i.i + 1) c.args.self.now.stops.items c.loop-i.self.stops.items c.index_mut.result.now _ (add-one c.loop-i.i) i.0 (let e = len ∙ c.args.self.now.stops.ok.0 in omega (arith, test, e)) c.index_mut.ensures.value (refl, refl, refl, refl, refl, refl),
      i.1,
      i.2,
      i.3,
      i.4,
      i.5,
      i.6,
    )

pub returns : goal.returns
returns g c =
    let len = c.len-i-end.ensures in
    let test = c.loop-i-test.false in
    record {
      each = walk_over (λ s t. (t.side ≡ s.side) × (t.stand ≡ s.stand) × (t.place ≡ s.place) × (t.start ≡ s.start) × (t.spare ≡ s.spare) × (t.under ≡ false)) c.loop-i.i c.args.self.now.stops.items c.loop-i.self.stops.items (let e = len ∙ c.args.self.now.stops.ok.0 in omega (arith, test, e)) c.loop-i.invariant.0;
      tour = (c.loop-i.invariant.1, c.loop-i.invariant.2, c.loop-i.invariant.3, c.loop-i.invariant.4, c.loop-i.invariant.5, c.loop-i.invariant.6);
      long = sym (walked_length _ c.loop-i.i c.args.self.now.stops.items c.loop-i.self.stops.items c.loop-i.invariant.0);
    }

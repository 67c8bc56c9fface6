use Rattle.std.proofs.Common.{◌+◌, ◌*◌, ◌<◌, ◌⊎◌, inl, inr, slice_index, [], ◌∷◌, arith}
use Rattle.std.proofs.lemmas.List.{length-append}
use Rattle.scenario_values.proofs.Pairs.{pair_read, pair_bad, goes_on, stops, ends}
use Rattle.scenario_values.proofs.digits.decode_behind.Goals.{then-high-gt15-via-then-high-gt15, then-high-gt15-via-else-high-gt15+then-low-gt15}
use Rattle.scenario_values.proofs.digits.decode_behind.Goals as goal

pub returns-then-high-gt15 : goal.returns-then-high-gt15
returns-then-high-gt15 g c =
    let none : (15 < c.digit-high.result) ⊎ (15 < c.digit-low.result) = elim c.then-high-gt15.branch [
      | then-high-gt15-via-then-high-gt15 w ↦ inl w.if-high-gt15.true
      | then-high-gt15-via-else-high-gt15+then-low-gt15 w ↦ inr w.if-low-gt15.true
    ] in
    let bad = pair_bad (slice_index c.args.text.now (2 * c.octets.i)) (slice_index c.args.text.now (2 * c.octets.i + 1)) (2 * c.octets.i) c.digit-high.result c.digit-low.result c.digit-high.ensures c.digit-low.ensures none in
    stops c.args.text.now c.octets.buffer.items c.octets.i bad.0 c.requires.even (omega (arith, c.octets-test.true)) bad.1 c.octets.invariant.1

pub octets-preserved : goal.octets-preserved
octets-preserved g c =
    let v = c.digit-high.result * 16 + c.digit-low.result in
    let read = pair_read (slice_index c.args.text.now (2 * c.octets.i)) (slice_index c.args.text.now (2 * c.octets.i + 1)) (2 * c.octets.i) c.digit-high.result c.digit-low.result c.digit-high.ensures c.digit-low.ensures (omega arith) (omega arith) in (
      rw c.push.ensures.items (omega (arith, c.octets.invariant.0, length-append c.octets.buffer.items (v ∷ []))),
      rw c.push.ensures.items (goes_on c.args.text.now c.octets.buffer.items c.octets.i v (omega (arith, c.octets-test.true)) read c.octets.invariant.1),
    )

pub returns : goal.returns
returns g c = ends c.args.text.now c.octets.buffer.items c.octets.i c.requires.even (omega (arith, c.octets-test.false, c.requires.even)) c.octets.invariant.1

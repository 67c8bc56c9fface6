use Rattle.std.proofs.Common.{◌≡◌, ◌≤◌, ℕ, ◌+◌, ◌-◌, List, ◌++◌, length, take, drop, min, sym, ap, ◌∙◌, arith, length-drop}
use Rattle.std.proofs.lemmas.Bool.{OnTrue_at}
use Rattle.std.proofs.lemmas.List.{length-take, take_min}
use Rattle.std.proofs.Math.Seq.{take-add}
use Rattle.coe_values.specs.Slots.{octets_in}
use Rattle.coe_values.proofs.values.Values.copy_to.Goals as goal

-- a piece of a list behind its first octets
piece_behind : (octets done piece : List ℕ) (at most : ℕ) → at ≤ length octets → done ≡ take at octets → piece ≡ take most (drop at octets) →
    (at + length piece ≤ length octets) × (done ++ piece ≡ take (at + length piece) octets) × (length done ≡ at)
piece_behind octets done piece at most begun is piece_is =
    let rest : length (drop at octets) ≡ length octets - at = length-drop at octets in
    let len : length piece ≡ min most (length (drop at octets)) = ap length piece_is ∙ length-take most (drop at octets) in
    let cut : take (length piece) (drop at octets) ≡ piece =
    ap (λ n. take n (drop at octets)) len ∙ take_min most (drop at octets) ∙ sym piece_is in
    let front : length done ≡ min at (length octets) = ap length is ∙ length-take at octets in (
      omega (arith, rest, len, begun),
      ap (λ d. d ++ piece) is ∙ ap (λ p. take at octets ++ p) (sym cut) ∙ sym (take-add at (length piece) octets),
      omega (arith, front, begun),
    )

pub loop-done-preserved : goal.loop-done-preserved
loop-done-preserved c =
    let i = c.loop-done.invariant in
    let octets = octets_in c.args.slot c.args.self.now in
    let begun : c.loop-done.done ≤ length octets = omega (arith, i.0, c.len-len.ensures.len) in
    let p = piece_behind octets c.loop-done.into.octets c.part-piece.result.items c.loop-done.done 128 begun i.1 c.part-piece.ensures in
    let count : c.len-done.result ≡ length c.part-piece.result.items = c.len-done.ensures.value in
    let bytes : length c.as_slice.result.now ≡ length c.part-piece.result.items = ap length c.as_slice.ensures.value in
    let fits : length c.loop-done.into.octets + length c.as_slice.result.now ≤ c.loop-done.into.limit =
    omega (arith, p.0, p.2, bytes, i.2, c.requires, c.len-len.ensures.short, c.len-len.ensures.len) in
    let added = OnTrue_at (c.add-fits.ensures.fits.1 fits) c.add-fits.ensures.added in (
      omega (arith, p.0, count, c.len-len.ensures.len),
      added ∙ ap (λ b. c.loop-done.into.octets ++ b) c.as_slice.ensures.value ∙ p.1 ∙ ap (λ n. take (c.loop-done.done + n) octets) (sym count),
      c.add-fits.ensures.limit ∙ i.2,
    )

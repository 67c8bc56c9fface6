use Rattle.std.proofs.Common.{◌≡◌, ◌∙◌, ap, sym, ℕ, ◌+◌, ◌-◌, ◌*◌, ◌<◌, ◌≤◌, ◌++◌, List, length, take, drop, min, true, arith, append_assoc, length-append, length-drop}
use Rattle.std.proofs.lemmas.List.{length-take-le}
use Rattle.std.proofs.Math.Seq.{take-add}
use Rattle.block_pool.specs.Chained.{Chained}
use Rattle.block_pool.proofs.pool.extend.Goals as goal

-- the octets behind one more part
joined :
    (old bytes before after : List ℕ) (done end : ℕ) → done ≤ end → before ≡ old ++ take done bytes
    → after ≡ before ++ take (end - done) (drop done bytes) → after ≡ old ++ take end bytes
joined old bytes before after done end order first more =
    let n : done + (end - done) ≡ end = omega (arith, order) in
    more ∙ ap (λ o. o ++ take (end - done) (drop done bytes)) first ∙ append_assoc old (take done bytes) (take (end - done) (drop done bytes))
    ∙ ap (λ o. old ++ o) (sym (take-add done (end - done) bytes) ∙ ap (λ n. take n bytes) n)

-- the length of a part
part_length : (bytes : List ℕ) (done end : ℕ) → end ≤ length bytes → length (take (end - done) (drop done bytes)) ≡ end - done
part_length bytes done end within =
    let rest : length (drop done bytes) ≡ length bytes - done = grind (arith, length-drop) in
    length-take-le (end - done) (drop done bytes) (omega (arith, rest, within))

-- one block more for the chain, one less that is free
grown :
    (old before after : Chained) (bytes : List ℕ) (done end free free_before free_old : ℕ) → before.live ≡ true → before.room ≡ old.room
    → before.octets ≡ old.octets ++ take done bytes → before.blocks + free_before ≡ old.blocks + free_old
    → length before.octets ≡ 128 * before.blocks → done < length bytes → end ≡ min (length bytes) (done + 128)
    → after ≡ record before { octets = before.octets ++ take (end - done) (drop done bytes); blocks = before.blocks + 1 } → free + 1 ≡ free_before
    → (after.live ≡ true) × (after.room ≡ old.room) × (end ≤ length bytes) × (after.octets ≡ old.octets ++ take end bytes)
    × (after.blocks + free ≡ old.blocks + free_old) × (end < length bytes → length after.octets ≡ 128 * after.blocks)
    × (length after.octets ≤ 128 * after.blocks) × (128 * after.blocks ≤ length after.octets + 127)
grown old before after bytes done end free free_before free_old live room first count full more end_is is fewer =
    let octets : after.octets ≡ before.octets ++ take (end - done) (drop done bytes) = ap (λ (v : Chained). v.octets) is in
    let blocks : after.blocks ≡ before.blocks + 1 = ap (λ (v : Chained). v.blocks) is in
    let part : length (take (end - done) (drop done bytes)) ≡ end - done = part_length bytes done end (omega (arith, end_is)) in
    let len : length after.octets ≡ length before.octets + length (take (end - done) (drop done bytes)) =
    ap length octets ∙ length-append before.octets (take (end - done) (drop done bytes)) in (
      ap (λ (v : Chained). v.live) is ∙ live,
      ap (λ (v : Chained). v.room) is ∙ room,
      omega (arith, end_is),
      joined old.octets bytes before.octets after.octets done end (omega (arith, end_is, more)) first octets,
      omega (arith, blocks, fewer, count),
      λ left. omega (arith, len, part, blocks, full, end_is, left),
      omega (arith, len, part, blocks, full, end_is),
      omega (arith, len, part, blocks, full, end_is, more),
    )

pub loop-done-preserved : goal.loop-done-preserved
loop-done-preserved c =
    let inv = c.loop-done.invariant in
    let step =
    grown c.args.chain.now c.loop-done.chain c.add_block.new.chain c.args.bytes.now c.loop-done.done c.min-end.result
    (length c.add_block.new.free.items) (length c.loop-done.free.items) (length c.args.free.now.items)
    inv.0 inv.1 inv.3 inv.4 (inv.5 c.loop-done-test.true) c.loop-done-test.true c.min-end.ensures c.add_block.ensures.chain c.add_block.ensures.count in
    (step.0, step.1, step.2, step.3, step.4, step.5, c.add_block.ensures.empty, omega (arith, inv.7, c.add_block.ensures.kept), step.6, step.7)

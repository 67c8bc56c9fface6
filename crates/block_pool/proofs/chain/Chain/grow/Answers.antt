use Rattle.std.proofs.Common.{◌≡◌, ◌∙◌, ap, sym, ◌+◌, ◌*◌, [], ◌∷◌, ◌++◌, length, arith, length-append}
use Rattle.std.proofs.lemmas.Grind.{common_steps}
use Rattle.block_pool.specs.Blocks.{octets_of}
use Rattle.block_pool.proofs.Packed.{boxes_grown, boxes_grown_packed}
use Rattle.block_pool.proofs.chain.Chain.grow.Goals as goal

-- the block stands behind the others
pushed : (c : goal.After-self-1) → c.push.new.self.items ≡ c.self.inside.blocks.items ++ c.filled.result ∷ []
pushed c = grind (arith, common_steps, c.push.ensures.items, c.unwrap.ensures)

-- and its octets behind theirs
octets_grow : (c : goal.After-self-1) → octets_of c.push.new.self.items ≡ octets_of c.self.inside.blocks.items ++ c.args.part.now
octets_grow c =
    ap octets_of (pushed c) ∙ boxes_grown c.self.inside.blocks.items c.filled.result
    ∙ ap (λ octets. octets_of c.self.inside.blocks.items ++ octets) c.filled.ensures

-- one block more
count_grows : (c : goal.After-self-1) → length c.push.new.self.items ≡ length c.self.inside.blocks.items + 1
count_grows c = ap length (pushed c) ∙ length-append c.self.inside.blocks.items (c.filled.result ∷ [])

pub invariant_of-self : goal.invariant_of-self
invariant_of-self c =
    let live = ap (λ v. v.live) c.self.view_is in
    let blocks = ap (λ v. v.blocks) c.self.view_is in
    let room = ap (λ v. v.room) c.self.view_is in
    let full = ap (λ v. length v.octets) c.self.view_is ∙ c.requires.full ∙ sym (ap (λ v. 128 * v.blocks) c.self.view_is) in
    let part = ap length c.filled.ensures in
    record {
      packed = rw (pushed c)
          (boxes_grown_packed c.self.inside.blocks.items c.filled.result c.self.invariant.packed full
          (omega (arith, part, c.requires.some)) (omega (arith, part, c.requires.fits)));
      len_is =
          (let len = ap length (octets_grow c) ∙ length-append (octets_of c.self.inside.blocks.items) c.args.part.now in
          omega (arith, len, c.self.invariant.len_is));
      closed = λ e. absurd (let h = c.requires.live in cc);
      fits = omega (arith, count_grows c, blocks, room, c.requires.room);
      kept = omega (arith, c.self.invariant.kept, c.push.ensures.capacity);
      small = c.self.invariant.small;
    }

pub returns : goal.returns
returns c =
    λ i. record {
      live = (ap (λ v. v.live) c.self.view_is) i;
      octets = (octets_grow c ∙ ap (λ v. v.octets ++ c.args.part.now) c.self.view_is) i;
      blocks = (count_grows c ∙ ap (λ v. v.blocks + 1) c.self.view_is) i;
      room = (ap (λ v. v.room) c.self.view_is) i;
    }

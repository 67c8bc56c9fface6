use Rattle.std.proofs.Common.{sym, arith}
use Rattle.object_dictionary.proofs.Tests.{stands}
use Rattle.object_dictionary.proofs.Placed.{place_hit, place_miss}
use Rattle.object_dictionary.proofs.objects.place_above.Goals.{in-Some+else-index-key, in_default}
use Rattle.object_dictionary.proofs.objects.place_above.Goals as goal

pub returns-then-index-key : goal.returns-then-index-key
returns-then-index-key c =
    let none = place_hit c.args.index c.loop-at.at c.in-Some.key.now c.in-Some.field-0-1.now c.args.table.now.entries (sym c.in-Some.ensures.entry) c.if-index-key.true in
    omega (arith, none, c.loop-at.invariant)

pub loop-at-preserved : goal.loop-at-preserved
loop-at-preserved c = elim c.match-get_index.branch [
  | in-Some+else-index-key w ↦
      let one = place_miss c.args.index c.loop-at.at w.in-Some.key.now w.in-Some.field-0-1.now c.args.table.now.entries (sym w.in-Some.ensures.entry) w.if-index-key.false in
      omega (arith, one, c.loop-at.invariant)
  | in_default w ↦ absurd (stands c.args.table.now.entries c.loop-at.at (omega arith) (sym w.in_default.ensures.entry))
]

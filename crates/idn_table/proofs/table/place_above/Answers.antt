use Rattle.std.proofs.Common.{sym, ◌∙◌, arith}
use Rattle.idn_table.proofs.Placed.{stands, place_hit, place_miss}
use Rattle.idn_table.proofs.table.place_above.Goals.{in-Some+else-is_ahead, in_default}
use Rattle.idn_table.proofs.table.place_above.Goals as goal

pub returns-then-is_ahead : goal.returns-then-is_ahead
returns-then-is_ahead c =
    let none = place_hit c.args.key c.in-Some.other.now c.loop-at.at c.in-Some.field-0-1.now c.args.idns.now.entries (sym c.in-Some.ensures.entry) (sym c.is_ahead.ensures ∙ c.if-is_ahead.true) in
    omega (arith, none, c.loop-at.invariant)

pub loop-at-preserved : goal.loop-at-preserved
loop-at-preserved c = elim c.match-get_index.branch [
  | in-Some+else-is_ahead w ↦
      let one = place_miss c.args.key w.in-Some.other.now c.loop-at.at w.in-Some.field-0-1.now c.args.idns.now.entries (sym w.in-Some.ensures.entry) (sym w.is_ahead.ensures ∙ w.if-is_ahead.false) in
      omega (arith, one, c.loop-at.invariant)
  | in_default w ↦ absurd (stands c.args.idns.now.entries c.loop-at.at (omega arith) (sym w.in_default.ensures.entry))
]

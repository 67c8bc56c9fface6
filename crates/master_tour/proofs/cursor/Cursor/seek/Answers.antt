use Rattle.std.proofs.Common.{◌+◌, subst, refl, arith}
use Rattle.master_tour.specs.Cursor.{IsAtOne}
use Rattle.master_tour.proofs.Cursors.{stands_part, stands_next, stands_last}
use Rattle.master_tour.proofs.cursor.Cursor.seek.Goals as goal

pub next-requires : goal.next-requires
next-requires c = stands_part c.args.octets.now c.requires.frame.0 c.loop-number.self.number c.loop-number.self.part c.requires.frame.1 c.loop-number.invariant.0

pub returns-in_default-clause-none : goal.returns-in_default-clause-none
returns-in_default-clause-none c = λ no ds f.
    let last = stands_last c.args.octets.now c.loop-number.self.number c.loop-number.self.part c.next.result c.loop-number.invariant.0 c.next.ensures.next c.in_default.is ds f in
    let at = c.loop-number.invariant.1 in
    let test = c.loop-number-test.true in
    omega (arith, last, at, test)

pub loop-number-preserved : goal.loop-number-preserved
loop-number-preserved c = (
  subst (λ n. IsAtOne c.args.octets.now (n + 1) c.in-Some.later) c.loop-number.invariant.1 (stands_next c.args.octets.now c.loop-number.self.number c.loop-number.self.part c.in-Some.later c.next.result c.loop-number.invariant.0 c.next.ensures.next c.in-Some.is),
  refl,
)

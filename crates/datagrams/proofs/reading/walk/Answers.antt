use Rattle.std.proofs.Common.{sym, refl}
use Rattle.datagrams.proofs.Steps.{step_cut, step_last, step_end, step_on}
use Rattle.datagrams.proofs.reading.walk.Goals as goal

pub returns-in_default : goal.returns-in_default
returns-in_default c = sym (step_cut _ _ _ c.datagrams.invariant.1 c.in_default.ensures)

pub returns-then-not-part : goal.returns-then-not-part
returns-then-not-part c =
    (_, sym (step_last _ _ _ _ _ c.datagrams.invariant.1 c.in-Some.ensures c.if-not-part.true refl))

pub returns-then-start-octets : goal.returns-then-start-octets
returns-then-start-octets c =
    sym (step_end _ _ _ _ c.datagrams.invariant.1 c.in-Some.ensures c.if-not-part.false c.if-start-octets.true)

pub datagrams-preserved : goal.datagrams-preserved
datagrams-preserved c =
    (_, step_on _ _ _ _ _ c.datagrams.invariant.1 c.in-Some.ensures c.if-not-part.false c.if-start-octets.false refl)

use Rattle.datagrams.proofs.Steps.{step_cut, step_last, step_end, step_on}
use Rattle.datagrams.proofs.reading.read_parts.Goals as goal

pub returns-in_default : goal.returns-in_default
returns-in_default c = step_cut _ _ _ c.datagrams.invariant c.in_default.ensures

pub returns-then-not-part : goal.returns-then-not-part
returns-then-not-part c =
    step_last _ _ _ _ _ c.datagrams.invariant c.in-Some.ensures c.if-not-part.true c.push.ensures.items

pub returns-then-start-octets : goal.returns-then-start-octets
returns-then-start-octets c =
    step_end _ _ _ _ c.datagrams.invariant c.in-Some.ensures c.if-not-part.false c.if-start-octets.true

pub datagrams-preserved : goal.datagrams-preserved
datagrams-preserved c =
    step_on _ _ _ _ _ c.datagrams.invariant c.in-Some.ensures c.if-not-part.false c.if-start-octets.false c.push.ensures.items

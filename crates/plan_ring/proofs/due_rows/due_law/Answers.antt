use Rattle.plan_ring.proofs.Eras.{era_due}
use Rattle.plan_ring.proofs.due_rows.due_law.Goals as goal

pub returns : goal.returns
returns g c = λ w hears frame pick sent asks.
    era_due w.exchange w.lawful hears w.states w.stated w.processor w.table w.spot w.era w.opened w.end w.frames w.server w.registers w.slave w.is frame pick sent asks

use Rattle.plan_ring.specs.Plan.{lens_of}
use Rattle.plan_ring.proofs.Asked.{asked_lawful}
use Rattle.plan_ring.proofs.Master as Master
use Rattle.plan_ring.proofs.master_ring_law.Goals as goal

pub returns : goal.returns
returns c = record {
  begins = λ plan is macs. Master.led_first (asked_lawful c.slave_is_lawful.ensures.lawful) (lens_of plan.slaves) 0 plan.slaves plan.paces is.laid.slaves macs;
  goes_on = λ more passed lens ss gives recover fs ring octets ds ms us is r led xs. Master.goes_on more passed lens ss gives recover fs ring octets ds is ms us r led xs;
}

use Rattle.std.proofs.Common.{[], refl}
use Rattle.plan_ring.proofs.Each.{meets}
use Rattle.whole_ring.specs.Members.{Passes}
use Rattle.plan_ring.proofs.OpenEach.{each_met}
use Rattle.plan_ring.proofs.open_met.open_met_law.Goals as goal

pub returns : goal.returns
returns g c = λ lens step test more passed fs ring octets ds ms turns frame r asks pass.
    each_met lens step (Passes test) more passed fs ring octets ds frame ms r (meets lens step (Passes test) more passed fs ring octets ds frame ms turns r asks) pass [] ms turns refl r.each asks

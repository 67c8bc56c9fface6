use Rattle.whole_ring.proofs.Begins
use Rattle.whole_ring.proofs.Members as Members
use Rattle.plan_ring.specs.Plan.{FitsPlan, step}
use Rattle.plan_ring.proofs.Plan as Plan
use Rattle.plan_ring.proofs.Plan.{Laws}
use Rattle.plan_ring.proofs.plan_ring_law.Goals as goal

pub returns : goal.returns
returns c =
    let room = c.real_room_law.ensures in
    let laws : Laws = record { whole = c.asked_whole_law.ensures.whole; steps = c.real_server_law.ensures.steps; takes = room.takes; gives = room.gives; clears = room.clears; placed = room.placed; ready = room.ready } in
    record {
      begins = λ plan is macs. Plan.whole_plan_begins laws plan is macs;
      runs = λ plan is. Plan.whole_plan_runs plan is;
      turns = λ lens ss more passed fs ring octets ds ms turns is r asks. Members.ring_on lens step (FitsPlan ss) more passed fs ring octets ds is ms turns r asks;
      gives = λ lens ss fs ring recover frame ms carried r. Begins.ring_given lens step (FitsPlan ss) fs recover frame ring ms carried r;
    }

use Rattle.plan_ring.specs.of_life_runs.First.{lens_of}
use Rattle.life_counts.proofs.of_serving_model.StatesLaw.{tagged_stated}
use Rattle.life_counts.specs.of_slave_model.Acknowledged.{acknowledged}
use Rattle.life_counts.specs.of_slave_model.Profile.{Profile, IsProfile}
use Rattle.plan_ring.specs.of_slave_parts.Parts.{Server, parts}
use Rattle.plan_ring.specs.of_slave_parts.Served.{product_whole}
use Rattle.life_counts.specs.of_state_model.Families.{InState, states_of}
use Rattle.run_work.proofs.ServedLasts.{led_unopened}
use Rattle.run_work.proofs.Paid.{Owes, all_paid}
use Rattle.run_work.proofs.served_counts.served_law.Goals as goal

pub returns : goal.returns
returns c = λ plan is macs fs missed ws led lives.
    let owes : (p : Profile) → IsProfile p → Owes p = λ p profile. record {
      lawful = c.passed_law.ensures.lawful p profile;
      stated = tagged_stated (product_whole parts p) (λ (v : InState Server). v.inner.app) (c.parts_are_served.ensures.served p profile) (states_of {V = Server} {A = Server} acknowledged) (c.parts_are_served.ensures.stated p profile);
      counted = c.passed_law.ensures.counted p profile;
    } in
    let unopened = led_unopened (lens_of plan.slaves) plan.recover plan.retry plan fs missed ws led in
    c.served_work.ensures plan is fs missed ws led (all_paid owes plan.slaves ws is.laid.slaves macs lives unopened)

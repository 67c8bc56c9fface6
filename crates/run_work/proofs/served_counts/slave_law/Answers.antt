use Rattle.life_counts.proofs.of_serving_model.StatesLaw.{tagged_stated}
use Rattle.life_counts.specs.of_slave_model.Acknowledged.{acknowledged}
use Rattle.plan_ring.specs.of_slave_parts.Parts.{Server, parts}
use Rattle.plan_ring.specs.of_slave_parts.Served.{product_whole}
use Rattle.life_counts.specs.of_state_model.Families.{InState, states_of}
use Rattle.run_work.proofs.Paid.{life_paid}
use Rattle.run_work.proofs.served_counts.slave_law.Goals as goal

pub returns : goal.returns
returns c = λ p is first l served unopened.
    let stated = tagged_stated (product_whole parts p) (λ (v : InState Server). v.inner.app) (c.parts_are_served.ensures.served p is) (states_of {V = Server} {A = Server} acknowledged) (c.parts_are_served.ensures.stated p is) in
    life_paid p (record { lawful = c.passed_law.ensures.lawful p is; stated = stated; counted = c.passed_law.ensures.counted p is }) first l served unopened

use Rattle.plan_ring.proofs.NamedNames.{named_never}
use Rattle.idle_slaves.proofs.asked_waits.asked_waits_law.Goals as goal
use Rattle.plan_ring.specs.of_master_hand.Spoken.{hand_speech}
use Rattle.plan_ring.proofs.of_slave_model.Slaves.{slave_never}
use Rattle.plan_ring.proofs.Asked.{agrees}
use Rattle.plan_ring.specs.Asked.{as_asked}
use Rattle.plan_ring.specs.of_slave_model.Product.{product}
use Rattle.plan_ring.specs.of_slave_model.Profile.{areas_of}
use Rattle.plan_ring.specs.of_slave_parts.Parts.{parts}

pub returns : goal.returns
returns c = λ p profile boot lens. named_never (product parts p) as_asked (hand_speech (areas_of p)) (agrees p) (slave_never parts c.parts_are_lawful.ensures p profile)

use Rattle.plan_ring.proofs.Names.{named_hears}
use Rattle.plan_ring.proofs.plan_dues.asked_hears_law.Goals as goal
use Rattle.run_frames.specs.of_master_hand.Spoken.{hand_speech}
use Rattle.slave_server.proofs.of_slave_model.HearsSlaves.{slave_hears}
use Rattle.plan_ring.proofs.Asked.{agrees}
use Rattle.plan_ring.specs.Asked.{as_asked}
use Rattle.slave_server.specs.of_slave_model.Product.{product}
use Rattle.slave_server.specs.of_slave_model.Profile.{areas_of}
use Rattle.slave_server.specs.of_slave_parts.Parts.{parts}

pub returns : goal.returns
returns c = λ p profile boot lens. named_hears (product parts p) as_asked (hand_speech (areas_of p)) (agrees p) (slave_hears parts c.parts_are_lawful.ensures p profile)

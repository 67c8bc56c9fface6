use Rattle.run_work.proofs.of_plan_ring.Lives.{front_round, last_round}
use Rattle.run_work.specs.of_plan_ring.Round.{ring_of}
use Rattle.served_rings.proofs.NoMore.{none_more}
use Rattle.served_rings.proofs.heard_stays.heard_stays.Goals as goal

pub returns : goal.returns
returns c = λ plan is known fs missed ws l f vs y round.
    none_more plan is known c.speaker_law.ensures fs ws f vs (c.served_ring_law.ensures plan is known fs missed ws l (front_round (ring_of plan) fs f round)) y (last_round (ring_of plan) fs f round)

use Rattle.plan_ring.specs.Round.{ring_of}
use Rattle.plan_ring.proofs.of_run_frames.Fated.{few_lost}
use Rattle.run_work.proofs.Rounds.{round_fated}
use Rattle.run_work.proofs.fates_law.Goals as goal

pub returns : goal.returns
returns c = record {
  fated = λ plan fs round. round_fated (ring_of plan) fs round;
  few = λ plan fs round. few_lost plan.lose fs (round_fated (ring_of plan) fs round);
}

use Rattle.slave_lives.proofs.NodeFrames
use Rattle.slave_lives.proofs.NodeSteps
use Rattle.slave_lives.proofs.node_laws.node_law.Goals as goal

pub returns : goal.returns
returns g c = record {
  begins = λ u out back boot s clear. NodeFrames.begins u out back boot s clear;
  passes = λ u n octets runs. NodeFrames.passes_on u n octets runs;
  steps = λ u clears n runs roomy. NodeSteps.steps_on u clears n runs roomy;
}

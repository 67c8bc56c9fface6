use Rattle.run_work.proofs.Echoes.{echo_law, of_echo}
use Rattle.run_work.proofs.Flows.{within}
use Rattle.run_work.proofs.packet_work.packet_law.Goals as goal

pub returns : goal.returns
returns c = record {
  echo = λ mac packet echo m e. echo_law mac packet echo m e;
  may = λ mac packet echo e. of_echo mac packet echo e;
  within = λ slaves many es few at. within slaves many es few at;
}

use Rattle.run_promises.proofs.Emits.{side_emits}
use Rattle.run_promises.proofs.Passed.{passed_none}
use Rattle.run_promises.proofs.Stays.{side_stays}
use Rattle.run_promises.proofs.slave_sends.emits_law.Goals as goal

pub returns : goal.returns
returns c = record {
  emits = λ weigh p is al s i q may. side_emits weigh p is al s i q may;
  stays = λ p al s i q may. side_stays p al s i q may;
  passed = λ p v m calm fair net. passed_none p v m calm fair net;
}

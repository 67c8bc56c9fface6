use Rattle.std.proofs.Common.{refl}
use Rattle.slave_server.proofs.SeenLaw.{is_exchange}
use Rattle.plan_ring.proofs.Reals as Its
use Rattle.plan_ring.proofs.server_lives.real_server_law.Goals as goal

pub returns : goal.returns
returns c = record {
  behind = λ p boot lens. Its.is_behind is_exchange p boot lens;
  clears = λ p boot lens. record { clearing = λ v. refl; seen = λ al s. refl };
  steps = λ p n e. Its.steps_as p n e;
}

use Rattle.std.proofs.Common.{false}
use Rattle.slave_lives.proofs.Quiets
use Rattle.slave_lives.proofs.life_laws.yet_law.Goals as goal

pub returns : goal.returns
returns g c = λ w is spot from e fs t y. Quiets.lives_yet w is (λ m. false) (λ q. false) spot from e fs t y

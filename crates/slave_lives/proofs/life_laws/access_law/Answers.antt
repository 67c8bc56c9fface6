use Rattle.slave_lives.proofs.Backs
use Rattle.slave_lives.proofs.life_laws.access_law.Goals as goal

pub returns : goal.returns
returns c = λ lens p n r rs ds at few apart one. Backs.comes_back lens p n r rs ds at few apart one

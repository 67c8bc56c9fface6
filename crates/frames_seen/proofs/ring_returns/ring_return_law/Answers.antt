use Rattle.frames_seen.proofs.Returned as Returned
use Rattle.frames_seen.proofs.ring_returns.ring_return_law.Goals as goal

pub returns : goal.returns
returns g c = λ lens ring octets ds f e. Returned.ring_back lens ring octets ds f e

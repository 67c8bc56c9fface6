use Rattle.frames_seen.proofs.Passes as All
use Rattle.frames_seen.proofs.octet_law.Goals as goal

pub returns : goal.returns
returns c = record { passes = λ r octets ds f. All.passes r octets ds f; keeps = λ r octets. All.keeps r octets }

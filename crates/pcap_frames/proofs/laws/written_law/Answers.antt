-- A written capture is one of its packets.
use Rattle.pcap_frames.proofs.Grammar.{IsCapture-written}
use Rattle.pcap_frames.proofs.laws.written_law.Goals as goal

pub returns : goal.returns
returns c = λ packets sized. IsCapture-written packets sized

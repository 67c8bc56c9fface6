use Rattle.pcap_frames.proofs.Grammar.{found_in, only_in}
use Rattle.pcap_frames.proofs.reading.read.Goals as goal

pub returns-clause-found : goal.returns-clause-found
returns-clause-found c = found_in _ _ (λ i. (c.type_inv.bytes i).fits) c.read_plain.ensures

pub returns-clause-only : goal.returns-clause-only
returns-clause-only c = λ nanos packets is. only_in _ _ nanos packets c.read_plain.ensures is

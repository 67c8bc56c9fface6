-- The lemmas on the packets of an epoch, at the types of the function.
use Rattle.packets_heard.proofs.PacketParts.{epoch_first, epoch_all, heard_own}
use Rattle.packets_heard.proofs.packet_model.emitted_law.Goals as goal

pub returns-clause-first : goal.returns-clause-first
returns-clause-first g c = λ x s table cleared weigh room part packets wide a e ds are f. epoch_first x s table cleared weigh room part packets wide a e ds are f

pub returns-clause-all : goal.returns-clause-all
returns-clause-all g c = λ x s table cleared weigh room part packets wide a e are is. epoch_all x s table cleared weigh room part packets wide a e are is

pub returns-clause-heard : goal.returns-clause-heard
returns-clause-heard g c = λ emission part own hs. heard_own emission part own hs

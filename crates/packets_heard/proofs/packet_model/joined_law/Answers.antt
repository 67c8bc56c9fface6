-- The lemmas on joined packets, at the types of the function.
use Rattle.packets_heard.proofs.PacketParts.{joined_first, joined_all}
use Rattle.packets_heard.proofs.packet_model.joined_law.Goals as goal

pub returns-clause-first : goal.returns-clause-first
returns-clause-first c = λ room wide ps are heard rest e. joined_first room wide ps are heard rest e

pub returns-clause-all : goal.returns-clause-all
returns-clause-all c = λ room wide ps are. joined_all room wide ps are

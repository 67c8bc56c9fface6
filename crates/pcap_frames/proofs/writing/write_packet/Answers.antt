use Rattle.pcap_frames.proofs.Steps.{written_behind}
use Rattle.pcap_frames.proofs.writing.write_packet.Goals as goal

pub returns-clause-ok : goal.returns-clause-ok
returns-clause-ok c = written_behind _ _ _ _ _ _ c.in_ok-add.ensures.ok c.in_ok-add-2.ensures.ok c.packet_head.ensures

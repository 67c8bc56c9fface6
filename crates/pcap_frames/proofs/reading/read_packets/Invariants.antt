use Rattle.std.proofs.Common.{length, ◌-◌}
use Rattle.pcap_frames.proofs.Steps.{IsReading}
use Rattle.pcap_frames.proofs.reading.read_packets.Given as goal

abbrev pub invariant-packets : goal.invariant-packets
invariant-packets l = IsReading l.order l.bytes l.packets l.at

abbrev pub decreases-packets : goal.decreases-packets
decreases-packets l = length l.bytes - l.at

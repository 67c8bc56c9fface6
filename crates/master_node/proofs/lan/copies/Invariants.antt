use Rattle.std.proofs.Common.{◌≡◌, take}
use Rattle.master_node.proofs.lan.copies.Given as goal

abbrev pub invariant-loop-packet : goal.invariant-loop-packet
invariant-loop-packet l = l.rows ≡ take l.packet-index l.packets

-- WHAT A MASTER REMEMBERS between two frames, with what happened at its switch, and the ring.
use Rattle.std.specs.Prelude.{List}
use Rattle.packets_heard.specs.of_eoe_switch.declared.switching.SwitchEvent.{SwitchEvent}
use Rattle.packets_heard.specs.of_master_node.Eager.{recalls}
use Rattle.packets_heard.specs.of_master_node.declared.node.MasterNode.{MasterNode}
use Rattle.packets_heard.specs.Recalled.{State}
use Rattle.served_places.specs.of_segment_ring.Ring.{RingState}
use Rattle.packets_heard.specs.of_slave_node.Node.{Node}
use Rattle.packets_heard.specs.of_slave_server.declared.server.SlaveServer.{SlaveServer}

-- what a master remembers, with these events of its switch and its ring
abbrev pub state_of : MasterNode → List SwitchEvent → RingState (Node SlaveServer) → State
state_of m events ring = record { recalls = recalls m; events = events; ring = ring }

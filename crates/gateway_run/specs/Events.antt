-- What a session tells of its last step.
use Rattle.std.specs.Prelude.{List}
use Rattle.run_record.specs.of_master_node.declared.event.Event.{Event}
use Rattle.run_record.specs.of_master_node.declared.node.MasterNode.{MasterNode}
use Rattle.run_record.specs.of_master_node.Listed.{listed}

-- what happened in the last step of a master
abbrev pub events_of : MasterNode → List Event
events_of m = listed m.list.rows.items m.list.count

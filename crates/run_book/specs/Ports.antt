-- The ports of the switch between the host and the slaves.
pub use Rattle.master_node.specs.Ports.{ports_of, IsAtPort}

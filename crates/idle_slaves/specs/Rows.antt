-- A SERVICE IN HAND of a slave that has nothing left.
pub use Rattle.plan_ring.specs.of_slave_model.Waits.{NeverWaits}

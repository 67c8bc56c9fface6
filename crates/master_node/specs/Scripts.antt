-- The script of a slave.
pub use Rattle.life_runs.specs.First.{script_for}

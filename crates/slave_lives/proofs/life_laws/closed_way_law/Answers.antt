use Rattle.slave_lives.proofs.Arrives as Arrived
use Rattle.slave_lives.proofs.Ways as Way
use Rattle.slave_lives.proofs.life_laws.closed_way_law.Goals as goal

pub returns : goal.returns
returns g c = record {
  just = λ p n place behind rs ds at few near apart one. Way.just_on_way p n place behind rs ds at few near apart one;
  comes = λ u boot lens p o n place ds near c one. Arrived.comes u boot lens p c.plan o n place ds near one c.closed;
  meets = λ u boot lens p o n place ds near c one. Arrived.comes_just u boot lens p c.plan o n place ds near one c.closed;
  none = λ u boot lens p o n place ds near c others. Arrived.comes_none u boot lens p c.plan o n place ds near others c.closed;
}

use Rattle.plan_ring.proofs.Told.{has_room, script_may}
use Rattle.plan_ring.proofs.plan_rooms.room_law.Goals as goal

pub returns : goal.returns
returns c = record {
  told = λ plan is told. has_room plan is.laid.services told.services;
  scripts = λ plan room place s at k service e. script_may plan.slaves place s at plan.services room.rows k service e;
}

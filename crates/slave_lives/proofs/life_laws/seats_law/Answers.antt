use Rattle.slave_lives.proofs.AllSeats as Seated
use Rattle.slave_lives.proofs.life_laws.seats_law.Goals as goal

pub returns : goal.returns
returns g c = record {
  meets = λ lens ss ds few distinct seats come. Seated.all_meet_first lens ss ds few distinct seats come;
  each = λ before s behind ds m. Seated.meets_at before s behind ds m;
  opens = λ before s behind ds stand here named distinct m. Seated.for_open before s behind ds stand here named distinct m;
}

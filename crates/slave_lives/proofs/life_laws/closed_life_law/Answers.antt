use Rattle.slave_lives.proofs.Arrives as Arrived
use Rattle.slave_lives.proofs.Closing as Closed
use Rattle.slave_lives.proofs.life_laws.closed_life_law.Goals as goal

pub returns : goal.returns
returns g c = record {
  begins = λ u boot lens p s clear none. Arrived.begins u boot lens p s clear none;
  freezes = λ u boot lens p o n ds open_ again step one. Arrived.freezes u boot lens p o n ds open_ again step one;
  left = λ u boot lens p o n start own c. Arrived.left_by u boot lens p c.plan o n start own c.closed;
  stays = λ u boot lens p o n is ds c one. Closed.frame_stays u boot lens p c.plan o n is ds one c.closed;
  goes = λ u boot lens p o n ds d frame l done found c stand one came. Closed.came_back u boot lens p c.plan o frame l done found n ds d stand c.state one came c.closed;
  steps = λ u boot lens p o n c may. Closed.step_stays u boot lens p c.plan o may.clears n may.boot_is may.runs may.roomy c.closed;
  up = λ u boot lens p n plan may up. Closed.up_steps u boot lens p plan may.clears n may.boot_is may.runs may.roomy up;
  opens = λ u boot lens p n plan up. Closed.up_opens u boot lens p plan n up;
}

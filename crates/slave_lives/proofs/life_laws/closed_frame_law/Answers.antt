use Rattle.slave_lives.proofs.ClosedFrames
use Rattle.slave_lives.proofs.life_laws.closed_frame_law.Goals as goal

pub returns : goal.returns
returns g c = record {
  stays = λ u boot lens p o t f. ClosedFrames.closed_on u boot lens p o t f;
  goes = λ u boot lens p o t d frame l done found f stand back. ClosedFrames.closed_back u boot lens p o t d frame l done found f stand back;
}

use Rattle.frame_view.proofs.Frames.{none_more}
use Rattle.frame_view.proofs.life_frames.none_law.Goals as goal

pub returns : goal.returns
returns c = λ spot ds d n o. none_more spot ds d n o

use Rattle.run_frames.proofs.Counting.{new_is}
use Rattle.run_frames.proofs.begins_law.Goals as goal

pub returns : goal.returns
returns g c = λ slowest last cs n. new_is slowest last cs n

-- WHERE THE SLAVES OF A SERVING ARE, and how many mails wait for each.
use Rattle.std.specs.Prelude.{◌≤◌, length}
use Rattle.few_replies.specs.of_life_model.Lives.{Spot}
use Rattle.run_frames.specs.of_life_runs.Served.{Serves}

-- the station and the place of a slave, and the state that it is brought up to
abbrev pub spot_at : Serves → Spot
spot_at w = w.lead.lived.spot

-- no more than 64 mails wait for it
abbrev pub MayWait : Serves → Type 0
MayWait w = length w.waits ≤ 64

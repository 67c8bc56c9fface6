-- HOW A MASTER STANDS TO A SLAVE, as the epochs of its life have it.
use Rattle.std.specs.Prelude.{◌&&◌, Bool, true, false}
use Rattle.life_runs.specs.of_al_state.declared.bringing.BringStep.{BringStep}
use Rattle.life_runs.specs.of_master_tour.declared.stop.Stand.{Stand}

-- an access that comes before a reopening has shown Init
abbrev pub is_before_init : BringStep → Bool
is_before_init BringStep.Return = true
is_before_init BringStep.Watch = true
is_before_init _ = false

-- a slave is opened anew, and wasn't seen in Init yet
abbrev pub leaves : Stand → Bool
leaves (Stand.Opening up) = up.again && is_before_init up.step
leaves Stand.Open = false
leaves Stand.Gone = false

-- a slave is open
abbrev pub is_up : Stand → Bool
is_up (Stand.Opening up) = false
is_up Stand.Open = true
is_up Stand.Gone = false

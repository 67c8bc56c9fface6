use Rattle.std.proofs.Common.{◌≡◌, drop}
use Rattle.toml.specs.View.{view}
use Rattle.toml_places.specs.Path.{led}
use Rattle.toml_places.proofs.path.led.Given as goal

abbrev pub invariant-loop-step : goal.invariant-loop-step
invariant-loop-step l = led (view l.value) (drop l.step-index l.steps) ≡ led (view l.initial.value) l.steps

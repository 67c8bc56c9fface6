use Rattle.mailbox_law.specs.World.{Runs}
use Rattle.mailbox_law.proofs.run.run_world.Given as goal

abbrev pub invariant-loop-step : goal.invariant-loop-step
invariant-loop-step l = Runs l.out_len l.in_len l.steps l.step-index l.world

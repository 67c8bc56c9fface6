-- A RUN OF ONE TOUR, as the count of its frames has it.
use Rattle.std.specs.Prelude.{◌≡◌, List, length}
use Rattle.run_promises.specs.of_life_runs.First.{lens_of, first_leads}
use Rattle.run_promises.specs.of_life_runs.Led.{Exchanged, Leads}
use Rattle.run_promises.specs.of_link_mails.Body.{Body}
use Rattle.seen_slaves.specs.of_master_duty.Reply.{Reply}
use Rattle.seen_slaves.specs.of_master_hand.Spoken.{Asked}
use Rattle.run_promises.specs.of_master_tour.Toured.{Tour}
use Rattle.seen_slaves.specs.of_run_frames.Clocks.{Clocked}
use Rattle.seen_slaves.specs.of_run_frames.Led.{AreLed}
use Rattle.seen_slaves.specs.of_run_frames.Runs.{Progress}
use Rattle.seen_slaves.specs.of_run_frames.Toured.{IsToured, AskIn}
use Rattle.run_promises.specs.of_segment_plan.Bound.{slowest}
use Rattle.run_promises.specs.of_segment_plan.declared.plan.Scenario.{Scenario}

-- how far the run has come, and its slaves with the clocks of their processors: its frames are visits of one tour, which stands where the master's does,
-- and ask by the inward half first
pub record IsCounted (plan : Scenario) (fs : List Exchanged) (t : Tour) (leads : List Leads) : Type 0 where
  pub progress : Progress
  pub slaves : List (Clocked Body Asked Reply)
  pub toured : IsToured (lens_of plan.slaves) plan.recover plan.retry (slowest plan.paces) (first_leads plan) plan.paces fs t.again t.missed leads progress slaves
  pub asks : AskIn toured
  pub opened : progress.opened ≡ t.opened
  pub frames : progress.frames ≡ length fs
  pub led : AreLed leads slaves

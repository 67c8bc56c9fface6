-- A SERVING OF ONE TOUR, as the count of its frames has it.
use Rattle.std.specs.Prelude.{◌≡◌, List, length, map}
use Rattle.run_promises.specs.of_life_runs.First.{lens_of, first_leads}
use Rattle.run_promises.specs.of_life_runs.Led.{Exchanged}
use Rattle.run_promises.specs.of_link_mails.Body.{Body}
use Rattle.seen_slaves.specs.of_master_duty.Reply.{Reply}
use Rattle.seen_slaves.specs.of_master_hand.Spoken.{Asked}
use Rattle.run_promises.specs.of_master_node.Serving.{run_lead}
use Rattle.run_promises.specs.of_master_tour.Toured.{Tour}
use Rattle.seen_slaves.specs.of_run_frames.Clocks.{Clocked}
use Rattle.seen_slaves.specs.of_run_frames.Led.{AreLed}
use Rattle.seen_slaves.specs.of_run_frames.Runs.{Progress}
use Rattle.run_promises.specs.of_segment_plan.Bound.{slowest}
use Rattle.run_promises.specs.of_segment_plan.declared.plan.Scenario.{Scenario}
use Rattle.seen_slaves.specs.of_served_places.Answered.{ServedAsks}
use Rattle.seen_slaves.specs.of_served_places.Toured.{IsServedToured}
use Rattle.run_promises.specs.of_life_runs.Served.{Serves, all_serve}

-- how far the serving has come, and its slaves with the clocks of their processors: its frames are visits of one tour, which stands where the master's does,
-- and ask by the inward half first
pub record IsCounted (plan : Scenario) (fs : List Exchanged) (t : Tour) (ws : List Serves) : Type 0 where
  pub progress : Progress
  pub slaves : List (Clocked Body Asked Reply)
  pub toured : IsServedToured (lens_of plan.slaves) plan.recover plan.retry (slowest plan.paces) (all_serve plan.paces (first_leads plan)) fs t.again t.missed ws progress slaves
  pub asks : ServedAsks toured
  pub opened : progress.opened ≡ t.opened
  pub frames : progress.frames ≡ length fs
  pub led : AreLed (map run_lead ws) slaves

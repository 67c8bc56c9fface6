use Rattle.std.specs.Prelude.{⊤}
use Rattle.run_promises.specs.of_life_runs.First.{lens_of, first_leads}
use Rattle.run_promises.specs.of_segment_plan.Bound.{slowest}
use Rattle.seen_slaves.proofs.of_run_frames.Tallying.{first_of_plan}
use Rattle.promised_run.proofs.News.{all_news}
use Rattle.promised_run.proofs.Tours.{asks_none, bridged, frames_none, knows_none, stays_none}
use Rattle.promised_run.proofs.bound_premises.toured_law.Goals as goal

pub returns : goal.returns
returns c = λ plan fs t leads is r.
    let first = first_of_plan plan.services plan.slaves plan.paces is.laid.paces is.laid.pace in
    let none = stays_none (lens_of plan.slaves) plan.recover plan.retry (slowest plan.paces) (first_leads plan) plan.paces in
    let b =
    bridged (lens_of plan.slaves) plan.recover plan.retry (slowest plan.paces) (first_leads plan) plan.paces
    (knows_none (lens_of plan.slaves) plan.recover plan.retry (slowest plan.paces) (first_leads plan) plan.paces) (asks_none (lens_of plan.slaves) plan.recover plan.retry (slowest plan.paces) (first_leads plan) plan.paces) none
    c.seen_is.ensures first.2 (all_news plan.services 0 plan.slaves) (λ s. ⊤) (λ s k. tt) fs t leads tt r
    (frames_none (lens_of plan.slaves) plan.recover plan.retry (slowest plan.paces) (first_leads plan) plan.paces fs t leads r) in record {
      progress = b.progress;
      slaves = b.slaves;
      toured = b.asked.0;
      asks = b.asked.1;
      opened = b.opened;
      frames = b.frames;
      led = b.led;
    }

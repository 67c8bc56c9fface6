use Rattle.std.specs.Prelude.{⊤}
use Rattle.std.proofs.Common.{ℕ, List, length, true, ◌≡◌, ◌<◌, sym, subst}
use Rattle.run_promises.specs.of_life_runs.First.{lens_of, first_leads}
use Rattle.run_promises.specs.of_life_runs.Led.{Leads}
use Rattle.run_promises.specs.of_master_node.Shows.{is_opening_lead}
use Rattle.run_promises.specs.of_master_tour.Goes.{holds_at}
use Rattle.run_promises.specs.of_segment_plan.Bound.{slowest}
use Rattle.seen_slaves.proofs.of_served_places.Slaves.{begins_so, first_leads_in}
use Rattle.run_promises.specs.of_life_runs.Served.{all_serve}
use Rattle.promised_run.proofs.News.{all_news}
use Rattle.promised_run.proofs.TouredTours.{asks_none, bridged, frames_none, knows_none, stays_none, steps_none}
use Rattle.promised_run.proofs.toured_servings.toured_law.Goals as goal

pub returns : goal.returns
returns c = λ plan fs t ws is r.
    let lens = lens_of plan.slaves in
    let first = all_serve plan.paces (first_leads plan) in
    let slow = slowest plan.paces in
    let news = subst (λ (z : List Leads). (k : ℕ) → k < length z → holds_at is_opening_lead z k ≡ true) (sym (first_leads_in plan.paces (first_leads plan))) (all_news plan.services 0 plan.slaves) in
    let b =
    bridged lens plan.recover plan.retry slow first (knows_none lens plan.recover plan.retry slow first) (steps_none lens plan.recover plan.retry slow first) (asks_none lens plan.recover plan.retry slow first) (stays_none lens plan.recover plan.retry slow first)
    c.seen_is.ensures (begins_so plan is).2 news (λ s. ⊤) (λ s k. tt) fs t ws tt r (frames_none lens plan.recover plan.retry slow first fs t ws r) in
    record {
      progress = b.progress;
      slaves = b.slaves;
      toured = b.asked.0;
      asks = b.asked.1;
      opened = b.opened;
      frames = b.frames;
      led = b.led;
    }

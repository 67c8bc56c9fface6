use Rattle.std.proofs.Common.{arith, length-append, ap, sym, ◌∙◌}
use Rattle.run_promises.specs.of_life_runs.First.{lens_of, first_leads}
use Rattle.gateway_run.proofs.of_life_runs.First.{apart_from}
use Rattle.run_promises.specs.of_segment_plan.Bound.{slowest}
use Rattle.seen_slaves.proofs.of_run_frames.Tallying.{first_of_plan}
use Rattle.promised_run.proofs.News.{all_news}
use Rattle.promised_run.proofs.Tours.{bridged}
use Rattle.run_promises.specs.of_master_node.Happened.{arrivals_at}
use Rattle.run_promises.specs.of_packets_heard.Recalled.{IsFirst}
use Rattle.std.specs.Prelude.{[], length, ◌≡◌, ◌+◌}
use Rattle.promised_run.specs.Runs.{remembered}
use Rattle.promised_run.proofs.First.{first_unpassed}
use Rattle.promised_run.proofs.Walk.{Holds, Laws, Step, frames, starts, stays}
use Rattle.promised_run.proofs.eager_runs.eager_run_law.Goals as goal

pub returns : goal.returns
returns c = λ plan fs t leads s is known room toured recalled went rest host.
    let laws : Laws plan = record {
      lived = λ fs missed as' led round. c.run_lives_law.ensures plan is known fs missed as' led round;
      opens = λ fs as' x. c.plan_met_law.ensures.opens plan fs as' x;
      rooms = λ place spec at k service has. c.room_law.ensures.scripts plan room place spec at k service has;
      due = c.plan_due_law.ensures plan is known;
      apart = apart_from [] 0 plan.slaves is.stations;
    } in
    let first = first_of_plan plan.services plan.slaves plan.paces is.laid.paces is.laid.pace in
    let b =
    bridged (lens_of plan.slaves) plan.recover plan.retry (slowest plan.paces) (first_leads plan) plan.paces (Holds plan laws (slowest plan.paces)) (Step plan laws (slowest plan.paces)) (stays plan laws (slowest plan.paces))
    c.seen_is.ensures first.2 (all_news plan.services 0 plan.slaves) (IsFirst plan) (starts plan laws (slowest plan.paces) (first_unpassed plan.services 0 plan.slaves)) fs t leads s toured (frames plan laws (slowest plan.paces) toured s recalled) in
    let h = b.asked.2 went in
    let e = c.entered_law.ensures plan (slowest plan.paces) plan.paces fs t.again t.missed leads b.progress b.slaves (remembered plan s.events 0 s.recalls) b.asked.0 h.eager in
    let many : length (arrivals_at 0 s.events) + length rest ≡ length plan.host = sym (length-append (arrivals_at 0 s.events) rest) ∙ ap length host in
    record {
      progress = record b.progress { lost = e.lost; still = e.still; waits = e.waits };
      slaves = b.slaves;
      again = t.again;
      toured = e.run;
      asks = e.asks b.asked.1;
      waits = c.wait_runs_law.ensures plan fs t.again t.missed leads (record b.progress { lost = e.lost; still = e.still; waits = e.waits }) b.slaves (remembered plan s.events 0 s.recalls) is known e.run went e.eager;
      enters = (let few = e.few in let host_few = h.few in let lost = h.lost in omega (arith, few, host_few, lost, many));
      round = went;
    }

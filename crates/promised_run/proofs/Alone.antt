-- A RUN AS A SERVING to which no mail is asked.
use Rattle.std.proofs.Common.{◌≡◌, ℕ, None, List, map}
use Rattle.std.specs.List.{All}
use Rattle.run_promises.specs.of_life_runs.First.{first_leads, lens_of}
use Rattle.run_promises.specs.of_life_runs.Led.{Exchanged, Leads}
use Rattle.seen_slaves.specs.of_plan_ring.Lives.{IsKnown}
use Rattle.promised_run.proofs.Rounds.{all_round}
use Rattle.promised_run.proofs.Through.{RepliesLaw, stood_behind}
use Rattle.promised_run.specs.Alone.{ServesAlone}
use Rattle.gateway_run.specs.of_run_book.declared.book.Book.{Book}
use Rattle.gateway_run.specs.of_run_record.Led.{LeadTo, exchanged}
use Rattle.gateway_run.specs.of_run_record.Ran.{HasFrames}
use Rattle.gateway_run.specs.of_run_record.Replay.{first_ring}
use Rattle.run_promises.specs.of_segment_plan.Sound.{IsPlan}
use Rattle.run_promises.specs.of_segment_plan.declared.plan.Scenario.{Scenario}
use Rattle.run_promises.proofs.Accepted.{all_unpassed}
use Rattle.run_promises.specs.of_life_runs.Served.{IsRunOf, IsServedLed, Serves, all_serve}

-- each run of a plan is a serving
abbrev pub RunsServe : Scenario → Type 0
RunsServe plan = (fs : List Exchanged) (missed : ℕ) (as' : List Leads) → All (λ (a : Leads). a.lived.life.era.passing ≡ None) (first_leads plan) → LeadTo plan fs missed as' →
    (ws : List Serves) × IsServedLed (lens_of plan.slaves) plan.recover plan.retry (all_serve plan.paces (first_leads plan)) fs missed ws × IsRunOf ws as'

pub alone : (plan : Scenario) (book : Book) (leads : List Leads) (missed : ℕ) → IsPlan plan → IsKnown plan → RepliesLaw → RunsServe plan → HasFrames plan book → LeadTo plan (map exchanged book.frames) missed leads → ServesAlone plan book leads
alone plan book leads missed is known law runs frames lives =
    let fs : List Exchanged = map exchanged book.frames in
    let run = runs fs missed leads (all_unpassed plan.services 0 plan.slaves) lives in
    record {
      serves = run.0;
      alone = run.2;
      slaves = stood_behind plan book.frames run.0 (law plan is known fs missed run.0 run.1 (all_round (first_ring plan) book.frames frames.recorded));
    }

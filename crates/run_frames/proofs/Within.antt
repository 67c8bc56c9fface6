-- How many frames a run has.
use Rattle.std.proofs.Common.{◌≡◌, ◌≤◌, ◌<◌, ℕ, ◌+◌, ◌*◌, Bool, List, length, subst, arith}
use Rattle.life_runs.specs.of_exchange_model.Exchange.{Speech}
use Rattle.life_runs.proofs.of_life_model.Paying.{within}
use Rattle.life_runs.specs.of_life_model.Lives.{Spot}
use Rattle.life_runs.specs.First.{lens_of}
use Rattle.life_runs.specs.Led.{Leads, speech_at, is_passed}
use Rattle.life_runs.specs.of_link_mails.Body.{Body}
use Rattle.life_runs.specs.of_master_duty.Reply.{Reply}
use Rattle.life_runs.specs.of_master_hand.Spoken.{Asked, acknowledged, is_followed}
use Rattle.life_runs.specs.of_segment_plan.Bound.{slowest as slowest_pace}
use Rattle.life_runs.specs.of_segment_plan.Sound.{IsPlan}
use Rattle.life_runs.specs.of_segment_plan.declared.plan.Scenario.{Scenario}
use Rattle.run_frames.specs.Clocks.{Clocked, gains_all, reopened_all, tally_of}
use Rattle.run_frames.specs.Fates.{gained_in}
use Rattle.run_frames.specs.Led.{AreLed}
use Rattle.run_frames.specs.Runs.{Progress, IsRun}
use Rattle.run_frames.proofs.Deciding.{all_some}
use Rattle.run_frames.proofs.Fated.{gained_is}
use Rattle.run_frames.proofs.Returning.{known, gains_lost}
use Rattle.run_frames.proofs.Running.{holds}
use Rattle.run_frames.proofs.Tallying.{some_slowest}

pub run_within : {M Q R : Type 0} (x : Spot → Speech M Q R) (acknowledged : Q → Bool) (more : M → Bool) (passed : Q → Bool) (recover slowest work lost : ℕ) (first cs : List (Clocked M Q R)) (p : Progress) → IsRun x acknowledged more passed recover slowest first p cs →
    1 ≤ length first → 1 ≤ slowest → gains_all cs + reopened_all cs ≤ length first + work → p.lost ≤ lost → p.frames < 16 * slowest * (length first + 1) * (work + lost + 2 * length first)
run_within {M} {Q} {R} x acknowledged more passed recover slowest work lost first cs p r some pace enough few =
    let h = holds (known M Q R) (gains_lost M Q R) x acknowledged more passed recover slowest first p cs r in
    let least = all_some slowest cs h.clocked in
    within (length first) slowest (length first * (5 + slowest)) work lost (tally_of slowest (length first) p.opened p.last p.frames p.lost p.still cs) some pace (omega arith) h.counted (omega (arith, h.long, least, enough)) few

-- of a plan's slaves, by what their lives have gained
pub plan_within : (plan : Scenario) → IsPlan plan → (first cs : List (Clocked Body Asked Reply)) (p : Progress) → IsRun (speech_at (lens_of plan.slaves)) acknowledged is_followed is_passed plan.recover (slowest_pace plan.paces) first p cs → length first ≡ length plan.slaves →
    (as' : List Leads) → AreLed as' cs → (work lost : ℕ) → gained_in as' ≤ length plan.slaves + work → p.lost ≤ lost → p.frames < 16 * slowest_pace plan.paces * (length plan.slaves + 1) * (work + lost + 2 * length plan.slaves)
plan_within plan is first cs p r long as' led work lost enough few =
    subst (λ n. p.frames < 16 * slowest_pace plan.paces * (n + 1) * (work + lost + 2 * n)) long
    (run_within (speech_at (lens_of plan.slaves)) acknowledged is_followed is_passed plan.recover (slowest_pace plan.paces) work lost first cs p r (let some = is.laid.some_slave in omega (arith, long, some))
    (some_slowest plan.paces (omega (arith, is.laid.paces, is.laid.some_slave)) is.laid.pace) (omega (arith, gained_is as' cs led, enough, long)) few)

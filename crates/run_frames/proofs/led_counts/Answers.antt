use Rattle.std.proofs.Common.{◌≡◌, subst, arith}
use Rattle.std.specs.Prelude.{◌≤◌, ◌<◌, ◌+◌, ◌*◌, length}
use Rattle.life_runs.specs.of_life_model.Tally.{Counted, new_tally}
use Rattle.life_runs.specs.First.{lens_of, first_leads}
use Rattle.life_runs.specs.Led.{speech_at, is_passed}
use Rattle.life_runs.specs.of_link_mails.Body.{Body}
use Rattle.life_runs.specs.of_master_duty.Reply.{Reply}
use Rattle.life_runs.specs.of_master_hand.Spoken.{Asked, acknowledged, is_followed}
use Rattle.life_runs.specs.of_segment_plan.Bound.{slowest}
use Rattle.run_frames.specs.Clocks.{tally_of}
use Rattle.run_frames.specs.Led.{first_clocked}
use Rattle.run_frames.proofs.Fated.{few_lost}
use Rattle.run_frames.proofs.Returning.{known, gains_lost}
use Rattle.run_frames.proofs.Running.{holds}
use Rattle.run_frames.proofs.Tallying.{tallied, first_of_plan}
use Rattle.run_frames.proofs.Within.{plan_within}
use Rattle.run_frames.proofs.led_counts.Goals as goal

pub returns-clause-led : goal.returns-clause-led
returns-clause-led c = λ plan fs missed as' p cs is t.
    let b = first_of_plan plan.services plan.slaves plan.paces is.laid.paces is.laid.pace in
    let k = tallied c.seen_is.ensures (lens_of plan.slaves) plan.recover plan.retry (slowest plan.paces) (first_leads plan) plan.paces (b.0, b.1, b.2) fs missed as' p cs t in
    (k.led, k.slaves, k.frames)

pub returns-clause-counted : goal.returns-clause-counted
returns-clause-counted c = λ plan fs missed as' p cs is t.
    let b = first_of_plan plan.services plan.slaves plan.paces is.laid.paces is.laid.pace in
    let k = tallied c.seen_is.ensures (lens_of plan.slaves) plan.recover plan.retry (slowest plan.paces) (first_leads plan) plan.paces (b.0, b.1, b.2) fs missed as' p cs t in
    let h = holds (known Body Asked Reply) (gains_lost Body Asked Reply) (speech_at (lens_of plan.slaves)) acknowledged is_followed is_passed plan.recover (slowest plan.paces) (first_clocked (first_leads plan) plan.paces) p cs k.run in
    subst (λ n. Counted n (slowest plan.paces) (new_tally (n * (5 + slowest plan.paces))) (tally_of (slowest plan.paces) n p.opened p.last p.frames p.lost p.still cs)) b.3 h.counted

pub returns-clause-within : goal.returns-clause-within
returns-clause-within c = λ plan fs missed work entered as' p cs is t fated enough entering.
    let b = first_of_plan plan.services plan.slaves plan.paces is.laid.paces is.laid.pace in
    let k = tallied c.seen_is.ensures (lens_of plan.slaves) plan.recover plan.retry (slowest plan.paces) (first_leads plan) plan.paces (b.0, b.1, b.2) fs missed as' p cs t in
    let few : p.lost ≤ entered + length plan.lose = omega (arith, entering, few_lost plan.lose fs fated) in
    let all = plan_within plan is (first_clocked (first_leads plan) plan.paces) cs p k.run b.3 as' k.slaves work (entered + length plan.lose) enough few in
    let sum : work + (entered + length plan.lose) + 2 * length plan.slaves ≡ work + entered + length plan.lose + 2 * length plan.slaves = omega arith in
    subst (λ n. n < 16 * slowest plan.paces * (length plan.slaves + 1) * (work + entered + length plan.lose + 2 * length plan.slaves)) k.frames (subst (λ z. p.frames < 16 * slowest plan.paces * (length plan.slaves + 1) * z) sum all)

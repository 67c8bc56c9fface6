use Rattle.std.proofs.Common.{sym, subst, ap, ◌∙◌}
use Rattle.master_duty.specs.of_segment_model.Slaves.{Access}
use Rattle.master_side.specs.declared.carried.Carried.{Carried}
use Rattle.master_side.specs.Carried.{Asks}
use Rattle.frame_view.specs.View.{found_of}
use Rattle.master_duty.specs.of_state_model.Accounts.{access_done}
use Rattle.master_duty.specs.Stages.{stage_of}
use Rattle.master_side.proofs.back.duty_met.Goals as goal

pub returns-in-Control-clause-done : goal.returns-in-Control-clause-done
returns-in-Control-clause-done c = λ h due ask access counter w n l.
    let (target, acknowledge, o, d, x) = subst (λ (k : Carried). Asks k h due ask access) c.in-Control.is w in
    c.word_written.ensures.done target acknowledge ∙ ap (λ (z : Access). access_done c.args.duty.target (stage_of c.args.duty.stage) z (found_of z counter c.args.octets.now)) (sym x)

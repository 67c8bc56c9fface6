use Rattle.std.proofs.Common.{Some, refl, ap, ◌∙◌}
use Rattle.master_duty.specs.declared.stage.Met.{Met}
use Rattle.master_side.proofs.Agains.{drains_most}
use Rattle.master_side.proofs.Begins.{begins_state}
use Rattle.master_side.proofs.Recalls.{begun_recall}
use Rattle.mailbox_master.specs.Any.{in_half_of}
use Rattle.master_side.specs.Sent.{gram_len}
use Rattle.master_side.proofs.First.{state_first, wish_state}
use Rattle.master_side.specs.First.{first_by}
use Rattle.master_side.proofs.side.Side.begin_state.Goals as goal

pub returns-clause-picked : goal.returns-clause-picked
returns-clause-picked g c = λ x made d a s free known none.
    begins_state x g.H.Hand.acknowledged made d a (g.H.Hand.shows c.args.self.now.hand x) c.args.self.now.out c.args.self.now.inn c.args.self.now.fresh c.args.self.now.duty c.new-duty.result _ s none free known c.new-duty.ensures.target c.new-duty.ensures.stage

pub returns-clause-again : goal.returns-clause-again
returns-clause-again g c = λ n p r held h. drains_most c.args.self.now c.new-duty.result c.new-duty.ensures.stage n p r held

pub returns-clause-recalled : goal.returns-clause-recalled
returns-clause-recalled g c = λ n p.
    let old = c.args.self.now in
    let knows = g.H.Hand.knows old.hand in
    begun_recall old.paused old.turn knows knows old.duty (Some (Met.On c.new-duty.result)) old.passing old.passing n p refl

pub returns-clause-first : goal.returns-clause-first
returns-clause-first g c = λ b w e held h.
    let old = c.args.self.now in
    ap (gram_len old.out old.inn) (state_first c.new-duty.result old.passing (in_half_of old.inn).state old.paused held c.args.target c.new-duty.ensures.stage ∙ ap (λ z. first_by (in_half_of old.inn).state old.paused z) (wish_state c.args.target w e))

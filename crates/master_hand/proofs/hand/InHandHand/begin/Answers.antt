use Rattle.std.proofs.Common.{◌≡◌, true, refl, subst}
use Rattle.foe_client.specs.of_exchange_model.Areas.{Areas}
use Rattle.master_hand.specs.Talk.{is_askable}
use Rattle.master_hand.specs.Laying.{ready_of}
use Rattle.master_hand.specs.declared.course.Course.{Course}
use Rattle.master_hand.proofs.Hands.{begins_shown}
use Rattle.master_hand.proofs.Replies.{begins_awaits}
use Rattle.master_hand.proofs.hand.InHandHand.begin.Goals as goal

pub returns-in-Some-clause-begun : goal.returns-in-Some-clause-begun
returns-in-Some-clause-begun c = λ x now q frame h e.
    begins_shown x c.args.self.now.clients c.begin.new.clients c.in-Some.which c.in-Some.which Course.Goes (ready_of c.args.self.now.laying) q frame c.in-Some.ensures.begins c.begin.ensures.areas.0
    (subst (λ (a : Areas). is_askable a (ready_of c.args.self.now.laying) ≡ true) c.args.self.now.one_slave c.begin.ensures.askable) refl refl e h.0

pub returns-in-Some-clause-awaits : goal.returns-in-Some-clause-awaits
returns-in-Some-clause-awaits c = λ q e p.
    begins_awaits c.args.self.now.clients c.begin.new.clients c.in-Some.which Course.Goes (ready_of c.args.self.now.laying) q c.in-Some.ensures.begins refl e p

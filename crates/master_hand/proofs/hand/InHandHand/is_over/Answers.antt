use Rattle.master_hand.proofs.Knowing.{goes_over, answered_over}
use Rattle.master_hand.proofs.hand.InHandHand.is_over.Goals as goal

pub returns-in-Goes-clause-over : goal.returns-in-Goes-clause-over
returns-in-Goes-clause-over c = λ x d k s i h e.
    let old = c.args.self.now in
    let o = goes_over old.course old.which old.clients c.args.fresh c.args.idle x d c.in-Goes.is s i h e in
    c.is_sent.ensures.all o.left o.done

pub returns-in-Answered-clause-over : goal.returns-in-Answered-clause-over
returns-in-Answered-clause-over c = λ x d k s i h e.
    let old = c.args.self.now in
    let o = answered_over old.course old.which old.clients c.args.fresh c.args.idle x d c.in-Answered.is s i h e in
    c.is_sent-in-Answered.ensures.all o.left o.done

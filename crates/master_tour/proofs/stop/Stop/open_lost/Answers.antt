use Rattle.master_side.specs.of_state_model.Accounts.{duty_access}
use Rattle.master_side.specs.Shown.{SideShows}
use Rattle.master_tour.proofs.Unders.{nothing_under, none_lost, has_lost}
use Rattle.std.proofs.Common.{sym, ◌∙◌, refl}
use Rattle.master_side.specs.of_life_model.Lives.{passes}
use Rattle.master_side.specs.Passing.{PassingShows}
use Rattle.master_tour.proofs.Passings.{has_gone, nothing_gone}
use Rattle.master_tour.proofs.stop.Stop.open_lost.Goals as goal

pub returns-then-self-clause-shown : goal.returns-then-self-clause-shown
returns-then-self-clause-shown g c = λ x sent d a s u.
    let w = c.args.self.now.side in
    let y = c.lost.new.self in
    has_lost x (λ e. SideShows (g.H.Hand.shows y.hand x) y.out y.inn y.fresh y.duty e a) w.station c.args.self.now.at c.args.self.now.under w.carried (duty_access a.hand) sent d c.if-self.true u
    (λ b m. c.lost.ensures.shown x b d a s m)

pub returns-else-self-clause-shown : goal.returns-else-self-clause-shown
returns-else-self-clause-shown g c = λ x sent d a s u.
    let w = c.args.self.now.side in
    none_lost x (g.H.Hand.shows w.hand x) w.out w.inn w.fresh w.duty d a w.station sent (nothing_under w.station c.args.self.now.at c.args.self.now.under w.carried d.halves (duty_access a.hand) sent c.if-self.false u) s

pub returns-then-self-clause-again : goal.returns-then-self-clause-again
returns-then-self-clause-again g c = λ w u. c.lost.ensures.again w

pub returns-else-self-clause-again : goal.returns-else-self-clause-again
returns-else-self-clause-again g c = λ w u. absurd (let d = sym c.if-self.false ∙ u in cc)

pub returns-then-self-clause-passing : goal.returns-then-self-clause-passing
returns-then-self-clause-passing g c = λ x kept p sent d a s k h u.
    let w = c.args.self.now.side in
    let y = c.lost.new.self in
    has_gone (λ ns. PassingShows (g.H.Hand.awaits y.hand) y.passing (passes x g.H.Hand.acknowledged g.H.Hand.more g.H.Hand.passed p ns)) w.station c.args.self.now.at kept c.args.self.now.under w.carried (duty_access a.hand) sent d.halves c.if-self.true u
    (λ b m. c.lost.ensures.passing x kept p b d a s k h m)

pub returns-else-self-clause-passing : goal.returns-else-self-clause-passing
returns-else-self-clause-passing g c = λ x kept p sent d a s k h u.
    let w = c.args.self.now.side in
    nothing_gone x g.H.Hand.acknowledged g.H.Hand.more g.H.Hand.passed w.station kept sent (g.H.Hand.awaits w.hand) w.passing p (nothing_under w.station c.args.self.now.at c.args.self.now.under w.carried d.halves (duty_access a.hand) sent c.if-self.false u) h

pub returns-then-self-clause-recalled : goal.returns-then-self-clause-recalled
returns-then-self-clause-recalled g c = c.lost.ensures.recalled

pub returns-else-self-clause-recalled : goal.returns-else-self-clause-recalled
returns-else-self-clause-recalled g c = (refl, refl, refl, refl, refl)

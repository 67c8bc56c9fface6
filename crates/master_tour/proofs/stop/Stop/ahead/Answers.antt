use Rattle.std.proofs.Common.{◌∙◌, sym, subst, ap, arith, refl}
use Rattle.master_side.specs.Shown.{SideShows}
use Rattle.master_tour.specs.Stands.{StopShows, StandShows, is_open}
use Rattle.master_tour.proofs.Visits.{still_hold, open_hold}
use Rattle.master_side.proofs.Agains.{least_area}
use Rattle.master_tour.specs.Rooms.{StandRepeats}
use Rattle.master_tour.proofs.Rooms.{ahead_opens, ahead_open}
use Rattle.master_tour.proofs.stop.Stop.ahead.Goals as goal

pub returns-in-Gone-clause-lives : goal.returns-in-Gone-clause-lives
returns-in-Gone-clause-lives g c = λ x more passed made recover spot l sh.
    let t = c.args.self.now in
    let s = c.args.self.now.side in
    let stood = (subst (λ z. StopShows (λ d a. SideShows (g.H.Hand.shows s.hand x) s.out s.inn s.fresh s.duty d a) recover spot z t.spare l) c.in-Gone.is sh).stood in
    still_hold x g.H.Hand.acknowledged more passed made l _ (ap is_open stood) sh

pub returns-in-Opening-clause-lives : goal.returns-in-Opening-clause-lives
returns-in-Opening-clause-lives g c = λ x more passed made recover spot l sh.
    let t = c.args.self.now in
    let s = c.args.self.now.side in
    let stood = (subst (λ z. StopShows (λ d a. SideShows (g.H.Hand.shows s.hand x) s.out s.inn s.fresh s.duty d a) recover spot z t.spare l) c.in-Opening.is sh).stood in
    still_hold x g.H.Hand.acknowledged more passed made l _ (ap is_open stood.stand) sh

pub returns-in-Open-clause-lives : goal.returns-in-Open-clause-lives
returns-in-Open-clause-lives g c = λ x more passed made recover spot l sh.
    let t = c.args.self.now in
    let s = c.args.self.now.side in
    let n = c.ahead.new.self in
    let stood = (subst (λ z. StopShows (λ d a. SideShows (g.H.Hand.shows s.hand x) s.out s.inn s.fresh s.duty d a) recover spot z t.spare l) c.in-Open.is sh).stood in
    open_hold x g.H.Hand.acknowledged more passed made l (λ e r. SideShows (g.H.Hand.shows n.hand x) n.out n.inn n.fresh n.duty e r) _ stood.0 (c.ahead.ensures.shown x l.era.side l.era.account stood.1)
    (λ era r. record {
      stood = subst (λ z. StandShows (λ d a. SideShows (g.H.Hand.shows n.hand x) n.out n.inn n.fresh n.duty d a) spot z (record l { era = era })) (sym c.in-Open.is) (stood.0, r);
      spared = sh.spared;
      over = sh.over;
    })

pub returns-in-Gone-clause-again : goal.returns-in-Gone-clause-again
returns-in-Gone-clause-again g c = λ r. absurd (subst (λ z. StandRepeats z c.args.self.now.side) c.in-Gone.is r)

pub returns-in-Opening-clause-area : goal.returns-in-Opening-clause-area
returns-in-Opening-clause-area g c = let a = least_area c.args.self.now.side in let l = c.access_len.ensures.most in omega (arith, a, l)

pub returns-in-Opening-clause-again : goal.returns-in-Opening-clause-again
returns-in-Opening-clause-again g c = λ r. (r, refl, ahead_opens c.args.self.now.stand c.args.self.now.side c.in-Opening.up c.access_len.result c.in-Opening.is c.access_len.ensures.is)

pub returns-in-Open-clause-again : goal.returns-in-Open-clause-again
returns-in-Open-clause-again g c = ahead_open c.args.self.now.stand c.args.self.now.stand c.args.self.now.side c.ahead.new.self c.ahead.result c.in-Open.is c.in-Open.is c.ahead.ensures.again

pub returns-in-Gone-clause-first : goal.returns-in-Gone-clause-first
returns-in-Gone-clause-first g c = λ o. absurd (let t = sym c.in-Gone.is ∙ o in cc)

pub returns-in-Opening-clause-first : goal.returns-in-Opening-clause-first
returns-in-Opening-clause-first g c = λ o. absurd (let t = sym c.in-Opening.is ∙ o in cc)

pub returns-in-Open-clause-first : goal.returns-in-Open-clause-first
returns-in-Open-clause-first g c = λ o. c.ahead.ensures.first

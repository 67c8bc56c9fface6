use Rattle.std.proofs.Common.{sym, subst, ◌∙◌, ap, ◌≡◌, true, suc}
use Rattle.master_side.specs.Shown.{SideShows}
use Rattle.master_tour.specs.Stands.{StopShows, FollowShows}
use Rattle.master_side.specs.of_life_model.Lives.{life_back}
use Rattle.std.specs.Prelude.{Some}
use Rattle.master_tour.proofs.Openings.{opening_follows}
use Rattle.master_tour.specs.Joins.{join_behind}
use Rattle.master_tour.proofs.Joins.{cleared_join}
use Rattle.master_tour.specs.Passing.{StandPassing}
use Rattle.master_tour.proofs.Passings.{opening_passing}
use Rattle.master_tour.specs.Counting.{StandCounts}
use Rattle.master_tour.proofs.Counting.{opening_counts}
use Rattle.master_tour.proofs.stop.Stop.opening_met.Goals as goal

pub returns-clause-lives : goal.returns-clause-lives
returns-clause-lives g c = λ o x more passed frame recover spot news back came l met sh.
    let k = c.renew_where.ensures.kept in
    let w = c.args.self.now.side in
    let y = c.renew_where.new.self.side in
    subst (λ n. FollowShows (λ d a. SideShows (g.H.Hand.shows y.hand x) y.out y.inn y.fresh y.duty d a) recover spot c.renew_where.new.self.stand n c.renew_where.new.self.news l (life_back x g.H.Hand.acknowledged more passed frame spot news back (Some came) l l.stand)) (sym k.1)
    (opening_follows (λ d a. SideShows (g.H.Hand.shows w.hand x) w.out w.inn w.fresh w.duty d a) (λ d a. SideShows (g.H.Hand.shows y.hand x) y.out y.inn y.fresh y.duty d a) frame recover spot c.args.self.now.spare c.args.up c.came_back-is_up.new.up l x g.H.Hand.acknowledged more passed news back
    came c.args.counter c.args.body.now c.came_back-is_up.result c.clears-is_cleared.result c.renew_where.new.self.stand c.renew_where.new.self.news c.came_back-is_up.ensures.goes_on c.came_back-is_up.ensures.shown c.clears-is_cleared.ensures
    (k.0 ∙ c.stand_behind-self.ensures) (k.2 ∙ c.news_of-self.ensures) met
    (subst (λ z. StopShows (λ d a. SideShows (g.H.Hand.shows w.hand x) w.out w.inn w.fresh w.duty d a) recover spot z c.args.self.now.spare l) o sh)
    (λ e d a s. subst (λ z. SideShows (g.H.Hand.shows z.hand x) z.out z.inn z.fresh z.duty d a) (sym (c.renew_where.ensures.still e)) s)
    (λ e d a s. c.renew_where.ensures.cleared e x d a s))

pub returns-clause-join : goal.returns-clause-join
returns-clause-join g c =
    let none = g.H.Hand.unjoined in
    let old = g.H.Hand.join c.args.self.now.side.hand in
    c.renew_where.ensures.join ∙ cleared_join none old c.clears-is_cleared.result c.came_back-is_up.result ∙ sym (ap (λ t. join_behind none t old) (c.renew_where.ensures.kept.2 ∙ c.news_of-self.ensures))

pub returns-clause-passing : goal.returns-clause-passing
returns-clause-passing g c = λ o x frame recover spot news back came l met sh h.
    let k = c.renew_where.ensures.kept in
    let w = c.args.self.now.side in
    let y = c.renew_where.new.self.side in
    opening_passing x g.H.Hand.acknowledged g.H.Hand.more g.H.Hand.passed (λ d a. SideShows (g.H.Hand.shows w.hand x) w.out w.inn w.fresh w.duty d a) frame recover spot c.args.self.now.spare c.args.up c.came_back-is_up.new.up l news back
    came c.args.counter c.args.body.now c.came_back-is_up.result c.clears-is_cleared.result (g.H.Hand.awaits w.hand) (g.H.Hand.awaits y.hand) w.passing y.passing c.renew_where.new.self.stand c.came_back-is_up.ensures.goes_on c.came_back-is_up.ensures.shown c.clears-is_cleared.ensures
    (k.0 ∙ c.stand_behind-self.ensures) met
    (subst (λ z. StopShows (λ d a. SideShows (g.H.Hand.shows w.hand x) w.out w.inn w.fresh w.duty d a) recover spot z c.args.self.now.spare l) o sh)
    (λ e. (ap (λ z. z.passing) (c.renew_where.ensures.still e), λ t. subst (λ z. g.H.Hand.awaits z.hand ≡ true) (sym (c.renew_where.ensures.still e)) t))
    (λ e. c.renew_where.ensures.passing e)
    (subst (λ z. StandPassing z (g.H.Hand.awaits w.hand) w.passing l) o h)

pub returns-clause-counts : goal.returns-clause-counts
returns-clause-counts g c = λ o x made recover spot back came l met sh counts h.
    let k = c.renew_where.ensures.kept in
    let w = c.args.self.now.side in
    let y = c.renew_where.new.self.side in
    opening_counts (λ d a. SideShows (g.H.Hand.shows w.hand x) w.out w.inn w.fresh w.duty d a) made recover spot c.args.self.now.spare c.args.up c.came_back-is_up.new.up l
    came c.args.counter c.args.body.now c.came_back-is_up.result c.clears-is_cleared.result w.read_at y.read_at y.pace (suc made) c.renew_where.new.self.stand c.came_back-is_up.ensures.goes_on c.came_back-is_up.ensures.shown c.clears-is_cleared.ensures
    (k.0 ∙ c.stand_behind-self.ensures) met
    (subst (λ z. StopShows (λ d a. SideShows (g.H.Hand.shows w.hand x) w.out w.inn w.fresh w.duty d a) recover spot z c.args.self.now.spare l) o sh)
    (λ e. ap (λ z. z.read_at) (c.renew_where.ensures.still e))
    (λ e. c.renew_where.ensures.read e)
    (subst (λ z. StandCounts z w.read_at w.pace made counts) o h) w.station w.pace made back counts

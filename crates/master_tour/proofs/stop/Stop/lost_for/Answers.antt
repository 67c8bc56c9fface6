use Rattle.std.proofs.Common.{sym, subst, ap, ◌∙◌, ◌≡◌, true, false}
use Rattle.std.specs.Prelude.{◌&&◌, nat_lt}
use Rattle.master_tour.specs.Stands.{IsSpot, FollowShows, given_where}
use Rattle.master_side.specs.of_frame_view.Seen.{seen}
use Rattle.master_side.specs.of_life_model.Lives.{life_lost}
use Rattle.master_side.specs.Shown.{SideShows}
use Rattle.master_tour.proofs.Backs.{gave_turned, lost_gave}
use Rattle.master_side.specs.Passing.{news_lost}
use Rattle.master_tour.specs.Passing.{StandPassing}
use Rattle.master_tour.proofs.stop.Stop.lost_for.Goals as goal

pub returns-then-not-gives-clause-lives : goal.returns-then-not-gives-clause-lives
returns-then-not-gives-clause-lives g c = λ x more passed number recover spot lens ns octets l sp u sh.
    let t = c.args.self.now in
    let f = c.lost.new.self in
    let y = c.lost.new.self.side in
    let m = life_lost x g.H.Hand.acknowledged more passed spot ns (seen lens octets) l l.stand in
    subst (λ z. FollowShows (λ d a. SideShows (g.H.Hand.shows y.hand x) y.out y.inn y.fresh y.duty d a) recover spot f.stand f.spare f.news l (given_where (z && t.under) recover spot number m)) (sym c.if-not-gives.true) (c.lost.ensures.lives x more passed recover spot lens ns octets l sp u sh)

pub returns-else-self-clause-lives : goal.returns-else-self-clause-lives
returns-else-self-clause-lives g c = λ x more passed number recover spot lens ns octets l sp u sh.
    let t = c.args.self.now in
    let f = c.lost.new.self in
    let y = c.lost.new.self.side in
    let m = life_lost x g.H.Hand.acknowledged more passed spot ns (seen lens octets) l l.stand in
    subst (λ z. FollowShows (λ d a. SideShows (g.H.Hand.shows y.hand x) y.out y.inn y.fresh y.duty d a) recover spot f.stand f.spare f.news l (given_where z recover spot number m)) (sym (ap (λ z. z && t.under) c.if-not-gives.false ∙ sym c.lost.ensures.under ∙ c.if-self.false)) (c.lost.ensures.lives x more passed recover spot lens ns octets l sp u sh)

pub returns-then-self-clause-lives : goal.returns-then-self-clause-lives
returns-then-self-clause-lives g c = λ x more passed number recover spot lens ns octets l sp u sh.
    let t = c.args.self.now in
    let f = c.give_up.new.self in
    let y = c.give_up.new.self.side in
    let m = life_lost x g.H.Hand.acknowledged more passed spot ns (seen lens octets) l l.stand in
    let first = c.lost.ensures.lives x more passed recover spot lens ns octets l sp u sh in
    let spot_is : IsSpot spot c.lost.new.self.side.station c.lost.new.self.place c.lost.new.self.start = record { station_is = c.lost.ensures.station ∙ sp.station_is; place_is = c.lost.ensures.kept.0 ∙ sp.place_is; start_is = c.lost.ensures.kept.1 ∙ sp.start_is; small = ap (λ k. nat_lt k 16) c.lost.ensures.kept.1 ∙ sp.small } in
    let second = c.give_up.ensures.lives x number recover spot m spot_is first.shown in
    subst (λ z. FollowShows (λ d a. SideShows (g.H.Hand.shows y.hand x) y.out y.inn y.fresh y.duty d a) recover spot f.stand f.spare f.news l (given_where z recover spot number m)) (sym (ap (λ z. z && t.under) c.if-not-gives.false ∙ sym c.lost.ensures.under ∙ c.if-self.true))
    (record { shown = second.shown; told = second.told ∙ gave_turned l m recover spot number (lost_gave x g.H.Hand.acknowledged more passed spot ns (seen lens octets) l l.stand) })

pub returns-then-not-gives-clause-again : goal.returns-then-not-gives-clause-again
returns-then-not-gives-clause-again g c = λ n. c.lost.ensures.again

pub returns-else-self-clause-again : goal.returns-else-self-clause-again
returns-else-self-clause-again g c = λ n. absurd (let d : false ≡ true = sym n ∙ c.if-not-gives.false in cc)

pub returns-then-self-clause-again : goal.returns-then-self-clause-again
returns-then-self-clause-again g c = λ n. absurd (let d : false ≡ true = sym n ∙ c.if-not-gives.false in cc)

pub returns-then-not-gives-clause-passing : goal.returns-then-not-gives-clause-passing
returns-then-not-gives-clause-passing g c = λ x number recover spot lens kept octets l sp u sh k h.
    let t = c.args.self.now in
    let f = c.lost.new.self in
    let m = life_lost x g.H.Hand.acknowledged g.H.Hand.more g.H.Hand.passed spot (news_lost t.side.station kept (seen lens octets)) (seen lens octets) l l.stand in
    subst (λ z. StandPassing f.stand (g.H.Hand.awaits f.side.hand) f.side.passing (given_where (z && t.under) recover spot number m)) (sym c.if-not-gives.true) (c.lost.ensures.passing x recover spot lens kept octets l sp u sh k h)

pub returns-else-self-clause-passing : goal.returns-else-self-clause-passing
returns-else-self-clause-passing g c = λ x number recover spot lens kept octets l sp u sh k h.
    let t = c.args.self.now in
    let f = c.lost.new.self in
    let m = life_lost x g.H.Hand.acknowledged g.H.Hand.more g.H.Hand.passed spot (news_lost t.side.station kept (seen lens octets)) (seen lens octets) l l.stand in
    subst (λ z. StandPassing f.stand (g.H.Hand.awaits f.side.hand) f.side.passing (given_where z recover spot number m)) (sym (ap (λ z. z && t.under) c.if-not-gives.false ∙ sym c.lost.ensures.under ∙ c.if-self.false)) (c.lost.ensures.passing x recover spot lens kept octets l sp u sh k h)

pub returns-then-self-clause-passing : goal.returns-then-self-clause-passing
returns-then-self-clause-passing g c = λ x number recover spot lens kept octets l sp u sh k h. c.give_up.ensures.passing _ _ _

pub returns-then-not-gives-clause-recalled : goal.returns-then-not-gives-clause-recalled
returns-then-not-gives-clause-recalled g c = (λ e. c.lost.ensures.recalled, λ k. c.lost.ensures.recalled.3 ∙ k)

pub returns-else-self-clause-recalled : goal.returns-else-self-clause-recalled
returns-else-self-clause-recalled g c = (λ e. c.lost.ensures.recalled, λ k. c.lost.ensures.recalled.3 ∙ k)

pub returns-then-self-clause-recalled : goal.returns-then-self-clause-recalled
returns-then-self-clause-recalled g c = (
  λ e. absurd (let t : true ≡ false = sym (ap (λ z. z && c.args.self.now.under) c.if-not-gives.false ∙ sym c.lost.ensures.under ∙ c.if-self.true) ∙ e in cc),
  λ k. c.give_up.ensures.knows (c.lost.ensures.recalled.3 ∙ k),
)

pub returns-then-self-clause-counts : goal.returns-then-self-clause-counts
returns-then-self-clause-counts g c = λ x made recover spot l sh counts h. c.give_up.ensures.counts _ _ _ _

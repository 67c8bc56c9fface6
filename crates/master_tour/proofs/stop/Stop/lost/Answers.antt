use Rattle.std.proofs.Common.{ℕ, sym, subst, ap, ◌∙◌, refl, suc, leb-true}
use Rattle.master_side.specs.of_frame_view.Seen.{seen}
use Rattle.master_side.specs.of_segment_model.Seats
use Rattle.master_side.specs.of_life_model.Lives.{life_lost}
use Rattle.master_side.specs.of_life_model.Own
use Rattle.master_side.specs.Shown.{SideShows}
use Rattle.master_tour.specs.Stands.{StopShows, FollowShows, StandUnder, is_open}
use Rattle.master_tour.proofs.Backs.{still_follows, lost_follows, own_lost, seen_aims}
use Rattle.master_tour.proofs.Rooms.{loses_gone, loses_opens, loses_open}
use Rattle.master_side.specs.Passing.{news_lost}
use Rattle.master_tour.specs.Passing.{StandPassing, StandKept}
use Rattle.master_tour.proofs.Passings.{lost_still, lost_open}
use Rattle.master_tour.proofs.Counting.{gone_counts, opening_stays, counts_open, lost_counts}
use Rattle.master_tour.proofs.stop.Stop.lost.Goals as goal

pub returns-in-Gone-clause-lives : goal.returns-in-Gone-clause-lives
returns-in-Gone-clause-lives g c = λ x more passed recover spot lens ns octets l sp u sh.
    let t = c.args.self.now in
    let w = c.args.self.now.side in
    let stood = (subst (λ z. StopShows (λ d a. SideShows (g.H.Hand.shows w.hand x) w.out w.inn w.fresh w.duty d a) recover spot z t.spare l) c.in-Gone.is sh).stood in
    still_follows (λ d a. SideShows (g.H.Hand.shows w.hand x) w.out w.inn w.fresh w.duty d a) x g.H.Hand.acknowledged more passed recover spot ns (seen lens octets) l t.stand t.spare _ (ap is_open stood) refl sh

pub returns-in-Opening-clause-lives : goal.returns-in-Opening-clause-lives
returns-in-Opening-clause-lives g c = λ x more passed recover spot lens ns octets l sp u sh.
    let t = c.args.self.now in
    let w = c.args.self.now.side in
    let stood = (subst (λ z. StopShows (λ d a. SideShows (g.H.Hand.shows w.hand x) w.out w.inn w.fresh w.duty d a) recover spot z t.spare l) c.in-Opening.is sh).stood in
    still_follows (λ d a. SideShows (g.H.Hand.shows w.hand x) w.out w.inn w.fresh w.duty d a) x g.H.Hand.acknowledged more passed recover spot ns (seen lens octets) l t.stand t.spare _ (ap is_open stood.stand) refl sh

pub returns-in-Open-clause-lives : goal.returns-in-Open-clause-lives
returns-in-Open-clause-lives g c = λ x more passed recover spot lens ns octets l sp u sh.
    let t = c.args.self.now in
    let w = c.args.self.now.side in
    let v = c.open_lost.new.self in
    let y = c.open_lost.new.self.side in
    let sent = seen lens octets in
    let kept = c.open_lost.ensures.kept in
    let stood = (subst (λ z. StopShows (λ d a. SideShows (g.H.Hand.shows w.hand x) w.out w.inn w.fresh w.duty d a) recover spot z t.spare l) c.in-Open.is sh).stood in
    let s = own_lost x (λ e. SideShows (g.H.Hand.shows y.hand x) y.out y.inn y.fresh y.duty e l.era.account) w.station sent l.era.side (seen_aims lens octets w.station t.named)
    (c.open_lost.ensures.shown x sent l.era.side l.era.account stood.1 (subst (λ z. StandUnder lens w.station t.at t.under w.carried z l sent) c.in-Open.is u)) in
    let there = subst (λ (z : ℕ). SideShows (g.H.Hand.shows y.hand x) y.out y.inn y.fresh y.duty (Seats.side_lost z (Own.own z sent) l.era.side) l.era.account) sp.station_is s in
    subst (λ z. FollowShows (λ d a. SideShows (g.H.Hand.shows y.hand x) y.out y.inn y.fresh y.duty d a) recover spot z v.spare v.news l (life_lost x g.H.Hand.acknowledged more passed spot ns sent l l.stand)) (sym (c.open_lost.ensures.stand ∙ c.in-Open.is))
    (lost_follows (λ d a. SideShows (g.H.Hand.shows y.hand x) y.out y.inn y.fresh y.duty d a) x g.H.Hand.acknowledged more passed recover spot ns sent l v.spare v.news stood.0 kept.3 there (kept.2 ∙ sh.spared))

pub returns-in-Gone-clause-again : goal.returns-in-Gone-clause-again
returns-in-Gone-clause-again g c = let t = c.args.self.now in loses_gone t.stand t.stand t.side t.side t.under c.in-Gone.is

pub returns-in-Opening-clause-again : goal.returns-in-Opening-clause-again
returns-in-Opening-clause-again g c = let t = c.args.self.now in loses_opens t.stand t.stand t.side t.side t.under _ c.in-Opening.is c.in-Opening.is

pub returns-in-Open-clause-again : goal.returns-in-Open-clause-again
returns-in-Open-clause-again g c = let t = c.args.self.now in loses_open t.stand c.open_lost.new.self.stand t.side c.open_lost.new.self.side t.under c.in-Open.is (c.open_lost.ensures.stand ∙ c.in-Open.is) c.open_lost.ensures.again

pub returns-in-Gone-clause-passing : goal.returns-in-Gone-clause-passing
returns-in-Gone-clause-passing g c = λ x recover spot lens kept octets l sp u sh k h.
    let t = c.args.self.now in
    let w = c.args.self.now.side in
    let stood = (subst (λ z. StopShows (λ d a. SideShows (g.H.Hand.shows w.hand x) w.out w.inn w.fresh w.duty d a) recover spot z t.spare l) c.in-Gone.is sh).stood in
    lost_still x g.H.Hand.acknowledged g.H.Hand.more g.H.Hand.passed spot (news_lost w.station kept (seen lens octets)) (seen lens octets) l t.stand (g.H.Hand.awaits w.hand) w.passing (ap is_open stood) h

pub returns-in-Opening-clause-passing : goal.returns-in-Opening-clause-passing
returns-in-Opening-clause-passing g c = λ x recover spot lens kept octets l sp u sh k h.
    let t = c.args.self.now in
    let w = c.args.self.now.side in
    let stood = (subst (λ z. StopShows (λ d a. SideShows (g.H.Hand.shows w.hand x) w.out w.inn w.fresh w.duty d a) recover spot z t.spare l) c.in-Opening.is sh).stood in
    lost_still x g.H.Hand.acknowledged g.H.Hand.more g.H.Hand.passed spot (news_lost w.station kept (seen lens octets)) (seen lens octets) l t.stand (g.H.Hand.awaits w.hand) w.passing (ap is_open stood.stand) h

pub returns-in-Open-clause-passing : goal.returns-in-Open-clause-passing
returns-in-Open-clause-passing g c = λ x recover spot lens kept octets l sp u sh k h.
    let t = c.args.self.now in
    let w = c.args.self.now.side in
    let v = c.open_lost.new.self in
    let sent = seen lens octets in
    let stood = (subst (λ z. StopShows (λ d a. SideShows (g.H.Hand.shows w.hand x) w.out w.inn w.fresh w.duty d a) recover spot z t.spare l) c.in-Open.is sh).stood in
    lost_open x g.H.Hand.acknowledged g.H.Hand.more g.H.Hand.passed spot (news_lost w.station kept sent) sent l v.stand (g.H.Hand.awaits v.side.hand) v.side.passing stood.0 (c.open_lost.ensures.stand ∙ c.in-Open.is)
    (c.open_lost.ensures.passing x kept l.era.passing sent l.era.side l.era.account stood.1 (subst (λ z. StandKept z kept l) c.in-Open.is k) (subst (λ z. StandPassing z (g.H.Hand.awaits w.hand) w.passing l) c.in-Open.is h) (subst (λ z. StandUnder lens w.station t.at t.under w.carried z l sent) c.in-Open.is u))

pub returns-in-Gone-clause-recalled : goal.returns-in-Gone-clause-recalled
returns-in-Gone-clause-recalled g c = (refl, refl, refl, refl, refl)

pub returns-in-Opening-clause-recalled : goal.returns-in-Opening-clause-recalled
returns-in-Opening-clause-recalled g c = (refl, refl, refl, refl, refl)

pub returns-in-Open-clause-recalled : goal.returns-in-Open-clause-recalled
returns-in-Open-clause-recalled g c = c.open_lost.ensures.recalled

pub returns-in-Gone-clause-counts : goal.returns-in-Gone-clause-counts
returns-in-Gone-clause-counts g c = λ x made recover spot l sh counts h. gone_counts c.args.self.now.stand _ _ _ _ c.in-Gone.is

pub returns-in-Opening-clause-counts : goal.returns-in-Opening-clause-counts
returns-in-Opening-clause-counts g c = λ x made recover spot l sh counts h.
    let t = c.args.self.now in
    opening_stays t.stand _ t.side.read_at t.side.read_at t.side.pace t.side.pace made (suc made) counts _ c.in-Opening.is refl h

pub returns-in-Open-clause-counts : goal.returns-in-Open-clause-counts
returns-in-Open-clause-counts g c = λ x made recover spot l sh counts h.
    let t = c.args.self.now in
    let w = c.args.self.now.side in
    let v = c.open_lost.new.self in
    let stood = (subst (λ z. StopShows (λ d a. SideShows (g.H.Hand.shows w.hand x) w.out w.inn w.fresh w.duty d a) recover spot z t.spare l) c.in-Open.is sh).stood in
    lost_counts l v.stand w.station w.pace v.side.pace made w.read_at v.side.read_at counts (c.open_lost.ensures.stand ∙ c.in-Open.is) stood.0 (leb-true 1 w.pace w.paced) c.open_lost.ensures.read.0 c.open_lost.ensures.read.1
    (counts_open t.stand w.read_at w.pace made counts c.in-Open.is h)

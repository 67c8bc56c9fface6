use Rattle.std.proofs.Common.{sym, subst, ap, ◌∙◌, get_or, ◌≤◌, suc, refl}
use Rattle.master_side.specs.of_datagrams.Frame.{parts_of}
use Rattle.master_side.specs.of_frame_view.Seen.{seen}
use Rattle.master_side.specs.of_life_model.Lives.{life_back}
use Rattle.master_side.specs.Shown.{SideShows}
use Rattle.master_tour.specs.Under.{no_part}
use Rattle.master_tour.specs.Stands.{StopShows, FollowShows, StandUnder, came_at, opening_of}
use Rattle.master_tour.proofs.Cursors.{stands_part, stands_in, parts_length, seen_parts}
use Rattle.master_tour.proofs.Backs.{opening_came, opening_there, nothing_came}
use Rattle.master_tour.specs.Passing.{StandPassing}
use Rattle.master_tour.proofs.Passings.{nothing_passing}
use Rattle.master_tour.proofs.Counting.{opening_stays}
use Rattle.master_tour.proofs.stop.Stop.opening_back.Goals as goal

pub body_of-requires : goal.body_of-requires
body_of-requires g c = stands_part c.args.octets.now c.requires.frame.0 c.seek.new.self.number c.seek.new.self.part c.requires.frame.1 c.seek.ensures.stands

pub returns-then-not-self-clause-lives : goal.returns-then-not-self-clause-lives
returns-then-not-self-clause-lives g c = λ o n x more passed number recover spot lens ns sent l r u sh.
    let t = c.args.self.now in
    let w = c.args.self.now.side in
    let back = seen lens c.args.octets.now in
    let s = (subst (λ z. StopShows (λ d a. SideShows (g.H.Hand.shows w.hand x) w.out w.inn w.fresh w.duty d a) recover spot z t.spare l) o sh).stood in
    nothing_came (λ d a. SideShows (g.H.Hand.shows w.hand x) w.out w.inn w.fresh w.duty d a) x g.H.Hand.acknowledged more passed number recover spot ns back l t.stand t.spare t.news (came_at t.under t.at back) _ (ap (λ z. came_at z t.at back) c.if-not-self.true) s.stand n sh

pub returns-then-seek-clause-lives : goal.returns-then-seek-clause-lives
returns-then-seek-clause-lives g c = λ o n x more passed number recover spot lens ns sent l r u sh.
    let t = c.args.self.now in
    let w = c.opening_met.new.self in
    let y = c.opening_met.new.self.side in
    let back = seen lens c.args.octets.now in
    let ds = c.requires.frame.0 in
    let here = stands_in ds c.seek.new.self.number c.seek.new.self.part no_part (c.seek.ensures.stands ds c.requires.frame.1) ∙ ap (λ k. get_or (parts_of 16 ds) k no_part) (c.seek.ensures.at c.if-seek.true) in
    let cm = opening_came lens c.args.octets.now c.body_of.result.now (parts_of 16 ds) c.seek.new.self.part no_part t.at t.under c.args.up sent back (seen_parts lens c.args.octets.now ds c.requires.frame.1) r (subst (λ z. StandUnder lens t.side.station t.at t.under t.side.carried z l sent) o u) c.if-not-self.false here c.body_of.ensures in
    subst (λ z. FollowShows (λ d a. SideShows (g.H.Hand.shows y.hand x) y.out y.inn y.fresh y.duty d a) recover spot w.stand w.spare w.news l (life_back x g.H.Hand.acknowledged more passed number spot ns back z l l.stand)) (sym cm.is)
    (c.opening_met.ensures.lives o x more passed number recover spot ns back cm.came l cm.met sh)

pub returns-else-seek-clause-lives : goal.returns-else-seek-clause-lives
returns-else-seek-clause-lives g c = λ o n x more passed number recover spot lens ns sent l r u sh.
    let t = c.args.self.now in
    let back = seen lens c.args.octets.now in
    let ds = c.requires.frame.0 in
    let short = subst (λ k. k ≤ t.at) (sym (parts_length 16 ds)) (c.seek.ensures.none c.if-seek.false ds c.requires.frame.1) in
    absurd (opening_there lens c.args.octets.now (parts_of 16 ds) t.at t.under c.args.up sent back (seen_parts lens c.args.octets.now ds c.requires.frame.1) r (subst (λ z. StandUnder lens t.side.station t.at t.under t.side.carried z l sent) o u) c.if-not-self.false short)

pub returns-then-not-self-clause-passing : goal.returns-then-not-self-clause-passing
returns-then-not-self-clause-passing g c = λ o x number recover spot lens ns sent l r u sh h.
    let t = c.args.self.now in
    let w = c.args.self.now.side in
    let back = seen lens c.args.octets.now in
    let s = (subst (λ z. StopShows (λ d a. SideShows (g.H.Hand.shows w.hand x) w.out w.inn w.fresh w.duty d a) recover spot z t.spare l) o sh).stood in
    nothing_passing x g.H.Hand.acknowledged g.H.Hand.more g.H.Hand.passed number spot ns back l (opening_of c.args.up s.own) (came_at t.under t.at back) t.stand (g.H.Hand.awaits w.hand) w.passing (ap (λ z. came_at z t.at back) c.if-not-self.true) s.stand h

pub returns-then-seek-clause-passing : goal.returns-then-seek-clause-passing
returns-then-seek-clause-passing g c = λ o x number recover spot lens ns sent l r u sh h.
    let t = c.args.self.now in
    let w = c.opening_met.new.self in
    let y = c.opening_met.new.self.side in
    let back = seen lens c.args.octets.now in
    let ds = c.requires.frame.0 in
    let here = stands_in ds c.seek.new.self.number c.seek.new.self.part no_part (c.seek.ensures.stands ds c.requires.frame.1) ∙ ap (λ k. get_or (parts_of 16 ds) k no_part) (c.seek.ensures.at c.if-seek.true) in
    let cm = opening_came lens c.args.octets.now c.body_of.result.now (parts_of 16 ds) c.seek.new.self.part no_part t.at t.under c.args.up sent back (seen_parts lens c.args.octets.now ds c.requires.frame.1) r (subst (λ z. StandUnder lens t.side.station t.at t.under t.side.carried z l sent) o u) c.if-not-self.false here c.body_of.ensures in
    subst (λ z. StandPassing w.stand (g.H.Hand.awaits y.hand) y.passing (life_back x g.H.Hand.acknowledged g.H.Hand.more g.H.Hand.passed number spot ns back z l l.stand)) (sym cm.is)
    (c.opening_met.ensures.passing o x number recover spot ns back cm.came l cm.met sh h)

pub returns-else-seek-clause-passing : goal.returns-else-seek-clause-passing
returns-else-seek-clause-passing g c = λ o x number recover spot lens ns sent l r u sh h.
    let t = c.args.self.now in
    let back = seen lens c.args.octets.now in
    let ds = c.requires.frame.0 in
    let short = subst (λ k. k ≤ t.at) (sym (parts_length 16 ds)) (c.seek.ensures.none c.if-seek.false ds c.requires.frame.1) in
    absurd (opening_there lens c.args.octets.now (parts_of 16 ds) t.at t.under c.args.up sent back (seen_parts lens c.args.octets.now ds c.requires.frame.1) r (subst (λ z. StandUnder lens t.side.station t.at t.under t.side.carried z l sent) o u) c.if-not-self.false short)

pub returns-then-not-self-clause-counts : goal.returns-then-not-self-clause-counts
returns-then-not-self-clause-counts g c = λ o made lens sent r x recover spot l u sh counts h.
    let t = c.args.self.now in
    opening_stays t.stand c.args.up t.side.read_at t.side.read_at t.side.pace t.side.pace made (suc made) counts _ o refl h

pub returns-then-seek-clause-counts : goal.returns-then-seek-clause-counts
returns-then-seek-clause-counts g c = λ o made lens sent r x recover spot l u sh counts h.
    let t = c.args.self.now in
    let back = seen lens c.args.octets.now in
    let ds = c.requires.frame.0 in
    let here = stands_in ds c.seek.new.self.number c.seek.new.self.part no_part (c.seek.ensures.stands ds c.requires.frame.1) ∙ ap (λ k. get_or (parts_of 16 ds) k no_part) (c.seek.ensures.at c.if-seek.true) in
    let cm = opening_came lens c.args.octets.now c.body_of.result.now (parts_of 16 ds) c.seek.new.self.part no_part t.at t.under c.args.up sent back (seen_parts lens c.args.octets.now ds c.requires.frame.1) r (subst (λ z. StandUnder lens t.side.station t.at t.under t.side.carried z l sent) o u) c.if-not-self.false here c.body_of.ensures in
    c.opening_met.ensures.counts o x made recover spot back cm.came l cm.met sh counts h

pub returns-else-seek-clause-counts : goal.returns-else-seek-clause-counts
returns-else-seek-clause-counts g c = λ o made lens sent r x recover spot l u sh counts h.
    let t = c.args.self.now in
    let back = seen lens c.args.octets.now in
    let ds = c.requires.frame.0 in
    let short = subst (λ k. k ≤ t.at) (sym (parts_length 16 ds)) (c.seek.ensures.none c.if-seek.false ds c.requires.frame.1) in
    absurd (opening_there lens c.args.octets.now (parts_of 16 ds) t.at t.under c.args.up sent back (seen_parts lens c.args.octets.now ds c.requires.frame.1) r (subst (λ z. StandUnder lens t.side.station t.at t.under t.side.carried z l sent) o u) c.if-not-self.false short)

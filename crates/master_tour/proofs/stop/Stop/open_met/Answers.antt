use Rattle.std.proofs.Common.{ℕ, sym, subst, ap, ◌∙◌, refl, ◌≡◌, true, suc}
use Rattle.std.specs.Prelude.{is_some, nat_lt}
use Rattle.master_side.specs.of_datagrams.Frame.{parts_of}
use Rattle.master_side.specs.of_frame_view.Seen.{seen}
use Rattle.master_side.specs.of_segment_model.Seats
use Rattle.master_side.specs.of_state_model.Accounts.{account_back, duty_access}
use Rattle.master_side.specs.of_life_model.Lives as Lives
use Rattle.master_side.specs.of_life_model.Lives.{era_back}
use Rattle.master_side.specs.of_life_model.Own
use Rattle.master_side.specs.of_link_model.Frames.{all_accepted}
use Rattle.master_side.specs.of_segment_model.Slaves.{grams}
use Rattle.master_side.specs.Heard.{Brought, HasJoined}
use Rattle.master_side.specs.Shown.{SideShows}
use Rattle.master_tour.specs.Stands.{StopShows, StandUnder, StandShows, IsSpot, came_at}
use Rattle.master_tour.proofs.Cursors.{seen_parts}
use Rattle.master_tour.proofs.Unders.{SameAim, aims, under_back}
use Rattle.master_tour.specs.Brings.{accepted_at, accepted_in}
use Rattle.master_tour.proofs.Backs.{own_back, own_accepted, open_follows}
use Rattle.master_tour.proofs.Joins.{still_joins}
use Rattle.master_side.specs.Passing.{counts_at, news_back}
use Rattle.master_tour.specs.Passing.{StandPassing, StandKept}
use Rattle.master_tour.proofs.Passings.{open_passing}
use Rattle.master_side.specs.Due.{EachDue}
use Rattle.master_tour.specs.Behind.{VisitBack}
use Rattle.master_side.specs.Counts.{counts_behind, counts_on}
use Rattle.master_tour.specs.Counting.{StandCounts}
use Rattle.master_tour.proofs.Counting.{counts_open, open_counts}
use Rattle.master_tour.proofs.stop.Stop.open_met.Goals as goal

pub returns-clause-lives : goal.returns-clause-lives
returns-clause-lives g c = λ o n x more passed number recover spot lens ns sent l sp r u sh.
    let t = c.args.self.now in
    let w = c.args.self.now.side in
    let v = c.open_back.new.self in
    let m = c.open_back.new.self.side in
    let f = c.reopen.new.self in
    let y = c.reopen.new.self.side in
    let back = seen lens c.args.octets.now in
    let ds = c.requires.frame.0 in
    let aim = subst (SameAim w.station) (sym (seen_parts lens c.args.octets.now ds c.requires.frame.1)) (aims lens c.args.octets.now w.station (parts_of 16 ds) t.named) in
    let stood = (subst (λ z. StopShows (λ d a. SideShows (g.H.Hand.shows w.hand x) w.out w.inn w.fresh w.duty d a) recover spot z t.spare l) o sh).stood in
    let under = under_back w.station t.at t.under w.carried l.era.side.halves (duty_access l.era.account.hand) sent back r (subst (λ z. StandUnder lens w.station t.at t.under w.carried z l sent) o u) in
    let s = own_back x (λ e b. SideShows (g.H.Hand.shows m.hand x) m.out m.inn m.fresh m.duty e b) number w.station back l.era.side l.era.account aim
    (c.open_back.ensures.shown x number lens back l.era.side l.era.account refl stood.1 under) in
    let now = era_back x g.H.Hand.acknowledged more passed spot.station number ns back l.era in
    let there = subst (λ (z : ℕ). SideShows (g.H.Hand.shows m.hand x) m.out m.inn m.fresh m.duty (Seats.side_back x number z (Own.own z back) l.era.side) (account_back z number l.era.account (Own.own z back))) sp.station_is s in
    let kept = c.open_back.ensures.kept in
    let spot_is : IsSpot spot m.station v.place v.start = record {
      station_is = c.open_back.ensures.link.station_is ∙ sp.station_is;
      place_is = kept.0 ∙ sp.place_is;
      start_is = kept.1 ∙ sp.start_is;
      small = ap (λ k. nat_lt k 16) kept.1 ∙ sp.small;
    } in
    open_follows (λ d a. SideShows (g.H.Hand.shows y.hand x) y.out y.inn y.fresh y.duty d a) x g.H.Hand.acknowledged more passed number recover spot ns back l f.stand f.spare f.news (came_at t.under t.at back) stood.0 (c.reopen.ensures.kept.3 ∙ kept.3 ∙ n)
    (c.reopen.ensures.lives (c.open_back.ensures.stand ∙ o) x recover spot (record l { era = now }) spot_is
    (record {
      stood = subst (λ z. StandShows (λ d a. SideShows (g.H.Hand.shows m.hand x) m.out m.inn m.fresh m.duty d a) spot z (record l { era = now })) (sym (c.open_back.ensures.stand ∙ o)) (stood.0, there);
      spared = kept.2 ∙ sh.spared;
      over = λ e. absurd (let k = sym (c.open_back.ensures.stand ∙ o) ∙ e in cc);
    }))

pub returns-clause-brought : goal.returns-clause-brought
returns-clause-brought g c = λ o n x recover spot lens sent l sp r u sh.
    let t = c.args.self.now in
    let w = c.args.self.now.side in
    let m = c.open_back.new.self.side in
    let back = seen lens c.args.octets.now in
    let h = l.era.side.halves in
    let ds = c.requires.frame.0 in
    let aim = subst (SameAim w.station) (sym (seen_parts lens c.args.octets.now ds c.requires.frame.1)) (aims lens c.args.octets.now w.station (parts_of 16 ds) t.named) in
    let stood = (subst (λ z. StopShows (λ d a. SideShows (g.H.Hand.shows w.hand x) w.out w.inn w.fresh w.duty d a) recover spot z t.spare l) o sh).stood in
    let under = under_back w.station t.at t.under w.carried h (duty_access l.era.account.hand) sent back r (subst (λ z. StandUnder lens w.station t.at t.under w.carried z l sent) o u) in
    let own = own_accepted (λ ms. Brought (g.H.Hand.brings m.hand) m.heard ms) w.station back h aim (c.open_back.ensures.brought n x lens back l.era.side l.era.account refl stood.1 under) in
    let there = subst (λ (z : ℕ). Brought (g.H.Hand.brings m.hand) m.heard (all_accepted z h (grams (Own.own z back)))) sp.station_is own in
    subst (λ z. Brought (g.H.Hand.brings z.hand) z.heard (accepted_in spot l back)) (sym c.reopen.ensures.side)
    (subst (λ (z : Lives.Stand). Brought (g.H.Hand.brings m.hand) m.heard (accepted_at spot.station h back z)) (sym stood.0) there)

pub returns-clause-replied : goal.returns-clause-replied
returns-clause-replied g c = λ o n lens sent r k x recover spot l sp u sh.
    let t = c.args.self.now in
    let w = c.args.self.now.side in
    let m = c.open_back.new.self.side in
    let back = seen lens c.args.octets.now in
    let h = l.era.side.halves in
    let ds = c.requires.frame.0 in
    let aim = subst (SameAim w.station) (sym (seen_parts lens c.args.octets.now ds c.requires.frame.1)) (aims lens c.args.octets.now w.station (parts_of 16 ds) t.named) in
    let stood = (subst (λ z. StopShows (λ d a. SideShows (g.H.Hand.shows w.hand x) w.out w.inn w.fresh w.duty d a) recover spot z t.spare l) o sh).stood in
    let under = under_back w.station t.at t.under w.carried h (duty_access l.era.account.hand) sent back r (subst (λ z. StandUnder lens w.station t.at t.under w.carried z l sent) o u) in
    let own = own_accepted (λ ms. Brought (g.H.Hand.replied m.hand (g.H.Hand.awaits w.hand)) m.heard ms) w.station back h aim (c.open_back.ensures.replied n x lens l.era.side l.era.account stood.1 under) in
    let there = subst (λ (z : ℕ). Brought (g.H.Hand.replied m.hand (g.H.Hand.awaits w.hand)) m.heard (all_accepted z h (grams (Own.own z back)))) sp.station_is own in
    subst (λ z. Brought (g.H.Hand.replied z.hand (g.H.Hand.awaits w.hand)) z.heard (accepted_in spot l back)) (sym c.reopen.ensures.side)
    (subst (λ (z : Lives.Stand). Brought (g.H.Hand.replied m.hand (g.H.Hand.awaits w.hand)) m.heard (accepted_at spot.station h back z)) (sym stood.0) there)

pub returns-clause-joined : goal.returns-clause-joined
returns-clause-joined g c = λ o q n x recover spot lens sent l sp r u sh.
    let t = c.args.self.now in
    let w = c.args.self.now.side in
    let m = c.open_back.new.self.side in
    let back = seen lens c.args.octets.now in
    let h = l.era.side.halves in
    let ds = c.requires.frame.0 in
    let aim = subst (SameAim w.station) (sym (seen_parts lens c.args.octets.now ds c.requires.frame.1)) (aims lens c.args.octets.now w.station (parts_of 16 ds) t.named) in
    let stood = (subst (λ z. StopShows (λ d a. SideShows (g.H.Hand.shows w.hand x) w.out w.inn w.fresh w.duty d a) recover spot z t.spare l) o sh).stood in
    let under = under_back w.station t.at t.under w.carried h (duty_access l.era.account.hand) sent back r (subst (λ z. StandUnder lens w.station t.at t.under w.carried z l sent) o u) in
    let own = own_accepted (λ ms. HasJoined g.H.Hand.joined (g.H.Hand.completed m.hand) (g.H.Hand.join w.hand) (g.H.Hand.join m.hand) m.heard ms) w.station back h aim (c.open_back.ensures.joined n x lens back l.era.side l.era.account refl stood.1 under) in
    let there = subst (λ (z : ℕ). HasJoined g.H.Hand.joined (g.H.Hand.completed m.hand) (g.H.Hand.join w.hand) (g.H.Hand.join m.hand) m.heard (all_accepted z h (grams (Own.own z back)))) sp.station_is own in
    let there_now = subst (λ (z : Lives.Stand). HasJoined g.H.Hand.joined (g.H.Hand.completed m.hand) (g.H.Hand.join w.hand) (g.H.Hand.join m.hand) m.heard (accepted_at spot.station h back z)) (sym stood.0) there in
    let kept = subst (λ z. HasJoined g.H.Hand.joined (g.H.Hand.completed z.hand) (g.H.Hand.join w.hand) (g.H.Hand.join z.hand) z.heard (accepted_in spot l back)) (sym c.reopen.ensures.side) there_now in
    still_joins g.H.Hand.unjoined g.H.Hand.joined _ c.reopen.new.self.news _ _ _ _ (c.reopen.ensures.kept.3 ∙ c.open_back.ensures.kept.3 ∙ q) kept

pub returns-clause-passing : goal.returns-clause-passing
returns-clause-passing g c = λ o x number recover spot lens kept sent l sp r u sh k h.
    let t = c.args.self.now in
    let w = c.args.self.now.side in
    let v = c.open_back.new.self in
    let m = c.open_back.new.self.side in
    let f = c.reopen.new.self in
    let back = seen lens c.args.octets.now in
    let ns = news_back w.station kept (counts_at w.read_at w.pace c.args.made) back in
    let stood = (subst (λ z. StopShows (λ d a. SideShows (g.H.Hand.shows w.hand x) w.out w.inn w.fresh w.duty d a) recover spot z t.spare l) o sh).stood in
    let under = under_back w.station t.at t.under w.carried l.era.side.halves (duty_access l.era.account.hand) sent back r (subst (λ z. StandUnder lens w.station t.at t.under w.carried z l sent) o u) in
    let now = era_back x g.H.Hand.acknowledged g.H.Hand.more g.H.Hand.passed spot.station number ns back l.era in
    let first = c.open_back.ensures.passing x lens kept l.era.passing back l.era.side l.era.account refl stood.1 (subst (λ z. StandKept z kept l) o k) (subst (λ z. StandPassing z (g.H.Hand.awaits w.hand) w.passing l) o h) under in
    let there = subst (λ z. StandPassing z (g.H.Hand.awaits m.hand) m.passing (record l { era = now })) (sym (c.open_back.ensures.stand ∙ o)) first in
    open_passing x g.H.Hand.acknowledged g.H.Hand.more g.H.Hand.passed number spot ns back l (came_at t.under t.at back) f.stand (g.H.Hand.awaits f.side.hand) f.side.passing stood.0
    (subst (λ z. StandPassing f.stand (g.H.Hand.awaits z.hand) z.passing (Lives.reopens (record l { era = now }) now.account.hand)) (sym c.reopen.ensures.side)
    (c.reopen.ensures.passing (record l { era = now }) now.account.hand (g.H.Hand.awaits m.hand) m.passing there))

pub returns-clause-recalls : goal.returns-clause-recalls
returns-clause-recalls g c = λ o x recover spot lens sent l sp r u sh.
    let t = c.args.self.now in
    let w = c.args.self.now.side in
    let back = seen lens c.args.octets.now in
    let h = l.era.side.halves in
    let now = l.era.side.now in
    let ds = c.requires.frame.0 in
    let aim = subst (SameAim w.station) (sym (seen_parts lens c.args.octets.now ds c.requires.frame.1)) (aims lens c.args.octets.now w.station (parts_of 16 ds) t.named) in
    let stood = (subst (λ z. StopShows (λ d a. SideShows (g.H.Hand.shows w.hand x) w.out w.inn w.fresh w.duty d a) recover spot z t.spare l) o sh).stood in
    let under = under_back w.station t.at t.under w.carried h (duty_access l.era.account.hand) sent back r (subst (λ z. StandUnder lens w.station t.at t.under w.carried z l sent) o u) in
    let all = own_accepted (λ ms. EachDue x now ms → EachDue x now (all_accepted w.station h (grams back))) w.station back h aim (λ q. q) in
    record {
      visited = λ q v b n. subst (λ z. VisitBack l.era.account b w z) (sym c.reopen.ensures.side) (c.open_back.ensures.met v x lens back l.era.side l.era.account refl stood.1 under b n);
      unvisited = λ q v.
          let e = c.reopen.ensures.side ∙ c.open_back.ensures.unmet v in
          (ap (λ z. z.paused) e, ap (λ z. z.turn) e, ap (λ z. z.duty) e, ap (λ z. g.H.Hand.knows z.hand) e, ap (λ z. is_some z.passing) e);
      known = λ k due.
          let own = subst (λ (z : Lives.Stand). EachDue x now (accepted_at spot.station h back z)) stood.0 (due stood.0) in
          let here = subst (λ (z : ℕ). EachDue x now (all_accepted z h (grams (Own.own z back)))) (sym sp.station_is) own in
          subst (λ z. g.H.Hand.knows z.hand ≡ true) (sym c.reopen.ensures.side) (c.open_back.ensures.knows x lens back l.era.side l.era.account refl stood.1 under k (all here));
      sure = λ q k. c.open_back.ensures.sure (subst (λ z. g.H.Hand.knows z.hand ≡ true) c.reopen.ensures.side k);
    }

pub returns-clause-counts : goal.returns-clause-counts
returns-clause-counts g c = λ o lens sent r x recover spot l u sh counts h.
    let t = c.args.self.now in
    let w = c.args.self.now.side in
    let v = c.open_back.new.self in
    let m = c.open_back.new.self.side in
    let f = c.reopen.new.self in
    let back = seen lens c.args.octets.now in
    let stood = (subst (λ z. StopShows (λ d a. SideShows (g.H.Hand.shows w.hand x) w.out w.inn w.fresh w.duty d a) recover spot z t.spare l) o sh).stood in
    let under = under_back w.station t.at t.under w.carried l.era.side.halves (duty_access l.era.account.hand) sent back r (subst (λ z. StandUnder lens w.station t.at t.under w.carried z l sent) o u) in
    let after = counts_behind w.station w.pace c.args.made back counts in
    let first = c.open_back.ensures.counts x lens counts back l.era.side l.era.account refl stood.1 under (counts_open t.stand w.read_at w.pace c.args.made counts o h) in
    let there = open_counts v.stand m.read_at m.pace (suc c.args.made) after (c.open_back.ensures.stand ∙ o) first in
    subst (λ (z : Lives.Stand). StandCounts f.stand f.side.read_at f.side.pace (suc c.args.made) (counts_on z w.station w.pace c.args.made back counts)) (sym stood.0)
    (subst (λ z. StandCounts f.stand z.read_at z.pace (suc c.args.made) after) (sym c.reopen.ensures.side)
    (c.reopen.ensures.counts m.read_at m.pace (suc c.args.made) after there))

use Rattle.std.proofs.Common.{◌≡◌, ◌+◌, List, ℕ, sym, ◌∙◌, arith, add-one}
use Rattle.std.specs.Prelude.{◌&&◌, Bool, false, None}
use Rattle.master_side.specs.of_segment_model.Record.{News, Kept}
use Rattle.master_side.specs.of_life_model.Lives.{Life, Spot, life_lost}
use Rattle.master_tour.specs.Stands.{StopShows, FollowShows, IsSpot, StandUnder, given_where}
use Rattle.master_side.specs.of_frame_view.View.{Lens}
use Rattle.master_side.specs.of_frame_view.Seen.{seen}
use Rattle.master_side.specs.of_exchange_model.Exchange.{Speech}
use Rattle.master_side.specs.of_link_mails.Body.{Body}
use Rattle.master_side.specs.of_master_duty.Reply.{Reply}
use Rattle.master_side.specs.Shown.{SideShows}
use Rattle.master_tour.proofs.Walks.{walk_on, walk_over, walked_length}
use Rattle.master_side.specs.of_mailbox_master.Any.{in_area_len}
use Rattle.master_side.specs.Sent.{SameLink}
use Rattle.master_tour.specs.Made.{IsSized}
use Rattle.master_tour.specs.Rooms.{LosesAgain}
use Rattle.master_side.specs.Passing.{news_lost}
use Rattle.master_tour.specs.Passing.{StandPassing, StandKept}
use Rattle.master_tour.specs.Behind.{StopLost}
use Rattle.master_tour.specs.Counting.{LostCounts}
use Rattle.master_tour.proofs.tour.Tour.all_lost.Goals as goal

pub loop-i-preserved : goal.loop-i-preserved
loop-i-preserved g c =
    let len = c.len-i-end.ensures in
    let test = c.loop-i-test.true in (
      walk_on (λ s t. (g.H.Hand.script t.side.hand ≡ g.H.Hand.script s.side.hand) × (s.side.passing ≡ None → t.side.passing ≡ None))
          c.loop-i.i (c.loop-i.i + 1) c.args.self.now.stops.items c.loop-i.self.stops.items c.index_mut.result.now c.lost_for.new.self (add-one c.loop-i.i) c.loop-i.invariant.0 (let e = len ∙ c.args.self.now.stops.ok.0 in omega (arith, test, e)) c.index_mut.ensures.value (c.lost_for.ensures.script, c.lost_for.ensures.unpassed),
      walk_on (λ s t. ((lens : ℕ → Lens) (octets : List ℕ) → (x : Speech Body g.H.Hand.Asked Reply) (more : Body → Bool) (passed : g.H.Hand.Asked → Bool) (number recover : ℕ) (spot : Spot) (ns : List (News Body)) (k : Life Body g.H.Hand.Asked Reply) →
          IsSpot spot s.side.station s.place s.start → StandUnder lens s.side.station s.at s.under s.side.carried s.stand k (seen lens octets) → StopShows (λ d a. SideShows (g.H.Hand.shows s.side.hand x) s.side.out s.side.inn s.side.fresh s.side.duty d a) recover spot s.stand s.spare k →
          FollowShows (λ d a. SideShows (g.H.Hand.shows t.side.hand x) t.side.out t.side.inn t.side.fresh t.side.duty d a) recover spot t.stand t.spare t.news k (given_where (c.args.gives && s.under) recover spot number (life_lost x g.H.Hand.acknowledged more passed spot ns (seen lens octets) k k.stand))) × (t.place ≡ s.place) × (t.start ≡ s.start))
          c.loop-i.i (c.loop-i.i + 1) c.args.self.now.stops.items c.loop-i.self.stops.items c.index_mut.result.now c.lost_for.new.self (add-one c.loop-i.i) c.loop-i.invariant.1 (let e = len ∙ c.args.self.now.stops.ok.0 in omega (arith, test, e)) c.index_mut.ensures.value ((λ lens octets x more passed number recover spot ns k p u h. c.lost_for.ensures.lives x more passed number recover spot lens ns octets k p u h), c.lost_for.ensures.kept.0, c.lost_for.ensures.kept.1),
      walk_on (λ s t. SameLink s.side.out s.side.inn s.side.station s.side.area t.side.out t.side.inn t.side.station t.side.area × (IsSized s.stand s.side.out.len (in_area_len s.side.inn) → IsSized t.stand t.side.out.len (in_area_len t.side.inn)))
          c.loop-i.i (c.loop-i.i + 1) c.args.self.now.stops.items c.loop-i.self.stops.items c.index_mut.result.now c.lost_for.new.self (add-one c.loop-i.i) c.loop-i.invariant.2 (let e = len ∙ c.args.self.now.stops.ok.0 in omega (arith, test, e)) c.index_mut.ensures.value (c.lost_for.ensures.link, c.lost_for.ensures.sized),
      c.loop-i.invariant.3,
      c.loop-i.invariant.4,
      c.loop-i.invariant.5,
      c.loop-i.invariant.6,
      c.loop-i.invariant.7,
      c.loop-i.invariant.8,
      walk_on (λ s t. (c.args.gives && s.under) ≡ false → g.H.Hand.join t.side.hand ≡ g.H.Hand.join s.side.hand)
          c.loop-i.i (c.loop-i.i + 1) c.args.self.now.stops.items c.loop-i.self.stops.items c.index_mut.result.now c.lost_for.new.self (add-one c.loop-i.i) c.loop-i.invariant.9 (let e = len ∙ c.args.self.now.stops.ok.0 in omega (arith, test, e)) c.index_mut.ensures.value c.lost_for.ensures.join,
      walk_on (λ s t. c.args.gives ≡ false → LosesAgain s t)
          c.loop-i.i (c.loop-i.i + 1) c.args.self.now.stops.items c.loop-i.self.stops.items c.index_mut.result.now c.lost_for.new.self (add-one c.loop-i.i) c.loop-i.invariant.10 (let e = len ∙ c.args.self.now.stops.ok.0 in omega (arith, test, e)) c.index_mut.ensures.value c.lost_for.ensures.again,
      walk_on (λ s t. (lens : ℕ → Lens) (octets : List ℕ) (x : Speech Body g.H.Hand.Asked Reply) (number recover : ℕ) (spot : Spot) (kept : Kept) (k : Life Body g.H.Hand.Asked Reply) → IsSpot spot s.side.station s.place s.start → StandUnder lens s.side.station s.at s.under s.side.carried s.stand k (seen lens octets) → StopShows (λ d a. SideShows (g.H.Hand.shows s.side.hand x) s.side.out s.side.inn s.side.fresh s.side.duty d a) recover spot s.stand s.spare k → StandKept s.stand kept k → StandPassing s.stand (g.H.Hand.awaits s.side.hand) s.side.passing k → StandPassing t.stand (g.H.Hand.awaits t.side.hand) t.side.passing (given_where (c.args.gives && s.under) recover spot number (life_lost x g.H.Hand.acknowledged g.H.Hand.more g.H.Hand.passed spot (news_lost s.side.station kept (seen lens octets)) (seen lens octets) k k.stand)))
          c.loop-i.i (c.loop-i.i + 1) c.args.self.now.stops.items c.loop-i.self.stops.items c.index_mut.result.now c.lost_for.new.self (add-one c.loop-i.i) c.loop-i.invariant.11 (let e = len ∙ c.args.self.now.stops.ok.0 in omega (arith, test, e)) c.index_mut.ensures.value (λ lens octets x number recover spot kept k i u h m p. c.lost_for.ensures.passing x number recover spot lens kept octets k i u h m p),
      walk_on (λ s t. LostCounts s t)
          c.loop-i.i (c.loop-i.i + 1) c.args.self.now.stops.items c.loop-i.self.stops.items c.index_mut.result.now c.lost_for.new.self (add-one c.loop-i.i) c.loop-i.invariant.12 (let e = len ∙ c.args.self.now.stops.ok.0 in omega (arith, test, e)) c.index_mut.ensures.value c.lost_for.ensures.counts,
      walk_on (λ s t. t.side.pace ≡ s.side.pace)
          c.loop-i.i (c.loop-i.i + 1) c.args.self.now.stops.items c.loop-i.self.stops.items c.index_mut.result.now c.lost_for.new.self (add-one c.loop-i.i) c.loop-i.invariant.13 (let e = len ∙ c.args.self.now.stops.ok.0 in omega (arith, test, e)) c.index_mut.ensures.value c.lost_for.ensures.pace,
      walk_on (λ s t. StopLost c.args.gives (g.H.Hand.knows s.side.hand) (g.H.Hand.knows t.side.hand) s t)
          c.loop-i.i (c.loop-i.i + 1) c.args.self.now.stops.items c.loop-i.self.stops.items c.index_mut.result.now c.lost_for.new.self (add-one c.loop-i.i) c.loop-i.invariant.14 (let e = len ∙ c.args.self.now.stops.ok.0 in omega (arith, test, e)) c.index_mut.ensures.value c.lost_for.ensures.recalled,
    )

pub returns : goal.returns
returns g c =
    let len = c.len-i-end.ensures in
    let test = c.loop-i-test.false in
    record {
      stays = walk_over (λ s t. (g.H.Hand.script t.side.hand ≡ g.H.Hand.script s.side.hand) × (s.side.passing ≡ None → t.side.passing ≡ None)) c.loop-i.i c.args.self.now.stops.items c.loop-i.self.stops.items (let e = len ∙ c.args.self.now.stops.ok.0 in omega (arith, test, e)) c.loop-i.invariant.0;
      lives = walk_over (λ s t. ((lens : ℕ → Lens) (octets : List ℕ) → (x : Speech Body g.H.Hand.Asked Reply) (more : Body → Bool) (passed : g.H.Hand.Asked → Bool) (number recover : ℕ) (spot : Spot) (ns : List (News Body)) (k : Life Body g.H.Hand.Asked Reply) →
          IsSpot spot s.side.station s.place s.start → StandUnder lens s.side.station s.at s.under s.side.carried s.stand k (seen lens octets) → StopShows (λ d a. SideShows (g.H.Hand.shows s.side.hand x) s.side.out s.side.inn s.side.fresh s.side.duty d a) recover spot s.stand s.spare k →
          FollowShows (λ d a. SideShows (g.H.Hand.shows t.side.hand x) t.side.out t.side.inn t.side.fresh t.side.duty d a) recover spot t.stand t.spare t.news k (given_where (c.args.gives && s.under) recover spot number (life_lost x g.H.Hand.acknowledged more passed spot ns (seen lens octets) k k.stand))) × (t.place ≡ s.place) × (t.start ≡ s.start)) c.loop-i.i c.args.self.now.stops.items c.loop-i.self.stops.items (let e = len ∙ c.args.self.now.stops.ok.0 in omega (arith, test, e)) c.loop-i.invariant.1;
      kept = walk_over (λ s t. SameLink s.side.out s.side.inn s.side.station s.side.area t.side.out t.side.inn t.side.station t.side.area × (IsSized s.stand s.side.out.len (in_area_len s.side.inn) → IsSized t.stand t.side.out.len (in_area_len t.side.inn))) c.loop-i.i c.args.self.now.stops.items c.loop-i.self.stops.items (let e = len ∙ c.args.self.now.stops.ok.0 in omega (arith, test, e)) c.loop-i.invariant.2;
      tour = (c.loop-i.invariant.3, c.loop-i.invariant.4, c.loop-i.invariant.5, c.loop-i.invariant.6, c.loop-i.invariant.7, c.loop-i.invariant.8);
      join = walk_over (λ s t. (c.args.gives && s.under) ≡ false → g.H.Hand.join t.side.hand ≡ g.H.Hand.join s.side.hand) c.loop-i.i c.args.self.now.stops.items c.loop-i.self.stops.items (let e = len ∙ c.args.self.now.stops.ok.0 in omega (arith, test, e)) c.loop-i.invariant.9;
      recalled = walk_over (λ s t. StopLost c.args.gives (g.H.Hand.knows s.side.hand) (g.H.Hand.knows t.side.hand) s t) c.loop-i.i c.args.self.now.stops.items c.loop-i.self.stops.items (let e = len ∙ c.args.self.now.stops.ok.0 in omega (arith, test, e)) c.loop-i.invariant.14;
      again = walk_over (λ s t. c.args.gives ≡ false → LosesAgain s t) c.loop-i.i c.args.self.now.stops.items c.loop-i.self.stops.items (let e = len ∙ c.args.self.now.stops.ok.0 in omega (arith, test, e)) c.loop-i.invariant.10;
      passing = walk_over (λ s t. (lens : ℕ → Lens) (octets : List ℕ) (x : Speech Body g.H.Hand.Asked Reply) (number recover : ℕ) (spot : Spot) (kept : Kept) (k : Life Body g.H.Hand.Asked Reply) → IsSpot spot s.side.station s.place s.start → StandUnder lens s.side.station s.at s.under s.side.carried s.stand k (seen lens octets) → StopShows (λ d a. SideShows (g.H.Hand.shows s.side.hand x) s.side.out s.side.inn s.side.fresh s.side.duty d a) recover spot s.stand s.spare k → StandKept s.stand kept k → StandPassing s.stand (g.H.Hand.awaits s.side.hand) s.side.passing k → StandPassing t.stand (g.H.Hand.awaits t.side.hand) t.side.passing (given_where (c.args.gives && s.under) recover spot number (life_lost x g.H.Hand.acknowledged g.H.Hand.more g.H.Hand.passed spot (news_lost s.side.station kept (seen lens octets)) (seen lens octets) k k.stand))) c.loop-i.i c.args.self.now.stops.items c.loop-i.self.stops.items (let e = len ∙ c.args.self.now.stops.ok.0 in omega (arith, test, e)) c.loop-i.invariant.11;
      counts = walk_over (λ s t. LostCounts s t) c.loop-i.i c.args.self.now.stops.items c.loop-i.self.stops.items (let e = len ∙ c.args.self.now.stops.ok.0 in omega (arith, test, e)) c.loop-i.invariant.12;
      pace = walk_over (λ s t. t.side.pace ≡ s.side.pace) c.loop-i.i c.args.self.now.stops.items c.loop-i.self.stops.items (let e = len ∙ c.args.self.now.stops.ok.0 in omega (arith, test, e)) c.loop-i.invariant.13;
      long = sym (walked_length _ c.loop-i.i c.args.self.now.stops.items c.loop-i.self.stops.items c.loop-i.invariant.0);
    }

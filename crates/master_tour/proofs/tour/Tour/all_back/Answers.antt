use Rattle.std.proofs.Common.{◌≡◌, ℕ, ◌+◌, List, sym, ◌∙◌, arith, add-one}
use Rattle.std.specs.Prelude.{Bool, None}
use Rattle.master_side.specs.of_segment_model.Returned.{Returns}
use Rattle.master_side.specs.of_segment_model.Record.{News, Kept}
use Rattle.master_side.specs.of_life_model.Lives.{Life, Spot, life_back}
use Rattle.master_tour.specs.Stands.{StopShows, FollowShows, IsSpot, StandUnder, came_at}
use Rattle.master_side.specs.of_exchange_model.Exchange.{Speech}
use Rattle.master_side.specs.of_link_mails.Body.{Body}
use Rattle.master_side.specs.of_segment_model.Slaves.{Datagram}
use Rattle.master_side.specs.of_frame_view.Seen.{seen}
use Rattle.master_side.specs.of_frame_view.View.{Lens}
use Rattle.master_side.specs.of_master_duty.Reply.{Reply}
use Rattle.master_side.specs.Heard.{Brought}
use Rattle.master_tour.specs.Brings.{accepted_in}
use Rattle.master_tour.specs.Joins.{Joins}
use Rattle.master_tour.specs.Replied.{StopReplies}
use Rattle.master_tour.specs.Behind.{StopBack}
use Rattle.master_side.specs.Shown.{SideShows}
use Rattle.master_tour.proofs.Walks.{walk_on, walk_over, walked_length}
use Rattle.master_side.specs.of_mailbox_master.Any.{in_area_len}
use Rattle.master_side.specs.Sent.{SameLink}
use Rattle.master_tour.specs.Made.{IsSized}
use Rattle.master_side.specs.Passing.{counts_at, news_back}
use Rattle.master_tour.specs.Passing.{StandPassing, StandKept}
use Rattle.master_tour.specs.Counting.{CameCounts}
use Rattle.master_tour.proofs.tour.Tour.all_back.Goals as goal

pub loop-i-preserved : goal.loop-i-preserved
loop-i-preserved g c =
    let len = c.len-i-end.ensures in
    let test = c.loop-i-test.true in (
      c.back.ensures.stands,
      walk_on (λ s t. (g.H.Hand.script t.side.hand ≡ g.H.Hand.script s.side.hand) × (s.side.passing ≡ None → t.side.passing ≡ None))
          c.loop-i.i (c.loop-i.i + 1) c.args.self.now.stops.items c.loop-i.self.stops.items c.index_mut.result.now c.back.new.self (add-one c.loop-i.i) c.loop-i.invariant.1 (let e = len ∙ c.args.self.now.stops.ok.0 in omega (arith, test, e)) c.index_mut.ensures.value (c.back.ensures.script, c.back.ensures.unpassed),
      walk_on (λ s t. ((lens : ℕ → Lens) (sent : List (Datagram Body)) → Returns sent (seen lens c.args.octets.now) → (x : Speech Body g.H.Hand.Asked Reply) (more : Body → Bool) (passed : g.H.Hand.Asked → Bool) (number recover : ℕ) (spot : Spot) (ns : List (News Body)) (k : Life Body g.H.Hand.Asked Reply) →
          IsSpot spot s.side.station s.place s.start → StandUnder lens s.side.station s.at s.under s.side.carried s.stand k sent → StopShows (λ d a. SideShows (g.H.Hand.shows s.side.hand x) s.side.out s.side.inn s.side.fresh s.side.duty d a) recover spot s.stand s.spare k →
          FollowShows (λ d a. SideShows (g.H.Hand.shows t.side.hand x) t.side.out t.side.inn t.side.fresh t.side.duty d a) recover spot t.stand t.spare t.news k (life_back x g.H.Hand.acknowledged more passed number spot ns (seen lens c.args.octets.now) (came_at s.under s.at (seen lens c.args.octets.now)) k k.stand)) × (t.place ≡ s.place) × (t.start ≡ s.start))
          c.loop-i.i (c.loop-i.i + 1) c.args.self.now.stops.items c.loop-i.self.stops.items c.index_mut.result.now c.back.new.self (add-one c.loop-i.i) c.loop-i.invariant.2 (let e = len ∙ c.args.self.now.stops.ok.0 in omega (arith, test, e)) c.index_mut.ensures.value ((λ lens sent r x more passed number recover spot ns k p u h. c.back.ensures.lives x more passed number recover spot lens ns sent k p r u h), c.back.ensures.kept.0, c.back.ensures.kept.1),
      walk_on (λ s t. SameLink s.side.out s.side.inn s.side.station s.side.area t.side.out t.side.inn t.side.station t.side.area × (IsSized s.stand s.side.out.len (in_area_len s.side.inn) → IsSized t.stand t.side.out.len (in_area_len t.side.inn)))
          c.loop-i.i (c.loop-i.i + 1) c.args.self.now.stops.items c.loop-i.self.stops.items c.index_mut.result.now c.back.new.self (add-one c.loop-i.i) c.loop-i.invariant.3 (let e = len ∙ c.args.self.now.stops.ok.0 in omega (arith, test, e)) c.index_mut.ensures.value (c.back.ensures.link, c.back.ensures.sized),
      c.loop-i.invariant.4,
      c.loop-i.invariant.5,
      c.loop-i.invariant.6,
      c.loop-i.invariant.7,
      c.loop-i.invariant.8,
      c.loop-i.invariant.9,
      walk_on (λ s t. (lens : ℕ → Lens) (sent : List (Datagram Body)) → Returns sent (seen lens c.args.octets.now) → (x : Speech Body g.H.Hand.Asked Reply) (recover : ℕ) (spot : Spot) (k : Life Body g.H.Hand.Asked Reply) →
          IsSpot spot s.side.station s.place s.start → StandUnder lens s.side.station s.at s.under s.side.carried s.stand k sent → StopShows (λ d a. SideShows (g.H.Hand.shows s.side.hand x) s.side.out s.side.inn s.side.fresh s.side.duty d a) recover spot s.stand s.spare k →
          Brought (g.H.Hand.brings t.side.hand) t.side.heard (accepted_in spot k (seen lens c.args.octets.now)))
          c.loop-i.i (c.loop-i.i + 1) c.args.self.now.stops.items c.loop-i.self.stops.items c.index_mut.result.now c.back.new.self (add-one c.loop-i.i) c.loop-i.invariant.10 (let e = len ∙ c.args.self.now.stops.ok.0 in omega (arith, test, e)) c.index_mut.ensures.value (λ lens sent r x recover spot k p u h. c.back.ensures.brought x recover spot lens sent k p r u h),
      walk_on (λ s t. (lens : ℕ → Lens) (sent : List (Datagram Body)) → Returns sent (seen lens c.args.octets.now) → (x : Speech Body g.H.Hand.Asked Reply) (recover : ℕ) (spot : Spot) (k : Life Body g.H.Hand.Asked Reply) →
          IsSpot spot s.side.station s.place s.start → StandUnder lens s.side.station s.at s.under s.side.carried s.stand k sent → StopShows (λ d a. SideShows (g.H.Hand.shows s.side.hand x) s.side.out s.side.inn s.side.fresh s.side.duty d a) recover spot s.stand s.spare k →
          Joins g.H.Hand.unjoined g.H.Hand.joined (g.H.Hand.completed t.side.hand) t.news t.side.heard (g.H.Hand.join s.side.hand) (g.H.Hand.join t.side.hand) (accepted_in spot k (seen lens c.args.octets.now)))
          c.loop-i.i (c.loop-i.i + 1) c.args.self.now.stops.items c.loop-i.self.stops.items c.index_mut.result.now c.back.new.self (add-one c.loop-i.i) c.loop-i.invariant.11 (let e = len ∙ c.args.self.now.stops.ok.0 in omega (arith, test, e)) c.index_mut.ensures.value (λ lens sent r x recover spot k p u h. c.back.ensures.joined x recover spot lens sent k p r u h),
      walk_on (λ s t. (lens : ℕ → Lens) (sent : List (Datagram Body)) → Returns sent (seen lens c.args.octets.now) → (x : Speech Body g.H.Hand.Asked Reply) (number recover : ℕ) (spot : Spot) (kept : Kept) (k : Life Body g.H.Hand.Asked Reply) → IsSpot spot s.side.station s.place s.start → StandUnder lens s.side.station s.at s.under s.side.carried s.stand k sent → StopShows (λ d a. SideShows (g.H.Hand.shows s.side.hand x) s.side.out s.side.inn s.side.fresh s.side.duty d a) recover spot s.stand s.spare k → StandKept s.stand kept k → StandPassing s.stand (g.H.Hand.awaits s.side.hand) s.side.passing k → StandPassing t.stand (g.H.Hand.awaits t.side.hand) t.side.passing (life_back x g.H.Hand.acknowledged g.H.Hand.more g.H.Hand.passed number spot (news_back s.side.station kept (counts_at s.side.read_at s.side.pace c.args.made) (seen lens c.args.octets.now)) (seen lens c.args.octets.now) (came_at s.under s.at (seen lens c.args.octets.now)) k k.stand))
          c.loop-i.i (c.loop-i.i + 1) c.args.self.now.stops.items c.loop-i.self.stops.items c.index_mut.result.now c.back.new.self (add-one c.loop-i.i) c.loop-i.invariant.12 (let e = len ∙ c.args.self.now.stops.ok.0 in omega (arith, test, e)) c.index_mut.ensures.value (λ lens sent r x number recover spot kept k i u h m p. c.back.ensures.passing x number recover spot lens kept sent k i r u h m p),
      walk_on (λ s t. (lens : ℕ → Lens) (sent : List (Datagram Body)) → Returns sent (seen lens c.args.octets.now) → CameCounts lens sent (seen lens c.args.octets.now) c.args.made s t)
          c.loop-i.i (c.loop-i.i + 1) c.args.self.now.stops.items c.loop-i.self.stops.items c.index_mut.result.now c.back.new.self (add-one c.loop-i.i) c.loop-i.invariant.13 (let e = len ∙ c.args.self.now.stops.ok.0 in omega (arith, test, e)) c.index_mut.ensures.value c.back.ensures.counts,
      walk_on (λ s t. t.side.pace ≡ s.side.pace)
          c.loop-i.i (c.loop-i.i + 1) c.args.self.now.stops.items c.loop-i.self.stops.items c.index_mut.result.now c.back.new.self (add-one c.loop-i.i) c.loop-i.invariant.14 (let e = len ∙ c.args.self.now.stops.ok.0 in omega (arith, test, e)) c.index_mut.ensures.value c.back.ensures.pace,
      walk_on (λ s t. (lens : ℕ → Lens) (sent : List (Datagram Body)) → Returns sent (seen lens c.args.octets.now) → (x : Speech Body g.H.Hand.Asked Reply) (recover : ℕ) (spot : Spot) (k : Life Body g.H.Hand.Asked Reply) →
          IsSpot spot s.side.station s.place s.start → StandUnder lens s.side.station s.at s.under s.side.carried s.stand k sent → StopShows (λ d a. SideShows (g.H.Hand.shows s.side.hand x) s.side.out s.side.inn s.side.fresh s.side.duty d a) recover spot s.stand s.spare k →
          StopBack x spot k (seen lens c.args.octets.now) (g.H.Hand.knows s.side.hand) (g.H.Hand.knows t.side.hand) s t)
          c.loop-i.i (c.loop-i.i + 1) c.args.self.now.stops.items c.loop-i.self.stops.items c.index_mut.result.now c.back.new.self (add-one c.loop-i.i) c.loop-i.invariant.15 (let e = len ∙ c.args.self.now.stops.ok.0 in omega (arith, test, e)) c.index_mut.ensures.value (λ lens sent r x recover spot k p u h. c.back.ensures.recalls x recover spot lens sent k p r u h),
      walk_on (λ s t. StopReplies c.args.octets.now s t)
          c.loop-i.i (c.loop-i.i + 1) c.args.self.now.stops.items c.loop-i.self.stops.items c.index_mut.result.now c.back.new.self (add-one c.loop-i.i) c.loop-i.invariant.16 (let e = len ∙ c.args.self.now.stops.ok.0 in omega (arith, test, e)) c.index_mut.ensures.value c.back.ensures.replied,
    )

pub returns : goal.returns
returns g c =
    let len = c.len-i-end.ensures in
    let test = c.loop-i-test.false in
    record {
      stays = walk_over (λ s t. (g.H.Hand.script t.side.hand ≡ g.H.Hand.script s.side.hand) × (s.side.passing ≡ None → t.side.passing ≡ None)) c.loop-i.i c.args.self.now.stops.items c.loop-i.self.stops.items (let e = len ∙ c.args.self.now.stops.ok.0 in omega (arith, test, e)) c.loop-i.invariant.1;
      lives = walk_over (λ s t. ((lens : ℕ → Lens) (sent : List (Datagram Body)) → Returns sent (seen lens c.args.octets.now) → (x : Speech Body g.H.Hand.Asked Reply) (more : Body → Bool) (passed : g.H.Hand.Asked → Bool) (number recover : ℕ) (spot : Spot) (ns : List (News Body)) (k : Life Body g.H.Hand.Asked Reply) →
          IsSpot spot s.side.station s.place s.start → StandUnder lens s.side.station s.at s.under s.side.carried s.stand k sent → StopShows (λ d a. SideShows (g.H.Hand.shows s.side.hand x) s.side.out s.side.inn s.side.fresh s.side.duty d a) recover spot s.stand s.spare k →
          FollowShows (λ d a. SideShows (g.H.Hand.shows t.side.hand x) t.side.out t.side.inn t.side.fresh t.side.duty d a) recover spot t.stand t.spare t.news k (life_back x g.H.Hand.acknowledged more passed number spot ns (seen lens c.args.octets.now) (came_at s.under s.at (seen lens c.args.octets.now)) k k.stand)) × (t.place ≡ s.place) × (t.start ≡ s.start)) c.loop-i.i c.args.self.now.stops.items c.loop-i.self.stops.items (let e = len ∙ c.args.self.now.stops.ok.0 in omega (arith, test, e)) c.loop-i.invariant.2;
      kept = walk_over (λ s t. SameLink s.side.out s.side.inn s.side.station s.side.area t.side.out t.side.inn t.side.station t.side.area × (IsSized s.stand s.side.out.len (in_area_len s.side.inn) → IsSized t.stand t.side.out.len (in_area_len t.side.inn))) c.loop-i.i c.args.self.now.stops.items c.loop-i.self.stops.items (let e = len ∙ c.args.self.now.stops.ok.0 in omega (arith, test, e)) c.loop-i.invariant.3;
      tour = (c.loop-i.invariant.4, c.loop-i.invariant.5, c.loop-i.invariant.6, c.loop-i.invariant.7, c.loop-i.invariant.8, c.loop-i.invariant.9);
      brought = walk_over (λ s t. (lens : ℕ → Lens) (sent : List (Datagram Body)) → Returns sent (seen lens c.args.octets.now) → (x : Speech Body g.H.Hand.Asked Reply) (recover : ℕ) (spot : Spot) (k : Life Body g.H.Hand.Asked Reply) →
          IsSpot spot s.side.station s.place s.start → StandUnder lens s.side.station s.at s.under s.side.carried s.stand k sent → StopShows (λ d a. SideShows (g.H.Hand.shows s.side.hand x) s.side.out s.side.inn s.side.fresh s.side.duty d a) recover spot s.stand s.spare k →
          Brought (g.H.Hand.brings t.side.hand) t.side.heard (accepted_in spot k (seen lens c.args.octets.now))) c.loop-i.i c.args.self.now.stops.items c.loop-i.self.stops.items (let e = len ∙ c.args.self.now.stops.ok.0 in omega (arith, test, e)) c.loop-i.invariant.10;
      joined = walk_over (λ s t. (lens : ℕ → Lens) (sent : List (Datagram Body)) → Returns sent (seen lens c.args.octets.now) → (x : Speech Body g.H.Hand.Asked Reply) (recover : ℕ) (spot : Spot) (k : Life Body g.H.Hand.Asked Reply) →
          IsSpot spot s.side.station s.place s.start → StandUnder lens s.side.station s.at s.under s.side.carried s.stand k sent → StopShows (λ d a. SideShows (g.H.Hand.shows s.side.hand x) s.side.out s.side.inn s.side.fresh s.side.duty d a) recover spot s.stand s.spare k →
          Joins g.H.Hand.unjoined g.H.Hand.joined (g.H.Hand.completed t.side.hand) t.news t.side.heard (g.H.Hand.join s.side.hand) (g.H.Hand.join t.side.hand) (accepted_in spot k (seen lens c.args.octets.now))) c.loop-i.i c.args.self.now.stops.items c.loop-i.self.stops.items (let e = len ∙ c.args.self.now.stops.ok.0 in omega (arith, test, e)) c.loop-i.invariant.11;
      passing = walk_over (λ s t. (lens : ℕ → Lens) (sent : List (Datagram Body)) → Returns sent (seen lens c.args.octets.now) → (x : Speech Body g.H.Hand.Asked Reply) (number recover : ℕ) (spot : Spot) (kept : Kept) (k : Life Body g.H.Hand.Asked Reply) → IsSpot spot s.side.station s.place s.start → StandUnder lens s.side.station s.at s.under s.side.carried s.stand k sent → StopShows (λ d a. SideShows (g.H.Hand.shows s.side.hand x) s.side.out s.side.inn s.side.fresh s.side.duty d a) recover spot s.stand s.spare k → StandKept s.stand kept k → StandPassing s.stand (g.H.Hand.awaits s.side.hand) s.side.passing k → StandPassing t.stand (g.H.Hand.awaits t.side.hand) t.side.passing (life_back x g.H.Hand.acknowledged g.H.Hand.more g.H.Hand.passed number spot (news_back s.side.station kept (counts_at s.side.read_at s.side.pace c.args.made) (seen lens c.args.octets.now)) (seen lens c.args.octets.now) (came_at s.under s.at (seen lens c.args.octets.now)) k k.stand)) c.loop-i.i c.args.self.now.stops.items c.loop-i.self.stops.items (let e = len ∙ c.args.self.now.stops.ok.0 in omega (arith, test, e)) c.loop-i.invariant.12;
      recalls = walk_over (λ s t. (lens : ℕ → Lens) (sent : List (Datagram Body)) → Returns sent (seen lens c.args.octets.now) → (x : Speech Body g.H.Hand.Asked Reply) (recover : ℕ) (spot : Spot) (k : Life Body g.H.Hand.Asked Reply) →
          IsSpot spot s.side.station s.place s.start → StandUnder lens s.side.station s.at s.under s.side.carried s.stand k sent → StopShows (λ d a. SideShows (g.H.Hand.shows s.side.hand x) s.side.out s.side.inn s.side.fresh s.side.duty d a) recover spot s.stand s.spare k →
          StopBack x spot k (seen lens c.args.octets.now) (g.H.Hand.knows s.side.hand) (g.H.Hand.knows t.side.hand) s t) c.loop-i.i c.args.self.now.stops.items c.loop-i.self.stops.items (let e = len ∙ c.args.self.now.stops.ok.0 in omega (arith, test, e)) c.loop-i.invariant.15;
      replied = walk_over (λ s t. StopReplies c.args.octets.now s t) c.loop-i.i c.args.self.now.stops.items c.loop-i.self.stops.items (let e = len ∙ c.args.self.now.stops.ok.0 in omega (arith, test, e)) c.loop-i.invariant.16;
      counts = walk_over (λ s t. (lens : ℕ → Lens) (sent : List (Datagram Body)) → Returns sent (seen lens c.args.octets.now) → CameCounts lens sent (seen lens c.args.octets.now) c.args.made s t) c.loop-i.i c.args.self.now.stops.items c.loop-i.self.stops.items (let e = len ∙ c.args.self.now.stops.ok.0 in omega (arith, test, e)) c.loop-i.invariant.13;
      pace = walk_over (λ s t. t.side.pace ≡ s.side.pace) c.loop-i.i c.args.self.now.stops.items c.loop-i.self.stops.items (let e = len ∙ c.args.self.now.stops.ok.0 in omega (arith, test, e)) c.loop-i.invariant.14;
      long = sym (walked_length _ c.loop-i.i c.args.self.now.stops.items c.loop-i.self.stops.items c.loop-i.invariant.1);
    }

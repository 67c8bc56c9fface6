use Rattle.std.proofs.Common.{◌≡◌, ℕ, List, subst, sym, refl}
use Rattle.std.specs.Prelude.{Bool}
use Rattle.master_side.specs.of_exchange_model.Exchange.{Speech}
use Rattle.master_side.specs.of_link_mails.Body.{Body}
use Rattle.master_side.specs.of_segment_model.Returned.{Returns}
use Rattle.master_side.specs.of_segment_model.Record.{News, Kept}
use Rattle.master_side.specs.of_life_model.Lives.{Life, Spot, life_back}
use Rattle.master_side.specs.of_master_duty.Reply.{Reply}
use Rattle.master_side.specs.Heard.{Brought}
use Rattle.master_tour.specs.Brings.{accepted_in}
use Rattle.master_tour.specs.Joins.{Joins}
use Rattle.master_tour.specs.Replied.{StopReplies}
use Rattle.master_tour.specs.Behind.{StopBack}
use Rattle.master_side.specs.Shown.{SideShows}
use Rattle.master_tour.specs.Walks.{EachPair}
use Rattle.master_tour.specs.Stands.{StopShows, FollowShows, IsSpot, StandUnder, came_at}
use Rattle.master_side.specs.of_frame_view.Seen.{seen}
use Rattle.master_tour.proofs.Cursors.{seen_none}
use Rattle.master_tour.proofs.Frames.{none_returns}
use Rattle.master_tour.proofs.Walks.{each_map, each_same}
use Rattle.master_side.specs.Passing.{counts_at, news_back}
use Rattle.master_tour.specs.Passing.{StandPassing, StandKept}
use Rattle.master_tour.specs.Counting.{CameCounts}
use Rattle.master_tour.proofs.tour.Tour.hear.Goals as goal

pub returns-then-is_none : goal.returns-then-is_none
returns-then-is_none g c = record {
  lives = λ lens sent a n.
      subst (λ octets. EachPair (λ s t. ((x : Speech Body g.H.Hand.Asked Reply) (more : Body → Bool) (passed : g.H.Hand.Asked → Bool) (number recover : ℕ) (spot : Spot) (ns : List (News Body)) (k : Life Body g.H.Hand.Asked Reply) →
      IsSpot spot s.side.station s.place s.start → StandUnder lens s.side.station s.at s.under s.side.carried s.stand k sent → StopShows (λ d a. SideShows (g.H.Hand.shows s.side.hand x) s.side.out s.side.inn s.side.fresh s.side.duty d a) recover spot s.stand s.spare k →
      FollowShows (λ d a. SideShows (g.H.Hand.shows t.side.hand x) t.side.out t.side.inn t.side.fresh t.side.duty d a) recover spot t.stand t.spare t.news k (life_back x g.H.Hand.acknowledged more passed number spot ns (seen lens octets) (came_at s.under s.at (seen lens octets)) k k.stand)) × (t.place ≡ s.place) × (t.start ≡ s.start)) c.args.self.now.stops.items c.all_back.new.self.stops.items) c.as_slice-octets.ensures.value
      (each_map _ _ c.args.self.now.stops.items c.all_back.new.self.stops.items (λ s t p. ((λ x more passed number recover spot ns k i u h. p.0 lens sent (subst (λ z. Returns sent (seen lens z)) (sym c.as_slice-octets.ensures.value) a) x more passed number recover spot ns k i u h), p.1, p.2)) c.all_back.ensures.lives);
  long = c.all_back.ensures.long;
  tour = c.all_back.ensures.tour;
  kept = c.all_back.ensures.kept;
  stays = c.all_back.ensures.stays;
  passing = λ lens sent a n.
      subst (λ octets. EachPair (λ s t. (x : Speech Body g.H.Hand.Asked Reply) (number recover : ℕ) (spot : Spot) (kept : Kept) (k : Life Body g.H.Hand.Asked Reply) → IsSpot spot s.side.station s.place s.start → StandUnder lens s.side.station s.at s.under s.side.carried s.stand k sent → StopShows (λ d a. SideShows (g.H.Hand.shows s.side.hand x) s.side.out s.side.inn s.side.fresh s.side.duty d a) recover spot s.stand s.spare k → StandKept s.stand kept k → StandPassing s.stand (g.H.Hand.awaits s.side.hand) s.side.passing k → StandPassing t.stand (g.H.Hand.awaits t.side.hand) t.side.passing (life_back x g.H.Hand.acknowledged g.H.Hand.more g.H.Hand.passed number spot (news_back s.side.station kept (counts_at s.side.read_at s.side.pace c.args.made) (seen lens octets)) (seen lens octets) (came_at s.under s.at (seen lens octets)) k k.stand)) c.args.self.now.stops.items c.all_back.new.self.stops.items) c.as_slice-octets.ensures.value
      (each_map _ _ c.args.self.now.stops.items c.all_back.new.self.stops.items (λ s t p. p lens sent (subst (λ z. Returns sent (seen lens z)) (sym c.as_slice-octets.ensures.value) a)) c.all_back.ensures.passing);
  brought = λ lens sent a n.
      subst (λ octets. EachPair (λ s t. (x : Speech Body g.H.Hand.Asked Reply) (recover : ℕ) (spot : Spot) (k : Life Body g.H.Hand.Asked Reply) →
      IsSpot spot s.side.station s.place s.start → StandUnder lens s.side.station s.at s.under s.side.carried s.stand k sent → StopShows (λ d a. SideShows (g.H.Hand.shows s.side.hand x) s.side.out s.side.inn s.side.fresh s.side.duty d a) recover spot s.stand s.spare k →
      Brought (g.H.Hand.brings t.side.hand) t.side.heard (accepted_in spot k (seen lens octets))) c.args.self.now.stops.items c.all_back.new.self.stops.items) c.as_slice-octets.ensures.value
      (each_map _ _ c.args.self.now.stops.items c.all_back.new.self.stops.items (λ s t p. p lens sent (subst (λ z. Returns sent (seen lens z)) (sym c.as_slice-octets.ensures.value) a)) c.all_back.ensures.brought);
  joined = λ lens sent a n.
      subst (λ octets. EachPair (λ s t. (x : Speech Body g.H.Hand.Asked Reply) (recover : ℕ) (spot : Spot) (k : Life Body g.H.Hand.Asked Reply) →
      IsSpot spot s.side.station s.place s.start → StandUnder lens s.side.station s.at s.under s.side.carried s.stand k sent → StopShows (λ d a. SideShows (g.H.Hand.shows s.side.hand x) s.side.out s.side.inn s.side.fresh s.side.duty d a) recover spot s.stand s.spare k →
      Joins g.H.Hand.unjoined g.H.Hand.joined (g.H.Hand.completed t.side.hand) t.news t.side.heard (g.H.Hand.join s.side.hand) (g.H.Hand.join t.side.hand) (accepted_in spot k (seen lens octets))) c.args.self.now.stops.items c.all_back.new.self.stops.items) c.as_slice-octets.ensures.value
      (each_map _ _ c.args.self.now.stops.items c.all_back.new.self.stops.items (λ s t p. p lens sent (subst (λ z. Returns sent (seen lens z)) (sym c.as_slice-octets.ensures.value) a)) c.all_back.ensures.joined);
  replied = subst (λ octets. EachPair (λ s t. StopReplies octets s t) c.args.self.now.stops.items c.all_back.new.self.stops.items) c.as_slice-octets.ensures.value c.all_back.ensures.replied;
  recalls = λ lens sent a n.
      subst (λ octets. EachPair (λ s t. (x : Speech Body g.H.Hand.Asked Reply) (recover : ℕ) (spot : Spot) (k : Life Body g.H.Hand.Asked Reply) →
      IsSpot spot s.side.station s.place s.start → StandUnder lens s.side.station s.at s.under s.side.carried s.stand k sent → StopShows (λ d a. SideShows (g.H.Hand.shows s.side.hand x) s.side.out s.side.inn s.side.fresh s.side.duty d a) recover spot s.stand s.spare k →
      StopBack x spot k (seen lens octets) (g.H.Hand.knows s.side.hand) (g.H.Hand.knows t.side.hand) s t) c.args.self.now.stops.items c.all_back.new.self.stops.items) c.as_slice-octets.ensures.value
      (each_map _ _ c.args.self.now.stops.items c.all_back.new.self.stops.items (λ s t p. p lens sent (subst (λ z. Returns sent (seen lens z)) (sym c.as_slice-octets.ensures.value) a)) c.all_back.ensures.recalls);
  counts = λ lens sent a n.
      subst (λ octets. EachPair (λ s t. CameCounts lens sent (seen lens octets) c.args.made s t) c.args.self.now.stops.items c.all_back.new.self.stops.items) c.as_slice-octets.ensures.value
      (each_map _ _ c.args.self.now.stops.items c.all_back.new.self.stops.items (λ s t p. p lens sent (subst (λ z. Returns sent (seen lens z)) (sym c.as_slice-octets.ensures.value) a)) c.all_back.ensures.counts);
  pace = c.all_back.ensures.pace;
}

pub returns-else-is_none : goal.returns-else-is_none
returns-else-is_none g c = record {
  lives = λ lens sent a n.
      absurd (none_returns sent (seen lens c.args.frame.now.items) n a (seen_none lens c.args.frame.now.items c.as_slice-octets.result.now c.fault.result c.as_slice-octets.ensures.value c.fault.ensures.fault c.if-is_none.ensures));
  long = refl;
  tour = (refl, refl, refl, refl, refl, refl);
  kept = each_same _ c.args.self.now.stops.items (λ s. (record { out_is = refl; in_is = refl; station_is = refl; area_is = refl }, λ h. h));
  stays = each_same _ c.args.self.now.stops.items (λ s. (refl, λ h. h));
  passing = λ lens sent a n.
      absurd (none_returns sent (seen lens c.args.frame.now.items) n a (seen_none lens c.args.frame.now.items c.as_slice-octets.result.now c.fault.result c.as_slice-octets.ensures.value c.fault.ensures.fault c.if-is_none.ensures));
  brought = λ lens sent a n.
      absurd (none_returns sent (seen lens c.args.frame.now.items) n a (seen_none lens c.args.frame.now.items c.as_slice-octets.result.now c.fault.result c.as_slice-octets.ensures.value c.fault.ensures.fault c.if-is_none.ensures));
  joined = λ lens sent a n.
      absurd (none_returns sent (seen lens c.args.frame.now.items) n a (seen_none lens c.args.frame.now.items c.as_slice-octets.result.now c.fault.result c.as_slice-octets.ensures.value c.fault.ensures.fault c.if-is_none.ensures));
  replied = each_same _ c.args.self.now.stops.items (λ s lens sent a n.
      absurd (none_returns sent (seen lens c.args.frame.now.items) n a (seen_none lens c.args.frame.now.items c.as_slice-octets.result.now c.fault.result c.as_slice-octets.ensures.value c.fault.ensures.fault c.if-is_none.ensures)));
  recalls = λ lens sent a n.
      absurd (none_returns sent (seen lens c.args.frame.now.items) n a (seen_none lens c.args.frame.now.items c.as_slice-octets.result.now c.fault.result c.as_slice-octets.ensures.value c.fault.ensures.fault c.if-is_none.ensures));
  counts = λ lens sent a n.
      absurd (none_returns sent (seen lens c.args.frame.now.items) n a (seen_none lens c.args.frame.now.items c.as_slice-octets.result.now c.fault.result c.as_slice-octets.ensures.value c.fault.ensures.fault c.if-is_none.ensures));
  pace = each_same _ c.args.self.now.stops.items (λ s. refl);
}

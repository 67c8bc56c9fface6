use Rattle.std.proofs.Common.{◌≡◌, List, ℕ}
use Rattle.std.specs.Prelude.{◌&&◌, Bool, false, None}
use Rattle.master_side.specs.of_segment_model.Record.{News, Kept}
use Rattle.master_side.specs.of_life_model.Lives.{Life, Spot, life_lost}
use Rattle.master_tour.specs.Stands.{StopShows, FollowShows, IsSpot, StandUnder, given_where}
use Rattle.master_side.specs.of_frame_view.View.{Lens}
use Rattle.master_side.specs.of_frame_view.Seen.{seen}
use Rattle.master_side.specs.of_exchange_model.Exchange.{Speech}
use Rattle.master_side.specs.of_link_mails.Body.{Body}
use Rattle.master_side.specs.of_master_duty.Reply.{Reply}
use Rattle.master_side.specs.Shown.{SideShows}
use Rattle.master_tour.specs.Walks.{Walked}
use Rattle.master_side.specs.of_mailbox_master.Any.{in_area_len}
use Rattle.master_side.specs.Sent.{SameLink}
use Rattle.master_tour.specs.Made.{IsSized}
use Rattle.master_tour.specs.Rooms.{LosesAgain}
use Rattle.master_side.specs.Passing.{news_lost}
use Rattle.master_tour.specs.Passing.{StandPassing, StandKept}
use Rattle.master_tour.specs.Behind.{StopLost}
use Rattle.master_tour.specs.Counting.{LostCounts}
use Rattle.master_tour.proofs.tour.Tour.all_lost.Given as goal

abbrev pub invariant-loop-i : goal.invariant-loop-i
invariant-loop-i g l = Walked (λ s t. (g.H.Hand.script t.side.hand ≡ g.H.Hand.script s.side.hand) × (s.side.passing ≡ None → t.side.passing ≡ None)) l.i l.initial.self.stops.items l.self.stops.items × Walked (λ s t. ((lens : ℕ → Lens) (octets : List ℕ) → (x : Speech Body g.H.Hand.Asked Reply) (more : Body → Bool) (passed : g.H.Hand.Asked → Bool) (number recover : ℕ) (spot : Spot) (ns : List (News Body)) (k : Life Body g.H.Hand.Asked Reply) →
    IsSpot spot s.side.station s.place s.start → StandUnder lens s.side.station s.at s.under s.side.carried s.stand k (seen lens octets) → StopShows (λ d a. SideShows (g.H.Hand.shows s.side.hand x) s.side.out s.side.inn s.side.fresh s.side.duty d a) recover spot s.stand s.spare k →
    FollowShows (λ d a. SideShows (g.H.Hand.shows t.side.hand x) t.side.out t.side.inn t.side.fresh t.side.duty d a) recover spot t.stand t.spare t.news k (given_where (l.gives && s.under) recover spot number (life_lost x g.H.Hand.acknowledged more passed spot ns (seen lens octets) k k.stand))) × (t.place ≡ s.place) × (t.start ≡ s.start)) l.i l.initial.self.stops.items l.self.stops.items × Walked (λ s t. SameLink s.side.out s.side.inn s.side.station s.side.area t.side.out t.side.inn t.side.station t.side.area × (IsSized s.stand s.side.out.len (in_area_len s.side.inn) → IsSized t.stand t.side.out.len (in_area_len t.side.inn))) l.i l.initial.self.stops.items l.self.stops.items × (l.self.again ≡ l.initial.self.again) × (l.self.visit ≡ l.initial.self.visit) × (l.self.opened ≡ l.initial.self.opened) × (l.self.last ≡ l.initial.self.last) × (l.self.missed ≡ l.initial.self.missed) × (l.self.retry ≡ l.initial.self.retry) × Walked (λ s t. (l.gives && s.under) ≡ false → g.H.Hand.join t.side.hand ≡ g.H.Hand.join s.side.hand) l.i l.initial.self.stops.items l.self.stops.items × Walked (λ s t. l.gives ≡ false → LosesAgain s t) l.i l.initial.self.stops.items l.self.stops.items × Walked (λ s t. (lens : ℕ → Lens) (octets : List ℕ) (x : Speech Body g.H.Hand.Asked Reply) (number recover : ℕ) (spot : Spot) (kept : Kept) (k : Life Body g.H.Hand.Asked Reply) → IsSpot spot s.side.station s.place s.start → StandUnder lens s.side.station s.at s.under s.side.carried s.stand k (seen lens octets) → StopShows (λ d a. SideShows (g.H.Hand.shows s.side.hand x) s.side.out s.side.inn s.side.fresh s.side.duty d a) recover spot s.stand s.spare k → StandKept s.stand kept k → StandPassing s.stand (g.H.Hand.awaits s.side.hand) s.side.passing k → StandPassing t.stand (g.H.Hand.awaits t.side.hand) t.side.passing (given_where (l.gives && s.under) recover spot number (life_lost x g.H.Hand.acknowledged g.H.Hand.more g.H.Hand.passed spot (news_lost s.side.station kept (seen lens octets)) (seen lens octets) k k.stand))) l.i l.initial.self.stops.items l.self.stops.items ×
    Walked (λ s t. LostCounts s t) l.i l.initial.self.stops.items l.self.stops.items ×
    Walked (λ s t. t.side.pace ≡ s.side.pace) l.i l.initial.self.stops.items l.self.stops.items ×
    Walked (λ s t. StopLost l.gives (g.H.Hand.knows s.side.hand) (g.H.Hand.knows t.side.hand) s t) l.i l.initial.self.stops.items l.self.stops.items

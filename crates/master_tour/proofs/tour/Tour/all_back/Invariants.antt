use Rattle.std.proofs.Common.{◌≡◌, ℕ, List}
use Rattle.std.specs.Prelude.{Bool, None}
use Rattle.master_side.specs.of_segment_model.Returned.{Returns}
use Rattle.master_side.specs.of_segment_model.Record.{News, Kept}
use Rattle.master_side.specs.of_life_model.Lives.{Life, Spot, life_back}
use Rattle.master_tour.specs.Stands.{StopShows, FollowShows, IsSpot, StandUnder, came_at}
use Rattle.master_side.specs.of_exchange_model.Exchange.{Speech}
use Rattle.master_side.specs.of_link_mails.Body.{Body}
use Rattle.master_side.specs.of_segment_model.Slaves.{Datagram}
use Rattle.master_side.specs.of_frame_view.Seen.{seen}
use Rattle.master_side.specs.of_frame_view.View.{Lens}
use Rattle.master_side.specs.of_master_duty.Reply.{Reply}
use Rattle.master_side.specs.Heard.{Brought}
use Rattle.master_tour.specs.Brings.{accepted_in}
use Rattle.master_tour.specs.Joins.{Joins}
use Rattle.master_tour.specs.Replied.{StopReplies}
use Rattle.master_tour.specs.Behind.{StopBack}
use Rattle.master_side.specs.Shown.{SideShows}
use Rattle.master_tour.specs.Cursor.{IsAtOne}
use Rattle.master_tour.specs.Walks.{Walked}
use Rattle.master_side.specs.of_mailbox_master.Any.{in_area_len}
use Rattle.master_side.specs.Sent.{SameLink}
use Rattle.master_tour.specs.Made.{IsSized}
use Rattle.master_side.specs.Passing.{counts_at, news_back}
use Rattle.master_tour.specs.Passing.{StandPassing, StandKept}
use Rattle.master_tour.specs.Counting.{CameCounts}
use Rattle.master_tour.proofs.tour.Tour.all_back.Given as goal

abbrev pub invariant-loop-i : goal.invariant-loop-i
invariant-loop-i g l = IsAtOne l.octets l.cursor.number l.cursor.part × Walked (λ s t. (g.H.Hand.script t.side.hand ≡ g.H.Hand.script s.side.hand) × (s.side.passing ≡ None → t.side.passing ≡ None)) l.i l.initial.self.stops.items l.self.stops.items × Walked (λ s t. ((lens : ℕ → Lens) (sent : List (Datagram Body)) → Returns sent (seen lens l.octets) → (x : Speech Body g.H.Hand.Asked Reply) (more : Body → Bool) (passed : g.H.Hand.Asked → Bool) (number recover : ℕ) (spot : Spot) (ns : List (News Body)) (k : Life Body g.H.Hand.Asked Reply) →
    IsSpot spot s.side.station s.place s.start → StandUnder lens s.side.station s.at s.under s.side.carried s.stand k sent → StopShows (λ d a. SideShows (g.H.Hand.shows s.side.hand x) s.side.out s.side.inn s.side.fresh s.side.duty d a) recover spot s.stand s.spare k →
    FollowShows (λ d a. SideShows (g.H.Hand.shows t.side.hand x) t.side.out t.side.inn t.side.fresh t.side.duty d a) recover spot t.stand t.spare t.news k (life_back x g.H.Hand.acknowledged more passed number spot ns (seen lens l.octets) (came_at s.under s.at (seen lens l.octets)) k k.stand)) × (t.place ≡ s.place) × (t.start ≡ s.start)) l.i l.initial.self.stops.items l.self.stops.items × Walked (λ s t. SameLink s.side.out s.side.inn s.side.station s.side.area t.side.out t.side.inn t.side.station t.side.area × (IsSized s.stand s.side.out.len (in_area_len s.side.inn) → IsSized t.stand t.side.out.len (in_area_len t.side.inn))) l.i l.initial.self.stops.items l.self.stops.items × (l.self.again ≡ l.initial.self.again) × (l.self.visit ≡ l.initial.self.visit) × (l.self.opened ≡ l.initial.self.opened) × (l.self.last ≡ l.initial.self.last) × (l.self.missed ≡ l.initial.self.missed) × (l.self.retry ≡ l.initial.self.retry) × Walked (λ s t. (lens : ℕ → Lens) (sent : List (Datagram Body)) → Returns sent (seen lens l.octets) → (x : Speech Body g.H.Hand.Asked Reply) (recover : ℕ) (spot : Spot) (k : Life Body g.H.Hand.Asked Reply) →
    IsSpot spot s.side.station s.place s.start → StandUnder lens s.side.station s.at s.under s.side.carried s.stand k sent → StopShows (λ d a. SideShows (g.H.Hand.shows s.side.hand x) s.side.out s.side.inn s.side.fresh s.side.duty d a) recover spot s.stand s.spare k →
    Brought (g.H.Hand.brings t.side.hand) t.side.heard (accepted_in spot k (seen lens l.octets))) l.i l.initial.self.stops.items l.self.stops.items × Walked (λ s t. (lens : ℕ → Lens) (sent : List (Datagram Body)) → Returns sent (seen lens l.octets) → (x : Speech Body g.H.Hand.Asked Reply) (recover : ℕ) (spot : Spot) (k : Life Body g.H.Hand.Asked Reply) →
    IsSpot spot s.side.station s.place s.start → StandUnder lens s.side.station s.at s.under s.side.carried s.stand k sent → StopShows (λ d a. SideShows (g.H.Hand.shows s.side.hand x) s.side.out s.side.inn s.side.fresh s.side.duty d a) recover spot s.stand s.spare k →
    Joins g.H.Hand.unjoined g.H.Hand.joined (g.H.Hand.completed t.side.hand) t.news t.side.heard (g.H.Hand.join s.side.hand) (g.H.Hand.join t.side.hand) (accepted_in spot k (seen lens l.octets))) l.i l.initial.self.stops.items l.self.stops.items × Walked (λ s t. (lens : ℕ → Lens) (sent : List (Datagram Body)) → Returns sent (seen lens l.octets) → (x : Speech Body g.H.Hand.Asked Reply) (number recover : ℕ) (spot : Spot) (kept : Kept) (k : Life Body g.H.Hand.Asked Reply) → IsSpot spot s.side.station s.place s.start → StandUnder lens s.side.station s.at s.under s.side.carried s.stand k sent → StopShows (λ d a. SideShows (g.H.Hand.shows s.side.hand x) s.side.out s.side.inn s.side.fresh s.side.duty d a) recover spot s.stand s.spare k → StandKept s.stand kept k → StandPassing s.stand (g.H.Hand.awaits s.side.hand) s.side.passing k → StandPassing t.stand (g.H.Hand.awaits t.side.hand) t.side.passing (life_back x g.H.Hand.acknowledged g.H.Hand.more g.H.Hand.passed number spot (news_back s.side.station kept (counts_at s.side.read_at s.side.pace l.made) (seen lens l.octets)) (seen lens l.octets) (came_at s.under s.at (seen lens l.octets)) k k.stand)) l.i l.initial.self.stops.items l.self.stops.items ×
    Walked (λ s t. (lens : ℕ → Lens) (sent : List (Datagram Body)) → Returns sent (seen lens l.octets) → CameCounts lens sent (seen lens l.octets) l.made s t) l.i l.initial.self.stops.items l.self.stops.items ×
    Walked (λ s t. t.side.pace ≡ s.side.pace) l.i l.initial.self.stops.items l.self.stops.items ×
    Walked (λ s t. (lens : ℕ → Lens) (sent : List (Datagram Body)) → Returns sent (seen lens l.octets) → (x : Speech Body g.H.Hand.Asked Reply) (recover : ℕ) (spot : Spot) (k : Life Body g.H.Hand.Asked Reply) →
    IsSpot spot s.side.station s.place s.start → StandUnder lens s.side.station s.at s.under s.side.carried s.stand k sent → StopShows (λ d a. SideShows (g.H.Hand.shows s.side.hand x) s.side.out s.side.inn s.side.fresh s.side.duty d a) recover spot s.stand s.spare k →
    StopBack x spot k (seen lens l.octets) (g.H.Hand.knows s.side.hand) (g.H.Hand.knows t.side.hand) s t) l.i l.initial.self.stops.items l.self.stops.items ×
    Walked (λ s t. StopReplies l.octets s t) l.i l.initial.self.stops.items l.self.stops.items

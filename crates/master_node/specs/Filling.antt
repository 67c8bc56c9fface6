-- WHILE A FRAME IS MADE: what each slave has of it, and what came into hand.
use Rattle.std.specs.Prelude.{◌≡◌, ◌≤◌, ◌<◌, ℕ, ◌%◌, true, false, Option, None, List, [], map, length, All}
use Rattle.std.specs.List.{list_any}
use Rattle.life_runs.specs.of_datagrams.Datagram as Raw
use Rattle.life_runs.specs.of_frame_view.View.{Lens}
use Rattle.life_runs.specs.of_frame_view.Shares.{Lived, AllFrom}
use Rattle.life_runs.specs.Led.{Leads, Comes, speech_at}
use Rattle.life_runs.specs.of_master_duty.Reply.{Reply}
use Rattle.life_runs.specs.of_master_hand.Spoken.{Asked, acknowledged, is_followed, is_passed}
use Rattle.life_runs.specs.of_master_hand.declared.hand.InHand.{InHand}
use Rattle.life_runs.specs.of_master_side.declared.hand.Hand.{Ghosts}
use Rattle.life_runs.specs.of_master_tour.Made.{StopMade, FrameMade, is_in}
use Rattle.life_runs.specs.of_master_tour.declared.stop.Stop.{Stop}
use Rattle.life_runs.specs.of_state_model.Stated.{Service}
use Rattle.master_node.specs.Begins.{HasBegun}
use Rattle.master_node.specs.Listing.{Before, HasListed, run_tells}
use Rattle.master_node.specs.Starts.{HaveStarted}
use Rattle.master_node.specs.declared.node.MasterNode.{MasterNode}
use Rattle.life_runs.specs.of_master_tour.Goes.{is_live, holds_at, BeginsLive}
use Rattle.master_node.specs.Shows.{WaitsNone, ComeAgain, side_shows, lived_of, is_live_lead}

module _ (lens : ℕ → Lens) where
  -- A SLAVE WHILE A FRAME IS MADE, by its script: what came into hand was next of that, or a packet, and nothing as long as its visit is to come
  pub record IsAmong {G : Ghosts InHand} (begun : ℕ → Option (Service Asked)) (left : List ℕ) (i : ℕ) (a : Leads) (s : Stop InHand G) : Type 0 where
    pub script : s.side.hand.laying.script ≡ a.script
    pub comes : Comes (lens a.lived.spot.station).out a.script a.number (begun a.lived.spot.place) s.side.hand.laying.number
    pub still : is_in i left ≡ true → s.side.hand.laying.number ≡ a.number
    pub short : length a.script ≤ 4096
    pub unpassed : s.side.passing ≡ None
    pub own : a.lived.life.era.passing ≡ None
    pub place : s.place ≡ a.lived.spot.place
    pub room : (lens a.lived.spot.station).out ≡ s.side.out.len

  module _ (recover made : ℕ) where
    -- the slave in the frame that is made
    abbrev pub StopFills : {G : Ghosts InHand} → (ℕ → Option (Service Asked)) → ℕ → List ℕ → List Raw.Datagram → ℕ → Lived Asked Reply → Stop InHand G → Type 0
    StopFills begun index left ds i a s =
        StopMade (speech_at lens a.spot) acknowledged is_followed is_passed made begun lens recover index (side_shows lens recover s a.spot) s.side.station s.place s.start s.stand s.spare s.side.out s.side.inn s.side.duty s.side.carried s.side.passing s.under s.at left ds i a

    module _ (from : Before) where
      -- THE MASTER WHILE A FRAME IS MADE, where the visits of these places are still to come, and the step began so
      pub record IsFilling (left : List ℕ) (m : MasterNode) (octets : List ℕ) (as' : List Leads) : Type 0 where
        pub begun : ℕ → Option (Service Asked)
        pub frame : FrameMade (λ ds i a s. StopFills begun (m.made % 256) left ds i a s) octets m.tour.count (map lived_of as') m.tour.stops.items
        pub among : AllFrom (λ i a s. IsAmong begun left i a s) 0 as' m.tour.stops.items
        pub packets : HasBegun from.switch left begun as' m.lan
        pub listing : HasListed (run_tells as') from.forwards left begun as' m
        pub starts : HaveStarted (λ a. a) (λ a. []) lens m.lan begun as' as' m.tour.stops.items

      -- BEFORE THE FIRST VISIT: no datagram stands in the frame, some slave is live, and the first that is visited is
      pub record IsEmpty (m : MasterNode) (octets : List ℕ) (as' : List Leads) : Type 0 where
        pub filling : (left : List ℕ) → IsFilling left m octets as'
        pub quiet : All WaitsNone m.posts.items
        pub count : m.tour.count ≡ 0
        pub passed : m.tour.passed ≡ 0
        pub short : length octets ≡ 16
        pub begins : BeginsLive (λ s. is_live s.stand) m.tour.again m.tour.visit.items m.tour.opened m.tour.stops.items
        pub some : list_any (λ s. is_live s.stand) m.tour.stops.items ≡ true
        pub lives : (k : ℕ) → holds_at (λ s. is_live s.stand) m.tour.stops.items k ≡ holds_at is_live_lead as' k
        pub again : m.tour.again ≡ true → ComeAgain is_live_lead m.tour.visit.items m.tour.opened as'
        pub anew : m.tour.again ≡ false → m.tour.visit.items ≡ []
        pub many : length m.tour.stops.items ≡ length as'
        pub room : length m.lan.happened ≤ 1
        pub list : m.list.count ≡ 0

      -- BEHIND THE LAST: the frame has a datagram; in the first bring-up it has none but of the slave that is brought up
      pub record IsFilled (m : MasterNode) (octets : List ℕ) (as' : List Leads) : Type 0 where
        pub left : List ℕ
        pub filling : IsFilling left m octets as'
        pub quiet : All WaitsNone m.posts.items
        pub some : 1 ≤ m.tour.count
        pub apart : m.tour.opened < length as' → (k : ℕ) → k < length as' → (k ≡ m.tour.opened → ⊥) → is_in k left ≡ true
        pub comes : ComeAgain is_live_lead m.tour.visit.items m.tour.opened as'

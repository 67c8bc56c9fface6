-- A RUN WHOSE FRAMES ARE VISITS OF ONE TOUR.
use Rattle.std.specs.Prelude.{◌≡◌, ℕ, suc, ⊤, Option, Some, None, List, [], ◌∷◌, ◌++◌, length, map}
use Rattle.master_node.specs.of_frame_view.View.{Lens}
use Rattle.master_node.specs.of_frame_view.Seen.{seen}
use Rattle.master_node.specs.of_life_runs.Led.{Exchanged, Leads, Turn, IsLedFrame, led_behind, gives_up_at}
use Rattle.master_node.specs.Shows.{is_live_lead, is_opening_lead}
use Rattle.master_node.specs.Asks.{AllAsk}
use Rattle.master_node.specs.Toured.{turn_share}
use Rattle.master_node.specs.Rooms.{area_at}
use Rattle.master_node.specs.of_master_tour.Goes.{holds_at}
use Rattle.master_node.specs.of_master_tour.Sizes.{frame_size}
use Rattle.master_node.specs.of_master_tour.Toured.{Tour, IsOfTour, new_tour, goes_on, lost_on}
use Rattle.slave_server.specs.of_segment_model.Visits.{Stop, station_at}
use Rattle.master_node.specs.of_segment_ring.declared.wire.Fate.{Fate}
use Rattle.master_node.specs.of_segment_ring.declared.wire.Fate.TheVariants.{Pass, Lost}
use Rattle.packets_heard.specs.Visits.{stations_at}

-- where a tour stands behind a frame, by its fate and the lives behind it
abbrev pub tour_behind : ℕ → Fate → List Leads → Tour → List ℕ → Tour
tour_behind retry Pass as' t visit = goes_on is_opening_lead as' t visit
tour_behind retry (Lost after) as' t visit = lost_on is_opening_lead retry as' t visit

-- A FRAME OF THE TOUR carries the slaves of its visit, and asks by the inward half first
pub record IsTourFrame (lens : ℕ → Lens) (as' : List Leads) (octets : List ℕ) (us : List Turn) (t : Tour) (visit : List ℕ) : Type 0 where
  pub visits : IsOfTour (λ u. turn_share u) (λ k. holds_at is_live_lead as' k) (frame_size octets) (λ k. area_at lens as' k) t us (length (seen lens octets)) visit
  pub asks : AllAsk (seen lens octets) us

module _ (lens : ℕ → Lens) (recover retry : ℕ) where
  -- the lives behind a frame, where so many were lost in a row before it
  abbrev pub lives_behind : ℕ → ℕ → Exchanged → List Turn → List Leads
  lives_behind missed made f us = map (led_behind lens recover retry (gives_up_at lens recover retry missed) made f) us

  -- THE FRAMES OF A RUN, one after the other, the tour and the lives behind them: each frame carries the slaves of its visit
  pub data IsToured (first : List Leads) : List Exchanged → Tour → List Leads → Type 0 where
    start : IsToured first [] new_tour first
    on : (fs : List Exchanged) (t : Tour) (as' : List Leads) (f : Exchanged) (us : List Turn) (visit : List ℕ) → IsToured first fs t as' → IsLedFrame lens (length fs) f.sent as' us → IsTourFrame lens as' f.sent us t visit →
        IsToured first (fs ++ f ∷ []) (tour_behind retry f.fate (lives_behind t.missed (length fs) f us) t visit) (lives_behind t.missed (length fs) f us)

-- the slaves stand at their places of the ring, from this one on
abbrev pub AreAt : List Stop → ℕ → List Turn → Type 0
AreAt ring p [] = ⊤
AreAt ring p (u ∷ us) = (u.lived.spot.place ≡ p) × (station_at ring p ≡ u.lived.spot.station ∷ []) × AreAt ring (suc p) us

-- those of a lost frame, by their stations
abbrev pub stations_of : List Stop → Option (List ℕ) → Option (List ℕ)
stations_of ring None = None
stations_of ring (Some places) = Some (stations_at ring places)

-- THE STATIONS OF A VISIT: those of the lost frame; else the one that is brought up; else those of a round
abbrev pub visit_stations : Option (List ℕ) → List Stop → List Stop → List ℕ
visit_stations (Some same) opening round = same
visit_stations None (s ∷ opening) round = s.station ∷ []
visit_stations None [] round = map (λ s. s.station) round

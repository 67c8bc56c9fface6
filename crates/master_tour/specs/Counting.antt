-- WHETHER AN EMPTY READ COUNTS for a mail that is passed on, by how the master stands to its slave, frame by frame.
use Rattle.std.specs.Prelude.{◌≡◌, ℕ, suc, Bool, false, Option, None, [], ⊤}
use Rattle.master_side.specs.of_exchange_model.Exchange.{Speech}
use Rattle.master_side.specs.of_frame_view.View.{Lens}
use Rattle.master_side.specs.of_life_model.Lives.{Life, Spot}
use Rattle.master_side.specs.of_link_mails.Body.{Body}
use Rattle.master_side.specs.declared.hand.Hand.{Ghosts}
use Rattle.master_side.specs.of_master_duty.Reply.{Reply}
use Rattle.master_tour.specs.Stands.{is_still}
use Rattle.master_tour.specs.Stops.{StopLived, StopUnder}
use Rattle.master_tour.specs.Under.{Grams}
use Rattle.master_tour.specs.declared.stop.Stand.{Stand}
use Rattle.master_tour.specs.declared.stop.Stop.{Stop}
use Rattle.master_side.specs.Counts.{CountsAt, counts_on}

-- an open slave's side knows it; one that was seen in Init on its way there has done no read yet; of the epoch before, and of a slave that is gone,
-- nothing more counts
abbrev pub StandCounts : Stand → Option ℕ → ℕ → ℕ → Bool → Type 0
StandCounts (Stand.Opening up) at pace made counts = is_still up ≡ false → at ≡ None
StandCounts Stand.Open at pace made counts = CountsAt at pace made counts
StandCounts Stand.Gone at pace made counts = ⊤

module _ {H : Type 0} {G : Ghosts H} where
  -- of a slave of the tour before the frame of this number
  abbrev pub StopCounts : Stop H G → ℕ → Bool → Type 0
  StopCounts s made counts = StandCounts s.stand s.side.read_at s.side.pace made counts

  -- BEHIND THAT FRAME, of which this came back, it is what the record has
  abbrev pub CountsOn : ℕ → Grams → Stop H G → Stop H G → Life Body G.Asked Reply → Type 0
  CountsOn made back s t l = (counts : Bool) → StopCounts s made counts → StopCounts t (suc made) (counts_on l.stand s.side.station s.side.pace made back counts)

  -- where it came back
  abbrev pub CameCounts : (ℕ → Lens) → Grams → Grams → ℕ → Stop H G → Stop H G → Type 0
  CameCounts lens sent back made s t = (x : Speech Body G.Asked Reply) (recover : ℕ) (spot : Spot) (l : Life Body G.Asked Reply) →
      StopUnder lens s l sent → StopLived s x recover spot l → CountsOn made back s t l

  -- and where it was lost
  abbrev pub LostCounts : Stop H G → Stop H G → Type 0
  LostCounts s t = (x : Speech Body G.Asked Reply) (made recover : ℕ) (spot : Spot) (l : Life Body G.Asked Reply) → StopLived s x recover spot l → CountsOn made [] s t l

  -- the frame of the last done read, and the slave's pace, stay
  abbrev pub ReadStays : Stop H G → Stop H G → Type 0
  ReadStays s t = (t.side.read_at ≡ s.side.read_at) × (t.side.pace ≡ s.side.pace)

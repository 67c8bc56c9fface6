-- THE RECORD'S COUNTERS OF AN OPEN SLAVE.
use Rattle.std.specs.Prelude.{◌≡◌, ℕ, Bool, List, length}
use Rattle.served_places.specs.of_life_model.Eras.{era_frames}
use Rattle.served_places.specs.of_life_model.Lives.{Spot}
use Rattle.served_places.specs.of_link_mails.Body.{Body}
use Rattle.served_places.specs.of_segment_model.Record.{Frame, Kept, kept_all, nothing_kept}

-- THEY ARE THOSE OF ITS EPOCH, of the mails told and heard since it was opened; and an empty read counts for the record where it does as its master leads it
pub record IsCounted (spot : Spot) (opened : ℕ) (fs : List (Frame Body)) (led : Bool) (kept : Kept) (counts : Bool) : Type 0 where
  pub same : kept ≡ kept_all spot.station nothing_kept (era_frames spot opened (length fs) fs)
  pub reads : counts ≡ led

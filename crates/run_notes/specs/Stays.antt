-- WHAT STAYS OF ALL SLAVES as something else is noted.
use Rattle.std.specs.Prelude.{◌≡◌, ℕ, List}
use Rattle.run_notes.specs.Handed.{AllDoubts}
use Rattle.run_notes.specs.Heard.{emergencies_noted}
use Rattle.run_notes.specs.Packets.{begun_noted}
use Rattle.run_notes.specs.Slaves.{gaves_noted}
use Rattle.run_notes.specs.Times.{KeepsTime, making}
use Rattle.run_notes.specs.declared.notes.Notes.{Notes}

-- the frames at which each was given up, its emergencies and its rows
pub record StaysBeside (old new : List Notes) : Type 0 where
  pub gave : gaves_noted new ≡ gaves_noted old
  pub heard : emergencies_noted new ≡ emergencies_noted old
  pub rows : begun_noted new ≡ begun_noted old

-- as services come into hand before a frame: the first two, what was in hand is in doubt, and each has what it is to have while the frame is made
pub record StaysMaking (frame : ℕ) (old new : List Notes) : Type 0 where
  pub gave : gaves_noted new ≡ gaves_noted old
  pub heard : emergencies_noted new ≡ emergencies_noted old
  pub doubts : AllDoubts old new
  pub time : KeepsTime (making frame) old new

-- WHAT A BOOK SAYS OF A SLAVE'S EPOCHS, beside its life.
use Rattle.std.specs.Prelude.{◌≡◌, Bool, List, map}
use Rattle.run_frames.specs.of_life_runs.Spans.{Span, spans_of, is_leaving, is_open}
use Rattle.run_frames.specs.of_life_runs.Led.{Leads}
use Rattle.run_book.specs.declared.book.Epoch.{Epoch}
use Rattle.run_book.specs.declared.book.SlaveBook.{SlaveBook}

-- the frames of an epoch of a book
abbrev pub span_in : Epoch → Span
span_in e = record { cleared = e.cleared; opened = e.opened }

-- WHAT IS NOTED of a slave's epochs goes with its life: when each was returned to Init and opened, and how the master stands to it
pub record IsMarked (a : Leads) (epochs : List Epoch) (leaves opens : Bool) : Type 0 where
  pub spans : map span_in epochs ≡ spans_of a.lived.life
  pub leaving : leaves ≡ is_leaving a.lived.life.stand
  pub up : opens ≡ is_open a.lived.life.stand

-- THE EPOCHS OF A BOOK are just those of the life, each returned to Init and opened by these very frames
abbrev pub HasEpochs : Leads → SlaveBook → Type 0
HasEpochs a row = map span_in row.epochs ≡ spans_of a.lived.life

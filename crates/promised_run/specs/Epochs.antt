-- THE EPOCHS OF A SLAVE, as a book has them.
use Rattle.std.specs.Prelude.{None, List, [], ◌∷◌, ◌++◌, ⊤}
use Rattle.run_promises.specs.of_life_runs.Causes.{AllEndBy}
use Rattle.run_promises.specs.of_life_runs.Led.{Leads}
use Rattle.run_promises.specs.of_life_runs.Opened.{AllOpenIn}
use Rattle.gateway_run.specs.of_run_book.declared.book.SlaveBook.{SlaveBook}
use Rattle.gateway_run.specs.of_run_notes.Epochs.{HasEpochs}

-- OF ONE SLAVE: the epochs of the book are just those of its life, each returned to Init and opened by the frames that showed it; each but the first has
-- its cause in the one before it: a state service in hand that returns to Init, or a give-up at a frame that the book has; and each is opened in the slave's
-- start, where it is the first or behind a give-up, and else in PreOp or Bootstrap, as that service asks
pub record AreCaused (a : Leads) (row : SlaveBook) : Type 0 where
  pub epochs : HasEpochs a row
  pub causes : AllEndBy row.gave a.lived.life.past a.lived.life.era.cleared
  pub states : AllOpenIn a.lived.spot.start row.gave None (a.lived.life.past ++ a.lived.life.era ∷ [])

-- of all of them
abbrev pub AllCaused : List Leads → List SlaveBook → Type 0
AllCaused [] [] = ⊤
AllCaused (a ∷ as') (row ∷ rows) = AreCaused a row × AllCaused as' rows
AllCaused _ _ = ⊥

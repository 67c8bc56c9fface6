-- WHERE FEW FRAMES ARE LOST IN A ROW, as a plan loses them.
use Rattle.std.specs.Prelude.{◌≡◌, ◌≢◌, ℕ, ◌+◌, ◌≤◌, List, [], ◌∷◌, ⊤}
use Rattle.gateway_run.specs.of_run_book.declared.book.Book.{Book}
use Rattle.gateway_run.specs.of_run_book.declared.book.Ending.TheVariants as endings
use Rattle.gateway_run.specs.of_run_book.declared.book.SlaveBook.{SlaveBook}
use Rattle.run_promises.specs.of_segment_ring.Schedule.{fate_at}
use Rattle.run_promises.specs.of_segment_ring.declared.wire.Fate.{Fate}
use Rattle.run_promises.specs.of_segment_ring.declared.wire.Fate.TheVariants.{Pass, Lost}

-- a frame with this fate is lost
abbrev pub IsLost : Fate → Type 0
IsLost Pass = ⊥
IsLost (Lost after) = ⊤

-- NO MORE FRAMES IN A ROW ARE LOST by a schedule than the retry limit: of no `retry + 1` frame numbers in a row all are lost
abbrev pub AreFewLost : List (ℕ × ℕ) → ℕ → Type 0
AreFewLost lose retry = (first : ℕ) → ((k : ℕ) → k ≤ retry → IsLost (fate_at lose (first + k))) → ⊥

-- none of these slaves was given up
abbrev pub NoneGivenUp : List SlaveBook → Type 0
NoneGivenUp [] = ⊤
NoneGivenUp (row ∷ rows) = (row.gave ≡ []) × NoneGivenUp rows

-- NO SLAVE OF A RUN WAS GIVEN UP, so where nothing was left to do it ended as done
pub record OutlivesLosses (book : Book) : Type 0 where
  pub slaves : NoneGivenUp book.slaves
  pub ending : book.ending ≢ endings.GivenUp

-- WITH WHAT ANSWER THE PACKETS STAND in a book that came into hand of the slaves.
use Rattle.std.specs.Prelude.{◌≢◌, ℕ}
use Rattle.gateway_run.specs.Served.{HasAccount}
use Rattle.gateway_run.specs.of_run_book.declared.book.Book.{Book}
use Rattle.gateway_run.specs.of_run_book.declared.book.Ending.TheVariants as endings
use Rattle.gateway_run.specs.of_run_record.Led.{LedBook}
use Rattle.gateway_run.specs.of_run_record.Written.{packets_written, served_written}
use Rattle.gateway_run.specs.of_run_notes.Handed.{AreForwarded}
use Rattle.run_promises.specs.of_segment_plan.declared.plan.Scenario.{Scenario}

-- OF A RUN, of each slave in order: `Handed`, of the frame with whose return the last fragment was written, or in doubt where it wasn't
abbrev pub AllWritten : (plan : Scenario) (book : Book) → LedBook plan book book.ending → Type 0
AllWritten plan book led = AreForwarded (λ k. packets_written led.lives k) book.slaves

-- of a serving the same, by each account of it
abbrev pub IsServedWritten : Scenario → ℕ → Book → Type 0
IsServedWritten plan count book = book.ending ≢ endings.NoMemory → (a : HasAccount plan count book book.ending) → AreForwarded (λ k. served_written a.answers.serving.leading.lives k) book.slaves

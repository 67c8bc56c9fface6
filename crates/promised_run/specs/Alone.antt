-- A RUN AS A SERVING to which no mail is asked.
use Rattle.std.specs.Prelude.{List}
use Rattle.run_promises.specs.of_life_runs.Led.{Leads}
use Rattle.gateway_run.specs.of_run_book.declared.book.Book.{Book}
use Rattle.run_promises.specs.of_segment_plan.declared.plan.Scenario.{Scenario}
use Rattle.run_promises.specs.of_life_runs.Served.{IsRunOf, Serves}
use Rattle.promised_run.specs.Stood.{StoodBehind}

-- BY ITS SERVER each slave of the ring behind all frames has carried out, epoch by epoch, just the first of what came into hand, and counts just the services by
-- mails that are among these: its node has the number of them (`handled`)
pub record ServesAlone (plan : Scenario) (book : Book) (leads : List Leads) : Type 0 where
  pub serves : List Serves
  pub alone : IsRunOf serves leads
  pub slaves : StoodBehind plan book.frames serves

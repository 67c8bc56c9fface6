-- How a call ends by the ending of its run.
use Rattle.run_report.specs.of_run_book.declared.book.Ending.{Ending}
use Rattle.run_report.specs.of_run_book.declared.book.Ending.TheVariants as endings
use Rattle.tool_call.specs.of_ecmbx_words.declared.status.Status.{Status}
use Rattle.tool_call.specs.of_ecmbx_words.declared.status.Status.TheVariants as statuses

-- how a call ends whose run or serving ended so
abbrev pub status_of : Ending → Status
status_of endings.Unfinished = statuses.NoMemory
status_of endings.Done = statuses.Done
status_of endings.GivenUp = statuses.GivenUp
status_of endings.BudgetSpent = statuses.BudgetSpent
status_of endings.PortFault = statuses.PortFault
status_of endings.NoMemory = statuses.NoMemory

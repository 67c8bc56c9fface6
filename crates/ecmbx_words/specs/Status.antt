-- The numbers of the statuses.
use Rattle.std.specs.Prelude.{ℕ}
use Rattle.ecmbx_words.specs.declared.status.Status.{Status}
use Rattle.ecmbx_words.specs.declared.status.Status.TheVariants as statuses

-- what the program ends with
abbrev pub number_of : Status → ℕ
number_of statuses.Done = 0
number_of statuses.Refused = 1
number_of statuses.Usage = 2
number_of statuses.Absent = 3
number_of statuses.TooLong = 4
number_of statuses.FileFault = 5
number_of statuses.SinkFault = 6
number_of statuses.GivenUp = 7
number_of statuses.BudgetSpent = 8
number_of statuses.PortFault = 9
number_of statuses.NoMemory = 10
number_of statuses.AuditNo = 11
number_of statuses.NoAnswer = 12

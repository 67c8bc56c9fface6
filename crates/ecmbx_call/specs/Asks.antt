-- The contract of the call of `ask` as one fact.
use Rattle.std.specs.Prelude.{◌≡◌, ℕ, List, Option}
use Rattle.gateway_stream.specs.of_ec_outside.Faults.{Rose}
use Rattle.gateway_stream.specs.of_ec_outside.Files.{Table}
use Rattle.tool_call.specs.of_gateway_tool.Told.{Told}
use Rattle.tool_call.specs.of_ecmbx_words.declared.status.Status.{Status}
use Rattle.tool_call.specs.of_ecmbx_words.declared.status.Status.TheVariants as statuses
use Rattle.tool_call.specs.Course.{AsksTo}
use Rattle.tool_call.specs.Causes.{UsageCause, AbsentCause, LongCause, NoAnswerCause, FaultCause}

-- ALL THAT THE CALL OF `ask` PROMISES of words, by what the port told before it and behind it: its course, when each status comes, and that no
-- file is changed; `faulted` and `sunk` say that files and sink had a fault, `still` that the port wasn't touched
pub record AsksAs (words : List (List ℕ)) (table saved : Option Table) (faulted sunk still : Type 0) (first last : Told) (old new : Option (List ℕ)) (status : Status) : Type 0 where
  pub course : AsksTo words table faulted still first last old new status
  pub usage : UsageCause words status
  pub absent : AbsentCause words table status
  pub too_long : LongCause words table status
  pub no_answer : NoAnswerCause words first last status
  pub port_fault : FaultCause words first last status
  pub file_fault : status ≡ statuses.FileFault → faulted
  pub sink_fault : status ≡ statuses.SinkFault → sunk
  pub same : saved ≡ table

-- the same of files, a sink and a port, by what they tell: the table of the files, their count of faults, what was written, and the sink's count of faults
abbrev pub Asks : {F O Q : Type 0} → (F → Option Table) → (F → ℕ) → (O → Option (List ℕ)) → (O → ℕ) → List (List ℕ) → Told → Told → F → F → O → O → Q → Q → Status → Type 0
Asks table faults written sink_faults words first last files files' out out' port port' status =
    AsksAs words (table files) (table files') (Rose (faults files) (faults files')) (Rose (sink_faults out) (sink_faults out')) (port' ≡ port) first last (written out) (written out') status

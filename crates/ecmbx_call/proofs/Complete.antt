-- A run or a serving of a scenario that is found is complete, where neither a budget nor a fault cuts it off.
use Rattle.std.proofs.Common.{◌≡◌, ◌≤◌, ◌⊎◌, inl, inr, ℕ, List, Option, refl, sym, ◌∙◌, subst}
use Rattle.gateway_stream.specs.of_ec_outside.Faults.{Rose}
use Rattle.gateway_stream.specs.of_ec_outside.Files.{Table}
use Rattle.promised_run.specs.of_gateway_run.Served.{IsServed}
use Rattle.promised_run.specs.of_gateway_run.Serving.{Told}
use Rattle.tool_call.specs.of_segment_plan.Bound.{bound_of}
use Rattle.tool_call.specs.of_segment_plan.declared.plan.Scenario.{Scenario}
use Rattle.run_report.specs.of_run_book.declared.book.Book.{Book}
use Rattle.run_report.specs.of_run_book.declared.book.Ending.{Ending}
use Rattle.run_report.specs.of_run_book.declared.book.Ending.TheVariants as endings
use Rattle.promised_run.specs.Promised.{LeavesNothing}
use Rattle.promised_run.specs.Ran.{EndsAs}
use Rattle.promised_run.specs.Few.{AreFewLost}
use Rattle.promised_run.specs.Session.{budget_of}
use Rattle.promised_run.specs.ServedBounded.{HearsFair}
use Rattle.tool_call.specs.of_ecmbx_words.declared.status.Status.{Status}
use Rattle.tool_call.specs.of_ecmbx_words.declared.status.Status.TheVariants as statuses
use Rattle.run_report.specs.Report.{report_lines}
use Rattle.tool_call.specs.of_ecmbx_words.Ends.{text_of, Ended}
use Rattle.ecmbx_call.specs.Causes.{RunsTo, SavesTo, ServesTo}
use Rattle.ecmbx_call.specs.Complete.{CompletesServing, CompletesTo, IsComplete, IsServedComplete}
use Rattle.ecmbx_call.specs.Course.{HasRun, status_of}
use Rattle.ecmbx_call.specs.Serving.{HasServed}

-- however its run ended
complete_by : (plan : Scenario) (book : Book) (status : Status) → HasRun plan book → bound_of plan 0 ≤ budget_of plan 0 → (ending : Ending) → book.ending ≡ ending → status ≡ status_of ending → (status ≡ statuses.NoMemory) ⊎ IsComplete plan book status
complete_by plan book status ran enough endings.Done e is =
    inr (record { promise = ran.promise; ends = inl (is, subst (λ (z : Ending). LeavesNothing plan book ran.promise.led.leads z) e ran.promise.over); few = λ few. is })
complete_by plan book status ran enough endings.GivenUp e is =
    inr
    (record {
      promise = ran.promise;
      ends = inr (is, subst (λ (z : Ending). LeavesNothing plan book ran.promise.led.leads z) e ran.promise.over);
      few = λ few. absurd (let done = ran.bounded.done enough few (λ none. (let no : endings.GivenUp ≡ endings.NoMemory = sym e ∙ none in cc)) in let bad : endings.GivenUp ≡ endings.Done = sym e ∙ done in cc);
    })
complete_by plan book status ran enough endings.BudgetSpent e is = absurd (ran.bounded.uncut enough e)
complete_by plan book status ran enough endings.NoMemory e is = inl is
complete_by plan book status ran enough endings.PortFault e is = absurd (let ends : EndsAs plan book endings.PortFault = subst (λ (z : Ending). EndsAs plan book z) e ran.ending in ends)
complete_by plan book status ran enough endings.Unfinished e is = absurd (let ends : EndsAs plan book endings.Unfinished = subst (λ (z : Ending). EndsAs plan book z) e ran.ending in ends)

module _ (words : List (List ℕ)) (table saved : Option Table) (sunk : Type 0) (plan : Scenario) (book : Book) (old new : Option (List ℕ)) (status : Status) where
  -- where the sink had no fault
  told_so : (text : List ℕ) → (status ≡ statuses.SinkFault → sunk) → (sunk → ⊥) → HasRun plan book → bound_of plan 0 ≤ budget_of plan 0 → Ended (status_of book.ending) text old new status → (status ≡ statuses.NoMemory) ⊎ IsComplete plan book status
  told_so text sinks quiet ran enough (inl whole) = complete_by plan book status ran enough book.ending refl whole.0
  told_so text sinks quiet ran enough (inr part) = absurd (quiet (sinks part.0))

  pub completes_to : (status ≡ statuses.SinkFault → sunk) → (sunk → ⊥) → RunsTo words table plan book old new status → SavesTo words table saved plan book old new status → CompletesTo words table plan book status
  completes_to sinks quiet runs saves octets (inl f) found is enough = elim (runs octets f found is) [
    | inl memory ↦ inl memory
    | inr ran ↦ told_so (text_of (report_lines plan book)) sinks quiet ran.0 enough ran.1
  ]
  completes_to sinks quiet runs saves octets (inr f) found is enough = elim (saves octets f found is) [
    | inl memory ↦ inl memory
    | inr ran ↦ told_so (text_of (report_lines plan book)) sinks quiet ran.0 enough ran.2
  ]

-- ---- servings

module _ (plan : Scenario) (count : ℕ) (first last : Told) (book : Book) (status : Status) (did : HasServed plan count first last book) (fair : HearsFair book) (enough : bound_of plan count ≤ budget_of plan count) where
  -- no other ending is as done, where few frames are lost
  done_of : (ending : Ending) → book.ending ≡ ending → (endings.PortFault ≡ ending → ⊥) → (endings.NoMemory ≡ ending → ⊥) → AreFewLost plan.lose plan.retry → ending ≡ endings.Done
  done_of ending e port memory few = sym e ∙ did.bounded.done fair enough few (λ is. port (sym is ∙ e)) (λ is. memory (sym is ∙ e))

  -- how it ended
  served_at : (ending : Ending) → book.ending ≡ ending → IsServed plan count first last book ending
  served_at ending e = subst (λ (z : Ending). IsServed plan count first last book z) e did.served

  served_by : (ending : Ending) → book.ending ≡ ending → status ≡ status_of ending → (status ≡ statuses.NoMemory) ⊎ IsServedComplete plan count first last book status
  served_by endings.Done e is = inr (record { did = did; ends = inl is; few = λ few calm. is })
  served_by endings.GivenUp e is =
      inr (record { did = did; ends = inr (inl is); few = λ few calm. absurd (let no : endings.GivenUp ≡ endings.Done = done_of endings.GivenUp e (λ z. absurd cc) (λ z. absurd cc) few in cc) })
  served_by endings.BudgetSpent e is = absurd (did.bounded.uncut fair enough e)
  served_by endings.PortFault e is =
      let broken : IsServed plan count first last book endings.PortFault = served_at endings.PortFault e in
      let rose : Rose first.faults last.faults = broken.2.rose in
      inr (record { did = did; ends = inr (inr (is, rose)); few = λ few calm. absurd (calm rose) })
  served_by endings.NoMemory e is = inl is
  served_by endings.Unfinished e is = absurd (let none : IsServed plan count first last book endings.Unfinished = served_at endings.Unfinished e in none.0)

module _ (words : List (List ℕ)) (table : Option Table) (sunk : Type 0) (first last : Told) (plan : Scenario) (book : Book) (old new : Option (List ℕ)) (status : Status) where
  serving_told : (text : List ℕ) (count : ℕ) → (status ≡ statuses.SinkFault → sunk) → (sunk → ⊥) → HasServed plan count first last book → HearsFair book → bound_of plan count ≤ budget_of plan count → Ended (status_of book.ending) text old new status →
      (status ≡ statuses.NoMemory) ⊎ IsServedComplete plan count first last book status
  serving_told text count sinks quiet did fair enough (inl whole) = served_by plan count first last book status did fair enough book.ending refl whole.0
  serving_told text count sinks quiet did fair enough (inr part) = absurd (quiet (sinks part.0))

  pub completes_serving : (status ≡ statuses.SinkFault → sunk) → (sunk → ⊥) → ServesTo words table first last plan book old new status → CompletesServing words table first last plan book status
  completes_serving sinks quiet serves octets count f found is enough fair = elim (serves octets count f found is) [
    | inl memory ↦ inl memory
    | inr did ↦ serving_told (text_of (report_lines plan book)) count sinks quiet did.0 fair enough did.1
  ]

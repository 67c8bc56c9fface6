-- How a run or a serving ended, and what that leaves.
use Rattle.std.proofs.Common.{◌≡◌, ◌≢◌, ℕ, ◌⊎◌, true, false, List, Option, refl, sym, subst, ◌∙◌, inl, inr}
use Rattle.gateway_stream.specs.of_ec_outside.Files.{Table}
use Rattle.tool_call.specs.of_segment_plan.declared.plan.Scenario.{Scenario}
use Rattle.run_report.specs.of_run_book.declared.book.Book.{Book}
use Rattle.run_report.specs.of_run_book.declared.book.Ending.{Ending}
use Rattle.run_report.specs.of_run_book.declared.book.Ending.TheVariants as endings
use Rattle.promised_run.specs.Ran.{EndsAs, IsOver, IsCut}
use Rattle.promised_run.specs.Session.{some_given_up}
use Rattle.promised_run.specs.of_gateway_run.Done.{LeavesNone}
use Rattle.promised_run.specs.of_gateway_run.Serving.{Told as PortTold}
use Rattle.promised_run.specs.of_gateway_run.Served.{HasAccount, IsServed}
use Rattle.promised_run.proofs.Left.{run_rests}
use Rattle.tool_call.specs.of_ecmbx_words.declared.status.Status.{Status}
use Rattle.tool_call.specs.of_ecmbx_words.declared.status.Status.TheVariants as statuses
use Rattle.tool_call.specs.of_ecmbx_words.Ends.{Ended}
use Rattle.ecmbx_call.specs.Course.{HasRun, status_of}
use Rattle.ecmbx_call.specs.Causes.{CameOf, EndedCut, EndedWith, IsUnlessFault, LeavesNoWork, LeavesWork}
use Rattle.ecmbx_call.specs.Serving.{HasServed}

-- a run's ending is one
pub run_ended : (plan : Scenario) (book : Book) → HasRun plan book → book.ending ≢ endings.Unfinished
run_ended plan book did is = subst (λ (e : Ending). EndsAs plan book e) is did.ending

-- a serving's is
pub serving_ended : (plan : Scenario) (count : ℕ) (first last : PortTold) (book : Book) → HasServed plan count first last book → book.ending ≢ endings.Unfinished
serving_ended plan count first last book did is = (let served : IsServed plan count first last book endings.Unfinished = subst (λ (e : Ending). IsServed plan count first last book e) is did.served in served.0)

-- the account of a serving that left nothing
account_of : (plan : Scenario) (count : ℕ) (first last : PortTold) (book : Book) (ending : Ending) → LeavesNone ending → IsServed plan count first last book ending → HasAccount plan count book ending
account_of plan count first last book endings.Done none served = served.3
account_of plan count first last book endings.GivenUp none served = served.3
account_of plan count first last book endings.BudgetSpent none served = served.3
account_of plan count first last book endings.PortFault none served = served.3
account_of plan count first last book endings.NoMemory (inl e) served = absurd cc
account_of plan count first last book endings.NoMemory (inr e) served = absurd cc
account_of plan count first last book endings.Unfinished none served = absurd served.0

-- a status that is planned, or one of a fault
abbrev pub IsPlanned : Status → Status → Type 0
IsPlanned one planned = (planned ≡ one) ⊎ ((planned ≡ statuses.FileFault) ⊎ ((planned ≡ statuses.PortFault) ⊎ (planned ≡ statuses.NoMemory)))

pub settle_fault : (one planned : Status) (text : List ℕ) (old new : Option (List ℕ)) (status : Status) → IsPlanned one planned → Ended planned text old new status → IsUnlessFault one status
settle_fault one planned text old new status among (inr e) = inr (inr (inl e.0))
settle_fault one planned text old new status (inl is) (inl e) = inl (e.0 ∙ is)
settle_fault one planned text old new status (inr (inl is)) (inl e) = inr (inl (e.0 ∙ is))
settle_fault one planned text old new status (inr (inr (inl is))) (inl e) = inr (inr (inr (inl (e.0 ∙ is))))
settle_fault one planned text old new status (inr (inr (inr is))) (inl e) = inr (inr (inr (inr (inl (e.0 ∙ is)))))

module _ (words : List (List ℕ)) (table : Option Table) (first last : PortTold) (plan : Scenario) (book : Book) where
  pub came_ended : (grams : ℕ) → CameOf words table first last plan book grams → book.ending ≢ endings.Unfinished
  came_ended _ (CameOf.ran runs named did) = run_ended plan book did
  came_ended _ (CameOf.served count f named did) = serving_ended plan count first last book did

  -- with nothing left to do, and a slave given up or none
  pub over_given : (grams : ℕ) → CameOf words table first last plan book grams → book.ending ≡ endings.GivenUp → IsOver plan book true
  over_given _ (CameOf.ran runs named did) is = subst (λ (e : Ending). EndsAs plan book e) is did.ending
  over_given _ (CameOf.served count f named did) is = (let so : IsServed plan count first last book endings.GivenUp = subst (λ (e : Ending). IsServed plan count first last book e) is did.served in so.0)

  pub over_done : (grams : ℕ) → CameOf words table first last plan book grams → book.ending ≡ endings.Done → IsOver plan book false
  over_done _ (CameOf.ran runs named did) is = subst (λ (e : Ending). EndsAs plan book e) is did.ending
  over_done _ (CameOf.served count f named did) is = (let so : IsServed plan count first last book endings.Done = subst (λ (e : Ending). IsServed plan count first last book e) is did.served in so.0)

  pub no_work : (grams : ℕ) (came : CameOf words table first last plan book grams) → LeavesNone book.ending → LeavesNoWork came
  no_work _ (CameOf.ran runs named did) none = run_rests plan book book.ending none did.promise.led
  no_work _ (CameOf.served count f named did) none = (let a = account_of plan count first last book book.ending none did.served in (a, (a.rests none, a.come none)))

  -- with the budget spent
  cut_of : (grams : ℕ) → CameOf words table first last plan book grams → book.ending ≡ endings.BudgetSpent → IsCut plan grams book
  cut_of _ (CameOf.ran runs named did) is = subst (λ (e : Ending). EndsAs plan book e) is did.ending
  cut_of _ (CameOf.served count f named did) is = (let so : IsServed plan count first last book endings.BudgetSpent = subst (λ (e : Ending). IsServed plan count first last book e) is did.served in so.0)

  work_of : (grams : ℕ) (came : CameOf words table first last plan book grams) → book.ending ≡ endings.BudgetSpent → LeavesWork came
  work_of _ (CameOf.ran runs named did) is = did.promise.left is
  work_of _ (CameOf.served count f named did) is = did.left is

  pub ended_given : (grams : ℕ) → CameOf words table first last plan book grams → book.ending ≡ endings.GivenUp → EndedWith true words table first last book
  ended_given grams came is = record { plan = plan; grams = grams; came = came; over = over_given grams came is; rests = no_work grams came (inr is) }

  pub ended_done : (grams : ℕ) → CameOf words table first last plan book grams → book.ending ≡ endings.Done → EndedWith false words table first last book
  ended_done grams came is = record { plan = plan; grams = grams; came = came; over = over_done grams came is; rests = no_work grams came (inl is) }

  pub ended_cut : (grams : ℕ) → CameOf words table first last plan book grams → book.ending ≡ endings.BudgetSpent → EndedCut words table first last book
  ended_cut grams came is = record { plan = plan; grams = grams; came = came; cut = cut_of grams came is; left = work_of grams came is }

  -- work is left or none
  clash : (grams : ℕ) (came : CameOf words table first last plan book grams) → LeavesWork came → LeavesNoWork came → ⊥
  clash _ (CameOf.ran runs named did) left rests = left rests
  clash _ (CameOf.served count f named did) left rests = left rests.0 rests.1

  port_of : (grams : ℕ) → CameOf words table first last plan book grams → (ending : Ending) → book.ending ≡ ending → (planned : Status) → planned ≡ status_of ending → (one : Status) → (ending ≡ endings.Done → IsPlanned one planned) → (ending ≡ endings.GivenUp → IsPlanned one planned)
      → (ending ≡ endings.BudgetSpent → IsPlanned one planned) → IsPlanned one planned
  port_of grams came endings.Done e planned is one done given spent = done refl
  port_of grams came endings.GivenUp e planned is one done given spent = given refl
  port_of grams came endings.BudgetSpent e planned is one done given spent = spent refl
  port_of grams came endings.PortFault e planned is one done given spent = inr (inr (inl is))
  port_of grams came endings.NoMemory e planned is one done given spent = inr (inr (inr is))
  port_of grams came endings.Unfinished e planned is one done given spent = absurd (came_ended grams came e)

  -- what is planned where nothing was left to do, and a slave was given up
  pub given_planned : (grams : ℕ) (came : CameOf words table first last plan book grams) → LeavesNoWork came → some_given_up book.slaves ≡ true → (planned : Status) → planned ≡ status_of book.ending → IsPlanned statuses.GivenUp planned
  given_planned grams came rests gave planned is =
      port_of grams came book.ending refl planned is statuses.GivenUp
      (λ e. absurd (let none = (over_done grams came e).gave in let bad : true ≡ false = sym gave ∙ none in cc))
      (λ e. inl (is ∙ given_status book.ending e)) (λ e. absurd (clash grams came (work_of grams came e) rests))
    where
      given_status : (ending : Ending) → ending ≡ endings.GivenUp → status_of ending ≡ statuses.GivenUp
      given_status ending e = rw e refl

  -- or none was
  pub done_planned : (grams : ℕ) (came : CameOf words table first last plan book grams) → LeavesNoWork came → some_given_up book.slaves ≡ false → (planned : Status) → planned ≡ status_of book.ending → IsPlanned statuses.Done planned
  done_planned grams came rests gave planned is =
      port_of grams came book.ending refl planned is statuses.Done (λ e. inl (is ∙ done_status book.ending e))
      (λ e. absurd (let some = (over_given grams came e).gave in let bad : false ≡ true = sym gave ∙ some in cc))
      (λ e. absurd (clash grams came (work_of grams came e) rests))
    where
      done_status : (ending : Ending) → ending ≡ endings.Done → status_of ending ≡ statuses.Done
      done_status ending e = rw e refl

  -- and where something was left to do
  pub spent_planned : (grams : ℕ) (came : CameOf words table first last plan book grams) → LeavesWork came → (planned : Status) → planned ≡ status_of book.ending → IsPlanned statuses.BudgetSpent planned
  spent_planned grams came left planned is =
      port_of grams came book.ending refl planned is statuses.BudgetSpent (λ e. absurd (clash grams came left (no_work grams came (inl e)))) (λ e. absurd (clash grams came left (no_work grams came (inr e))))
      (λ e. inl (is ∙ spent_status book.ending e))
    where
      spent_status : (ending : Ending) → ending ≡ endings.BudgetSpent → status_of ending ≡ statuses.BudgetSpent
      spent_status ending e = rw e refl

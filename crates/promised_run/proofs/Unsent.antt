-- WHAT OF A SCRIPT WASN'T SENT: the script of each slave is the plan's.
use Rattle.std.proofs.Common.{◌≡◌, ℕ, suc, List, [], ◌∷◌}
use Rattle.std.specs.Prelude.{⊤}
use Rattle.run_promises.specs.of_life_runs.First.{script_for}
use Rattle.seen_slaves.specs.of_frame_view.Shares.{AllBoth}
use Rattle.run_promises.specs.of_life_runs.Led.{Leads}
use Rattle.promised_run.specs.Unsent.{AllUnsent}
use Rattle.gateway_run.specs.of_run_book.declared.book.SlaveBook.{SlaveBook}
use Rattle.gateway_run.specs.of_run_notes.Unsent.{IsSpent}
use Rattle.seen_slaves.specs.of_run_frames.Slaves.{AllCome}
use Rattle.run_promises.specs.of_segment_plan.declared.plan.Scenario.{Scenario}
use Rattle.run_promises.specs.of_segment_plan.declared.slave.SlaveSpec.{SlaveSpec}

-- the script of each of these slaves, from a place on, is that of the plan
abbrev pub AllOfPlan : Scenario → ℕ → List Leads → Type 0
AllOfPlan plan place [] = ⊤
AllOfPlan plan place (a ∷ as') = (a.script ≡ script_for place plan.services) × AllOfPlan plan (suc place) as'

-- as it is over a run
pub come_of : (plan : Scenario) (place : ℕ) (ss : List SlaveSpec) (as' : List Leads) → AllCome plan place ss as' → AllOfPlan plan place as'
come_of plan place [] [] c = tt
come_of plan place [] (a ∷ as') c = absurd c
come_of plan place (s ∷ ss) [] c = absurd c
come_of plan place (s ∷ ss) (a ∷ as') c = (c.0.script, come_of plan (suc place) ss as' c.1)

pub all_unsent : (plan : Scenario) (place : ℕ) (as' : List Leads) (rows : List SlaveBook) → AllOfPlan plan place as' → AllBoth IsSpent as' rows → AllUnsent plan place as' rows
all_unsent plan place [] [] c s = tt
all_unsent plan place [] (row ∷ rows) c s = absurd s
all_unsent plan place (a ∷ as') [] c s = absurd s
all_unsent plan place (a ∷ as') (row ∷ rows) c s = (record { script = c.0; rest = s.0 }, all_unsent plan (suc place) as' rows c.1 s.1)

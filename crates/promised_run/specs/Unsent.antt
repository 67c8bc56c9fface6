-- WHAT OF A SCRIPT WASN'T SENT, as a book has it.
use Rattle.std.specs.Prelude.{◌≡◌, ℕ, suc, List, [], ◌∷◌, ⊤}
use Rattle.run_promises.specs.of_life_runs.First.{script_for}
use Rattle.run_promises.specs.of_life_runs.Led.{Leads}
use Rattle.gateway_run.specs.of_run_book.declared.book.SlaveBook.{SlaveBook}
use Rattle.gateway_run.specs.of_run_notes.Unsent.{IsSpent}
use Rattle.run_promises.specs.of_segment_plan.declared.plan.Scenario.{Scenario}

-- OF ONE SLAVE of a plan at its place: just the rest of the plan's script for it, behind the services that came into hand, wasn't sent
pub record IsUnsent (plan : Scenario) (place : ℕ) (a : Leads) (row : SlaveBook) : Type 0 where
  pub script : a.script ≡ script_for place plan.services
  pub rest : IsSpent a row

-- of all of them, from a place on
abbrev pub AllUnsent : Scenario → ℕ → List Leads → List SlaveBook → Type 0
AllUnsent plan place [] [] = ⊤
AllUnsent plan place (a ∷ as') (row ∷ rows) = IsUnsent plan place a row × AllUnsent plan (suc place) as' rows
AllUnsent plan place _ _ = ⊥

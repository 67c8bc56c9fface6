-- Where a run ended with nothing left to do, nothing was left.
use Rattle.std.proofs.Common.{ℕ, List, [], ◌∷◌, inl, inr}
use Rattle.run_promises.specs.of_life_runs.First.{lens_of}
use Rattle.run_promises.specs.of_life_runs.Led.{Leads}
use Rattle.seen_slaves.specs.of_frame_view.View.{Lens}
use Rattle.seen_slaves.specs.of_frame_view.Shares.{AllBoth}
use Rattle.promised_run.specs.Left.{RestAll}
use Rattle.gateway_run.specs.of_run_book.declared.book.Book.{Book}
use Rattle.gateway_run.specs.of_run_book.declared.book.Ending.{Ending}
use Rattle.gateway_run.specs.of_run_book.declared.book.Ending.TheVariants as endings
use Rattle.gateway_run.specs.of_run_book.declared.book.SlaveBook.{SlaveBook}
use Rattle.gateway_run.specs.of_run_record.Led.{DoneSo, LeavesNone, LedBook, RestsSo}
use Rattle.run_promises.specs.of_segment_plan.declared.plan.Scenario.{Scenario}

-- a slave of which all is done rests
done_rests : (lens : ℕ → Lens) (leads : List Leads) (rows : List SlaveBook) → AllBoth (DoneSo lens) leads rows → AllBoth (RestsSo lens) leads rows
done_rests lens [] [] all = tt
done_rests lens [] (row ∷ rows) all = absurd all
done_rests lens (a ∷ leads) [] all = absurd all
done_rests lens (a ∷ leads) (row ∷ rows) all = (inr (all.0.idle, all.0.settled), done_rests lens leads rows all.1)

pub run_rests : (plan : Scenario) (book : Book) (ending : Ending) → LeavesNone ending → (led : LedBook plan book ending) → RestAll plan led.leads book
run_rests plan book endings.Done ends led = (done_rests (lens_of plan.slaves) led.leads book.slaves led.rests, led.come ends)
run_rests plan book endings.GivenUp ends led = (led.rests, led.come ends)
run_rests plan book endings.BudgetSpent (inl e) led = absurd cc
run_rests plan book endings.BudgetSpent (inr e) led = absurd cc
run_rests plan book endings.NoMemory (inl e) led = absurd cc
run_rests plan book endings.NoMemory (inr e) led = absurd cc
run_rests plan book endings.PortFault (inl e) led = absurd cc
run_rests plan book endings.PortFault (inr e) led = absurd cc
run_rests plan book endings.Unfinished (inl e) led = absurd cc
run_rests plan book endings.Unfinished (inr e) led = absurd cc

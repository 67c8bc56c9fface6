-- A SERVING THAT IS NEVER CUT OFF.
use Rattle.std.specs.Prelude.{◌≡◌, ◌≢◌, ◌<◌, ◌≤◌, ℕ, suc, true, is_some, List, [], ◌∷◌, length, map, ⊤}
use Rattle.gateway_run.specs.Done.{LeavesNone}
use Rattle.gateway_run.specs.Replies.{dones_of}
use Rattle.gateway_run.specs.Served.{HasAccount}
use Rattle.run_promises.specs.of_master_tour.Made.{is_in}
use Rattle.promised_run.specs.Few.{AreFewLost, NoneGivenUp}
use Rattle.gateway_run.specs.of_run_book.declared.book.Book.{Book}
use Rattle.gateway_run.specs.of_run_book.declared.book.Ending.{Ending}
use Rattle.gateway_run.specs.of_run_book.declared.book.Ending.TheVariants as endings
use Rattle.gateway_run.specs.of_run_book.declared.book.GramIn.{GramIn}
use Rattle.gateway_run.specs.of_run_record.Session.{budget_of}
use Rattle.run_promises.specs.of_run_work.Fair.{AreFairGrams}
use Rattle.run_promises.specs.of_segment_plan.Bound.{bound_of}
use Rattle.run_promises.specs.of_segment_plan.declared.plan.Scenario.{Scenario}

-- none of the datagrams that were heard asks for a download to 2F01:01, which makes its slave send a packet of itself
abbrev pub HearsFair : Book → Type 0
HearsFair book = AreFairGrams (map (λ (g : GramIn). g.bytes) book.grams)

-- EACH DATAGRAM THAT WAS QUEUED AT A SLAVE IS DONE, of those heard from a number on: its row has all its replies
abbrev pub AreDone : List ℕ → ℕ → List GramIn → Type 0
AreDone dones n [] = ⊤
AreDone dones n (g ∷ gs) = (is_some g.queued ≡ true → is_in n dones ≡ true) × AreDone dones (suc n) gs

-- THE FRAMES OF A SERVING ARE FEWER THAN THE BOUND for so many datagrams, none of which asks for a download to 2F01:01, unless memory runs out; so with a budget
-- of as many it doesn't end by it, whatever frames are lost. Where no more frames in a row are lost than the retry limit no slave is given up, so behind a serving that leaves nothing each datagram that was
-- queued at a slave is done; and with that budget it ends as done, unless its port fails or memory runs out
pub record IsServedBounded (plan : Scenario) (count : ℕ) (book : Book) : Type 0 where
  pub fewer : HearsFair book → book.ending ≢ endings.NoMemory → length book.frames < bound_of plan count
  pub uncut : HearsFair book → bound_of plan count ≤ budget_of plan count → book.ending ≢ endings.BudgetSpent
  pub stayed : AreFewLost plan.lose plan.retry → book.ending ≢ endings.NoMemory → NoneGivenUp book.slaves
  pub answered : AreFewLost plan.lose plan.retry → (ending : Ending) (a : HasAccount plan count book ending) → LeavesNone ending → AreDone (dones_of plan count a.session book.frames book.grams a.requests a.owed a.course) 0 book.grams
  pub done :
      HearsFair book → bound_of plan count ≤ budget_of plan count → AreFewLost plan.lose plan.retry → book.ending ≢ endings.PortFault → book.ending ≢ endings.NoMemory
      → book.ending ≡ endings.Done

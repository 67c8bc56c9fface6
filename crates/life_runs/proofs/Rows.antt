-- Worked rows: mails that are asked, come into hand and are told of; and when an empty read counts.
use Rattle.std.proofs.Common.{◌≡◌, ℕ, true, false, Option, Some, None, List, [], ◌∷◌, ◌++◌, refl}
use Rattle.master_tour.specs.of_link_mails.Body.{Body}
use Rattle.master_hand.specs.Spoken.{passed}
use Rattle.master_hand.specs.of_segment_plan.declared.service.Service as Plan
use Rattle.life_runs.specs.Led.{Leads}
use Rattle.master_hand.specs.of_segment_model.Ends.{Passing}
use Rattle.master_hand.specs.of_state_model.Stated.{Service}
use Rattle.master_tour.specs.of_master_side.Counts.{counts_behind}
use Rattle.life_runs.specs.Served.{Keyed, ServedComes, asked_at, new_serves}
use Rattle.life_runs.specs.Told.{Passed, told_on}

-- of two slaves the second gets a mail
asks_second : (k : Keyed) (a b : Leads) → asked_at 1 k (new_serves 1 a ∷ new_serves 2 b ∷ []) ≡ new_serves 1 a ∷ (record (new_serves 2 b) { asked = k ∷ []; waits = k ∷ [] }) ∷ []
asks_second k a b = refl

-- one more waits behind it
asks_behind : (k l : Keyed) (a : Leads) → asked_at 0 l (asked_at 0 k (new_serves 1 a ∷ [])) ≡ (record (new_serves 1 a) { asked = k ∷ l ∷ []; waits = k ∷ l ∷ [] }) ∷ []
asks_behind k l a = refl

-- the oldest comes into hand, under its key
comes_oldest : (room n : ℕ) (script : List Plan.Service) (k l : Keyed) → ServedComes room script (k ∷ l ∷ []) None n (Some (Service.Mails (passed k.mail))) n (l ∷ []) (Some (record { key = k.key; mail = k.mail; told = [] }))
comes_oldest room n script k l = ServedComes.mail k (l ∷ []) refl

-- nothing is told once it is over, or where no mail was passed on
tells_none : (p : Passed) (ms : List Body) → told_on None ms (Some p) ≡ Some (record p { told = p.told ++ [] })
tells_none p ms = refl

tells_nothing : (passing : Option Passing) (ms : List Body) → told_on passing ms None ≡ None
tells_nothing passing ms = refl

-- at pace 2 an empty read counts again behind the frame with number 1
counts_again : counts_behind 4097 2 1 [] false ≡ true
counts_again = refl

counts_not_yet : counts_behind 4097 2 0 [] false ≡ false
counts_not_yet = refl

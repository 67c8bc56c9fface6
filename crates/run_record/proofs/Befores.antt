-- All that stands in the lives behind some frames was before the next one: before the first there is nothing.
use Rattle.std.proofs.Common.{◌≡◌, ◌<◌, ℕ, suc, List, [], ◌∷◌, ◌++◌, length, length-append, arith}
use Rattle.std.specs.Prelude.{⊤}
use Rattle.std.proofs.lemmas.List.Elements.{All-nil}
use Rattle.served_places.specs.of_life_model.Lives.{Era}
use Rattle.served_places.specs.of_life_runs.First.{leads_from}
use Rattle.served_places.specs.of_life_runs.Led.{Exchanged, Leads}
use Rattle.served_places.specs.of_link_mails.Body.{Body}
use Rattle.served_places.specs.of_master_duty.Reply.{Reply}
use Rattle.served_places.specs.of_master_hand.Spoken.{Asked}
use Rattle.packets_heard.specs.of_segment_plan.declared.service.Service as Plan
use Rattle.packets_heard.specs.of_segment_plan.declared.slave.SlaveSpec.{SlaveSpec}
use Rattle.served_places.specs.of_run_frames.Steps.{OpenedBefore, IsBefore}

abbrev pub AllBefore : ℕ → List Leads → Type 0
AllBefore made [] = ⊤
AllBefore made (a ∷ as') = IsBefore made a.lived.life × AllBefore made as'

-- BEFORE THE FIRST FRAME nothing stands in them
pub first_before : (rows : List (ℕ × Plan.Service)) (place : ℕ) (ss : List SlaveSpec) → AllBefore 0 (leads_from rows place ss)
first_before rows place [] = tt
first_before rows place (s ∷ ss) = (record { past = All-nil (λ (e : Era Body Asked Reply). OpenedBefore 0 e.opened); era = tt; gave = All-nil (λ k. k < 0) }, first_before rows (suc place) ss)

-- one more
pub one_more : (fs : List Exchanged) (f : Exchanged) → suc (length fs) ≡ length (fs ++ f ∷ [])
one_more fs f = let k = length-append fs (f ∷ []) in omega (arith, k)

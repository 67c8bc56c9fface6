-- What is noted before the first frame goes with the plan's new lives; and the lives of more frames of a book.
use Rattle.std.proofs.Common.{◌≡◌, ℕ, suc, ◌+◌, true, false, None, List, [], ◌∷◌, ◌++◌, map, length, refl, sym, ap, ◌∙◌, subst, arith}
use Rattle.std.proofs.lemmas.List.{map-append}
use Rattle.served_places.specs.of_life_runs.First.{script_for, first_leads, leads_from}
use Rattle.served_places.specs.of_life_runs.Led.{Exchanged, IsLed, new_leads}
use Rattle.served_places.specs.of_life_model.Lives.{Spot}
use Rattle.packets_heard.specs.of_master_node.Wants.{gave_of}
use Rattle.served_places.specs.of_master_tour.Toured.{new_tour}
use Rattle.packets_heard.specs.Listed.{unfinished_of}
use Rattle.packets_heard.specs.Heard.{joined_none}
use Rattle.run_notes.specs.of_run_book.declared.book.SentFrame.{SentFrame}
use Rattle.packets_heard.specs.of_segment_plan.declared.plan.Scenario.{Scenario}
use Rattle.packets_heard.specs.of_segment_plan.declared.service.Service as Plan
use Rattle.packets_heard.specs.of_segment_plan.declared.slave.SlaveSpec.{SlaveSpec}
use Rattle.run_record.specs.Led.{exchanged, AreLed}
use Rattle.run_notes.specs.Slaves.{gaves_noted, first_notes, scripted}
use Rattle.run_notes.specs.Notes.{new_notes}
use Rattle.run_notes.specs.Reports.{Reports, AllReport}
use Rattle.run_notes.specs.Unsent.{IsNumbered}
use Rattle.run_notes.proofs.Unsent.{none_begun, all_left}
use Rattle.packets_heard.specs.Toured.{IsToured}

-- BEFORE THE FIRST FRAME
pub first_gaves : (services : List (ℕ × Plan.Service)) (number place : ℕ) (ss : List SlaveSpec) → gaves_noted (first_notes services number ss) ≡ map gave_of (leads_from services place ss)
first_gaves services number place [] = refl
first_gaves services number place (s ∷ ss) = ap (λ (gs : List (List ℕ)). [] ∷ gs) (first_gaves services (number + 1) (suc place) ss)

new_reports : (script : List Plan.Service) (spot : Spot) (left : ℕ) → left ≡ length script → Reports (new_leads script spot) (new_notes left)
new_reports script spot left all = record {
  told = record { many = refl; beside = refl; noted = tt; fresh = λ e. record { side = refl; account = refl; opened = refl }; stands = record { rests = λ e. absurd (cc); opens = λ o s g b. refl } };
  aligned = omega arith;
  last = λ bad. absurd (let no : true ≡ false = bad in cc);
  other = λ bad m answer. absurd (let no : false ≡ true = bad in cc);
  gave = refl;
  rest = subst (λ (k : ℕ). IsNumbered (length script) [] [] 0 k) (sym all) (none_begun (length script));
  marked = record { spans = refl; leaving = refl; up = refl };
}

pub first_reports : (services : List (ℕ × Plan.Service)) (number place : ℕ) (ss : List SlaveSpec) → number ≡ place → AllReport (leads_from services place ss) (first_notes services number ss)
first_reports services number place [] e = tt
first_reports services number place (s ∷ ss) e = (
  new_reports _ _ (scripted services number) (all_left services number ∙ ap (λ (k : ℕ). length (script_for k services)) e),
  first_reports services (number + 1) (suc place) ss (omega (arith, e)),
)

-- and nothing happened at its switch
pub none_unfinished : (services : List (ℕ × Plan.Service)) (place : ℕ) (ss : List SlaveSpec) → unfinished_of (joined_none (leads_from services place ss)) ≡ map (λ spec. None) ss
none_unfinished services place [] = refl
none_unfinished services place (s ∷ ss) = ap (λ z. None ∷ z) (none_unfinished services (suc place) ss)

-- THE FRAMES of a book
pub one_led_more : (plan : Scenario) (fs : List SentFrame) (f : SentFrame) (gs : List SentFrame) → gs ≡ fs ++ f ∷ [] → AreLed plan (map exchanged fs ++ exchanged f ∷ []) → AreLed plan (map exchanged gs)
one_led_more plan fs f gs put l = subst (λ (k : List Exchanged). AreLed plan k) (sym (ap (map exchanged) put ∙ map-append exchanged fs (f ∷ []))) l

-- none
pub none_led : (plan : Scenario) (fs : List SentFrame) → fs ≡ [] → AreLed plan (map exchanged fs)
none_led plan fs none = subst (λ (gs : List SentFrame). AreLed plan (map exchanged gs)) (sym none) (record { missed = 0; leads = first_leads plan; lives = IsLed.start; tour = new_tour; toured = IsToured.start })

pub same_led : (plan : Scenario) (fs gs : List SentFrame) → gs ≡ fs → AreLed plan (map exchanged fs) → AreLed plan (map exchanged gs)
same_led plan fs gs same led = subst (λ (hs : List SentFrame). AreLed plan (map exchanged hs)) (sym same) led

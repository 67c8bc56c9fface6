-- WHAT IS LEFT OF A SCRIPT, over answers, what comes into hand, and at the end.
use Rattle.std.proofs.Common.{◌≡◌, ℕ, suc, ◌+◌, ◌-◌, Bool, true, false, List, [], ◌∷◌, ◌++◌, length, refl, ap, sym, ◌∙◌, arith, append-nil}
use Rattle.std.specs.Prelude.{◌==◌, if◌then◌else◌, ⊤}
use Rattle.std.proofs.lemmas.List.Recursion.{is_count_by}
use Rattle.run_frames.specs.of_life_runs.First.{script_for}
use Rattle.run_book.specs.of_master_node.declared.event.Origin.{Origin}
use Rattle.run_book.specs.of_master_node.declared.event.Origin.TheVariants.{Script, Forward, Gateway}
use Rattle.run_book.specs.declared.book.Answer.{Answer}
use Rattle.run_book.specs.declared.book.Begun.{Begun}
use Rattle.run_notes.specs.Notes.{left_behind}
use Rattle.run_notes.specs.Slaves.{scripted}
use Rattle.run_notes.specs.Unsent.{with_number, numbers_in, WasSent, AllSent, IsNumbered}
use Rattle.run_book.specs.of_segment_plan.declared.service.Service as Plan

-- ONE ANSWER MORE
pub sent_more : (answers : List Answer) (answer : Answer) → AllSent answers → WasSent answer → AllSent (answers ++ answer ∷ [])
sent_more [] answer h w = (w, tt)
sent_more (a ∷ answers) answer h w = (h.0, sent_more answers answer h.1 w)

-- ONE SERVICE MORE
behind_more : (o : Origin) (ns ms : List ℕ) → with_number o (ns ++ ms) ≡ with_number o ns ++ ms
behind_more (Script number) ns ms = refl
behind_more (Forward number) ns ms = refl
behind_more (Gateway number) ns ms = refl

numbers_more : (bs : List Begun) (b : Begun) → numbers_in (bs ++ b ∷ []) ≡ numbers_in bs ++ with_number b.origin []
numbers_more [] b = refl
numbers_more (c ∷ bs) b = ap (with_number c.origin) (numbers_more bs b) ∙ behind_more c.origin (numbers_in bs) (with_number b.origin [])

-- a service that is none of the script
abbrev pub IsOther : Origin → Type 0
IsOther (Script number) = ⊥
IsOther (Forward number) = ⊤
IsOther (Gateway number) = ⊤

module _ (many : ℕ) (begun : List Begun) (answers : List Answer) (count left frame : ℕ) (r : IsNumbered many begun answers count left) where
  pub other_more : (o : Origin) → IsOther o → IsNumbered many (begun ++ record { origin = o; frame = frame } ∷ []) answers count (left_behind o left)
  other_more (Script number) other = absurd other
  other_more (Forward number) other = record { numbers = numbers_more begun (record { origin = Forward number; frame = frame }) ∙ append-nil (numbers_in begun) ∙ r.numbers; sent = r.sent; left = r.left }
  other_more (Gateway number) other = record { numbers = numbers_more begun (record { origin = Gateway number; frame = frame }) ∙ append-nil (numbers_in begun) ∙ r.numbers; sent = r.sent; left = r.left }

  pub script_more : IsNumbered many (begun ++ record { origin = Script count; frame = frame } ∷ []) answers (suc count) (left - 1)
  script_more = record {
    numbers = numbers_more begun (record { origin = Script count; frame = frame }) ∙ ap (λ ns. ns ++ count ∷ []) r.numbers;
    sent = r.sent;
    left = (let l = r.left in omega (arith, l));
  }

-- BEFORE THE FIRST FRAME all of a script is left
pub none_begun : (many : ℕ) → IsNumbered many [] [] 0 many
none_begun many = record { numbers = refl; sent = tt; left = omega arith }

pub all_left : (services : List (ℕ × Plan.Service)) (slave : ℕ) → scripted services slave ≡ length (script_for slave services)
all_left services slave = sym (is_count_by (λ (rows : List (ℕ × Plan.Service)). length (script_for slave rows)) (λ (row : ℕ × Plan.Service). row.0 == slave) refl (λ row rows. by row rows (row.0 == slave)) services)
  where
    by : (row : ℕ × Plan.Service) (rows : List (ℕ × Plan.Service)) (b : Bool) → length (if b then row.1 ∷ script_for slave rows else script_for slave rows) ≡ (if b then 1 + length (script_for slave rows) else length (script_for slave rows))
    by row rows true = omega arith
    by row rows false = refl

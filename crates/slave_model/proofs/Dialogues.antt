-- A client that goes by the answers never waits in vain.
use Rattle.std.proofs.Common.{◌≡◌, ℕ, zero, suc, Bool, List, [], ◌∷◌, ◌++◌, Option, None, Some, refl, sym, ap, ◌∙◌}
use Rattle.std.specs.Prelude.{drop, length}
use Rattle.protocol_models.specs.of_exchange_model.Exchange.{given, plain}
use Rattle.protocol_models.specs.of_exchange_model.Dialogue.{Turn, next, again, stop, chosen, first_turn, turn_at, rest_at, said, sent, Decides}
use Rattle.protocol_models.proofs.of_exchange_model.Lists.{append_none, drop_behind}
use Rattle.protocol_models.proofs.of_exchange_model.Words.{plain-append}

-- nothing is left of an empty list
pub rest_none : {M : Type 0} (p r : List M) → [] ≡ p ++ r → r ≡ []
rest_none p r e = (append_none p r (sym e)).1

-- a client that tells all from the first on
pub tells_all : {M : Type 0} (all p r planned : List M) → all ≡ p ++ r → planned ≡ all → drop (length p) planned ≡ [] → r ≡ []
tells_all all p r planned e same none = sym (drop_behind p r) ∙ ap (drop (length p)) (sym e ∙ sym same) ∙ none

-- what is decided within the first answers is decided with more behind them, which are then left
pub record Decided {M : Type 0} (decide : M → List M → Option Turn) (m : M) (turn : Turn) (seen hs more : List M) : Type 0 where
  pub same : turn_at decide m seen (hs ++ more) ≡ Some turn
  pub rest : rest_at decide m seen (hs ++ more) ≡ rest_at decide m seen hs ++ more

decided_more : {M : Type 0} (decide : M → List M → Option Turn) (m : M) (turn : Turn) (seen : List M) (h : M) (hs more : List M) (now : Option Turn) →
    decide m seen ≡ now → first_turn now (turn_at decide m (seen ++ h ∷ []) hs) ≡ Some turn →
    (turn_at decide m (seen ++ h ∷ []) hs ≡ Some turn → Decided decide m turn (seen ++ h ∷ []) hs more) → Decided decide m turn seen (h ∷ hs) more
decided_more decide m turn seen h hs more None is found hyp = record { same = rw is (hyp found).same; rest = rw is (hyp found).rest }
decided_more decide m turn seen h hs more (Some other) is found hyp = record { same = rw is found; rest = rw is refl }

pub turn_more : {M : Type 0} (decide : M → List M → Option Turn) (m : M) (turn : Turn) (seen hs more : List M) →
    turn_at decide m seen hs ≡ Some turn → Decided decide m turn seen hs more
turn_more decide m turn seen [] [] e = record { same = e; rest = refl }
turn_more decide m turn seen [] (h ∷ more) e = record { same = rw e refl; rest = rw e refl }
turn_more decide m turn seen (h ∷ hs) more e = decided_more decide m turn seen h hs more (decide m seen) refl e (turn_more decide m turn (seen ++ h ∷ []) hs more)

both_parts : {M : Type 0} (a b : M) (xs ys : List M) → a ∷ xs ≡ b ∷ ys → (a ≡ b) × (xs ≡ ys)
both_parts a b xs ys e = (cc, cc)

not_none : {X M : Type 0} (m : M) (ms : List M) → m ∷ ms ≡ [] → X
not_none m ms e = absurd (cc)

module _ {V M : Type 0} (serve : V → M → V × List M) (emission : M → Bool) (decide : M → List M → Option Turn) where
  abbrev heard : V → List M → List M
  heard v ms = plain emission (given serve v ms)

  abbrev replies : V → M → List M
  replies v m = plain emission (serve v m).1

  -- the client goes on behind a mail that was answered
  on_said : (fuel : ℕ) (v : V) (m : M) (ms p : List M) (turn : Turn) → turn_at decide m [] (replies v m) ≡ Some turn → rest_at decide m [] (replies v m) ≡ [] →
      said decide (suc fuel) (m ∷ ms) (heard v (m ∷ p)) ≡ m ∷ chosen (Some turn) (said decide fuel ms (heard (serve v m).0 p)) (said decide fuel (m ∷ ms) (heard (serve v m).0 p)) []
  on_said fuel v m ms p turn is none =
      let later = heard (serve v m).0 p in
      let d = turn_more decide m turn [] (replies v m) later is in
      let rest : rest_at decide m [] (replies v m ++ later) ≡ later = d.rest ∙ ap (λ l. l ++ later) none in
      ap (said decide (suc fuel) (m ∷ ms)) (plain-append emission (serve v m).1 (given serve (serve v m).0 p)) ∙ rw (d.same, rest) refl

  -- ALL THAT REPLIES TO A FIRST PART was heard, and none is left to tell: then it was all
  never_by : (fuel : ℕ) (v : V) (m : M) (ms p r : List M) (t : Option Turn) → turn_at decide m [] (replies v m) ≡ t → rest_at decide m [] (replies v m) ≡ [] →
      chosen t (sent serve emission decide fuel (serve v m).0 ms) (sent serve emission decide fuel (serve v m).0 (m ∷ ms)) [] ≡ p ++ r → drop (length (m ∷ p)) (said decide (suc fuel) (m ∷ ms) (heard v (m ∷ p))) ≡ [] →
      (sent serve emission decide fuel (serve v m).0 ms ≡ p ++ r → drop (length p) (said decide fuel ms (heard (serve v m).0 p)) ≡ [] → r ≡ []) →
      (sent serve emission decide fuel (serve v m).0 (m ∷ ms) ≡ p ++ r → drop (length p) (said decide fuel (m ∷ ms) (heard (serve v m).0 p)) ≡ [] → r ≡ []) → r ≡ []
  never_by fuel v m ms p r None is rest e none onward repeated = rest_none p r e
  never_by fuel v m ms p r (Some stop) is rest e none onward repeated = rest_none p r e
  never_by fuel v m ms p r (Some next) is rest e none onward repeated = onward e (ap (drop (length (m ∷ p))) (sym (on_said fuel v m ms p next is rest)) ∙ none)
  never_by fuel v m ms p r (Some again) is rest e none onward repeated = repeated e (ap (drop (length (m ∷ p))) (sym (on_said fuel v m ms p again is rest)) ∙ none)

  pub never : (fuel : ℕ) (v : V) (ms p r : List M) → Decides serve emission decide ms → sent serve emission decide fuel v ms ≡ p ++ r → drop (length p) (said decide fuel ms (heard v p)) ≡ [] → r ≡ []
  never zero v ms p r law e none = rest_none p r e
  never (suc fuel) v [] p r law e none = rest_none p r e
  never (suc fuel) v (m ∷ ms) [] r law e none = not_none m _ none
  never (suc fuel) v (m ∷ ms) (k ∷ p) r law e none =
      let parts = both_parts m k _ (p ++ r) e in
      never_by fuel v m ms p r (turn_at decide m [] (replies v m)) refl (law.0 v) parts.1 (ap (λ z. drop (length (k ∷ p)) (said decide (suc fuel) (m ∷ ms) (heard v (z ∷ p)))) parts.0 ∙ none)
      (never fuel (serve v m).0 ms p r law.1) (never fuel (serve v m).0 (m ∷ ms) p r law)

-- A client that goes by the answers hears first.
use Rattle.std.proofs.Common.{◌≡◌, inl, inr, ℕ, zero, suc, Bool, List, [], ◌∷◌, ◌++◌, Option, None, Some, refl, sym, ap, ◌∙◌, append-nil}
use Rattle.std.specs.Prelude.{drop, length}
use Rattle.protocol_models.specs.of_exchange_model.Prefix.{IsPrefixOf}
use Rattle.protocol_models.specs.of_exchange_model.Exchange.{given, plain}
use Rattle.protocol_models.specs.of_exchange_model.Dialogue.{Turn, next, again, stop, chosen, turn_at, rest_at, said, sent, Decides}
use Rattle.protocol_models.proofs.of_exchange_model.Lists.{append_none, cut, drop_past}
use Rattle.protocol_models.proofs.of_exchange_model.Words.{plain-append}
use Rattle.slave_model.proofs.Dialogues.{turn_more}

pub drop_none : {M : Type 0} (n : ℕ) → (let none : List M = [] in drop n none ≡ [])
drop_none zero = refl
drop_none (suc n) = refl

-- nothing is longer than what is told whole
pub at_last : {M : Type 0} (all p r planned : List M) → all ≡ p ++ r → r ≡ [] → IsPrefixOf planned all → drop (length p) planned ≡ []
at_last all p r planned e none h =
    let whole : planned ++ h.0 ≡ p = h.1 ∙ e ∙ ap (λ l. p ++ l) none ∙ append-nil p in
    ap (λ l. drop (length l) planned) (sym whole) ∙ drop_past planned h.0

-- a mail that was heard is one
pub not_none : {X M : Type 0} (hs : List M) (b : M) (more : List M) → [] ≡ hs ++ b ∷ more → X
not_none [] b more e = absurd (cc)
not_none (h ∷ hs) b more e = absurd (cc)

both_parts : {M : Type 0} (a b : M) (xs ys : List M) → a ∷ xs ≡ b ∷ ys → (a ≡ b) × (xs ≡ ys)
both_parts a b xs ys e = (cc, cc)

module _ {V M : Type 0} (serve : V → M → V × List M) (emission : M → Bool) (decide : M → List M → Option Turn) where
  abbrev heard : V → List M → List M
  heard v ms = plain emission (given serve v ms)

  abbrev replies : V → M → List M
  replies v m = plain emission (serve v m).1

  -- what is left behind a first mail, whose replies were heard and decided
  on_said : (fuel : ℕ) (v : V) (m : M) (ms hs : List M) (turn : Turn) → turn_at decide m [] (replies v m) ≡ Some turn → rest_at decide m [] (replies v m) ≡ [] →
      said decide (suc fuel) (m ∷ ms) (replies v m ++ hs) ≡ m ∷ chosen (Some turn) (said decide fuel ms hs) (said decide fuel (m ∷ ms) hs) []
  on_said fuel v m ms hs turn is none =
      let d = turn_more decide m turn [] (replies v m) hs is in
      let rest : rest_at decide m [] (replies v m ++ hs) ≡ hs = d.rest ∙ ap (λ l. l ++ hs) none in
      rw (d.same, rest) refl

  -- its replies were heard
  behind : (fuel : ℕ) (v : V) (m : M) (ms p r hs : List M) (b : M) (more : List M) (t : Option Turn) → turn_at decide m [] (replies v m) ≡ t → rest_at decide m [] (replies v m) ≡ [] →
      chosen t (sent serve emission decide fuel (serve v m).0 ms) (sent serve emission decide fuel (serve v m).0 (m ∷ ms)) [] ≡ p ++ r → heard (serve v m).0 p ≡ hs ++ b ∷ more →
      (sent serve emission decide fuel (serve v m).0 ms ≡ p ++ r → drop (length p) (said decide fuel ms hs) ≡ []) →
      (sent serve emission decide fuel (serve v m).0 (m ∷ ms) ≡ p ++ r → drop (length p) (said decide fuel (m ∷ ms) hs) ≡ []) →
      drop (length (m ∷ p)) (said decide (suc fuel) (m ∷ ms) (replies v m ++ hs)) ≡ []
  behind fuel v m ms p r hs b more None is rest e comes onward repeated =
      not_none hs b more (ap (heard (serve v m).0) (sym (append_none p r (sym e)).0) ∙ comes)
  behind fuel v m ms p r hs b more (Some stop) is rest e comes onward repeated =
      not_none hs b more (ap (heard (serve v m).0) (sym (append_none p r (sym e)).0) ∙ comes)
  behind fuel v m ms p r hs b more (Some next) is rest e comes onward repeated = ap (drop (length (m ∷ p))) (on_said fuel v m ms hs next is rest) ∙ onward e
  behind fuel v m ms p r hs b more (Some again) is rest e comes onward repeated = ap (drop (length (m ∷ p))) (on_said fuel v m ms hs again is rest) ∙ repeated e

  -- not all of them: it waits
  waits : (fuel : ℕ) (v : V) (m : M) (ms p hs : List M) (h : M) (some : List M) (t : Option Turn) → turn_at decide m [] hs ≡ t → rest_at decide m [] (replies v m) ≡ [] → replies v m ≡ hs ++ h ∷ some →
      drop (length (m ∷ p)) (said decide (suc fuel) (m ∷ ms) hs) ≡ []
  waits fuel v m ms p hs h some None is rest e = rw is (drop_none (length p))
  waits fuel v m ms p hs h some (Some turn) is rest e =
      let d = turn_more decide m turn [] hs (h ∷ some) is in
      not_none (rest_at decide m [] hs) h some (sym rest ∙ ap (rest_at decide m []) e ∙ d.rest)

  -- WHILE A REPLY TO A FIRST PART ISN'T HEARD none is left to tell behind it
  pub hears : (fuel : ℕ) (v : V) (ms p r hs : List M) (b : M) (more : List M) → Decides serve emission decide ms → sent serve emission decide fuel v ms ≡ p ++ r → heard v p ≡ hs ++ b ∷ more →
      drop (length p) (said decide fuel ms hs) ≡ []
  hears zero v ms p r hs b more law e comes = drop_none (length p)
  hears (suc fuel) v [] p r hs b more law e comes = drop_none (length p)
  hears (suc fuel) v (m ∷ ms) [] r hs b more law e comes = not_none hs b more comes
  hears (suc fuel) v (m ∷ ms) (k ∷ p) r hs b more law e comes =
      let parts = both_parts m k _ (p ++ r) e in
      let split : replies v m ++ heard (serve v m).0 p ≡ hs ++ b ∷ more =
      sym (plain-append emission (serve v m).1 (given serve (serve v m).0 p)) ∙ ap (λ z. heard v (z ∷ p)) parts.0 ∙ comes in
      let on = λ (gs : List M) (comes : heard (serve v m).0 p ≡ gs ++ b ∷ more).
      behind fuel v m ms p r gs b more (turn_at decide m [] (replies v m)) refl (law.0 v) parts.1 comes
      (λ goes. hears fuel (serve v m).0 ms p r gs b more law.1 goes comes) (λ goes. hears fuel (serve v m).0 (m ∷ ms) p r gs b more law goes comes) in
      elim (cut (replies v m) (heard (serve v m).0 p) hs (b ∷ more) split) [
        | inl c ↦ ap (λ l. drop (length (m ∷ p)) (said decide (suc fuel) (m ∷ ms) l)) c.1 ∙ on c.0 c.2
        | inr c ↦ by c.0 c.1 c.2 on
      ]
    where
      by : (some : List M) → replies v m ≡ hs ++ some → b ∷ more ≡ some ++ heard (serve v m).0 p →
          ((gs : List M) → heard (serve v m).0 p ≡ gs ++ b ∷ more → drop (length (m ∷ p)) (said decide (suc fuel) (m ∷ ms) (replies v m ++ gs)) ≡ []) →
          drop (length (m ∷ p)) (said decide (suc fuel) (m ∷ ms) hs) ≡ []
      by [] all rest on = ap (λ l. drop (length (m ∷ p)) (said decide (suc fuel) (m ∷ ms) l)) (sym (append-nil hs) ∙ sym all ∙ sym (append-nil (replies v m))) ∙ on [] (sym rest)
      by (h ∷ some) all rest on = waits fuel v m ms p hs h some (turn_at decide m [] hs) refl (law.0 v) all

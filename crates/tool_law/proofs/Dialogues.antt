-- A client that goes by the answers, when it hears more of them.
use Rattle.std.proofs.Common.{◌≡◌, ℕ, zero, suc, ◌≤◌, List, [], ◌∷◌, ◌++◌, length, Bool, Option, None, Some, refl, sym, ap, ◌∙◌, subst, arith, length-append}
use Rattle.slave_model.specs.of_exchange_model.Prefix.{IsPrefixOf}
use Rattle.slave_model.specs.of_exchange_model.Exchange.{given, plain}
use Rattle.slave_model.specs.of_exchange_model.Lifted.{EachOf}
use Rattle.slave_model.specs.of_exchange_model.Dialogue.{Turn, next, again, stop, chosen, first_turn, rest_behind, turn_at, rest_at, said, sent, Decides}
use Rattle.slave_model.proofs.of_exchange_model.Words.{plain-append}

module _ {M : Type 0} (decide : M → List M → Option Turn) where
  -- it sends no more often than it has turns
  chosen_within : (turn : Option Turn) (n : ℕ) (a b : List M) → length a ≤ n → length b ≤ n → length (chosen turn a b []) ≤ n
  chosen_within None n a b p q = omega arith
  chosen_within (Some next) n a b p q = p
  chosen_within (Some again) n a b p q = q
  chosen_within (Some stop) n a b p q = omega arith

  pub said_within : (fuel : ℕ) (ms hs : List M) → length (said decide fuel ms hs) ≤ fuel
  said_within zero ms hs = omega arith
  said_within (suc fuel) [] hs = omega arith
  said_within (suc fuel) (m ∷ ms) hs =
      let h = chosen_within (turn_at decide m [] hs) fuel (said decide fuel ms (rest_at decide m [] hs)) (said decide fuel (m ∷ ms) (rest_at decide m [] hs))
      (said_within fuel ms (rest_at decide m [] hs)) (said_within fuel (m ∷ ms) (rest_at decide m [] hs)) in
      omega (arith, h)

  -- what it decides by some answers it decides by more, and the others are left
  more_by : (d : Option Turn) (m h : M) (seen hs more : List M) (t : Turn) → decide m seen ≡ d →
      (turn_at decide m (seen ++ h ∷ []) hs ≡ Some t → (turn_at decide m (seen ++ h ∷ []) (hs ++ more) ≡ Some t) × (rest_at decide m (seen ++ h ∷ []) (hs ++ more) ≡ rest_at decide m (seen ++ h ∷ []) hs ++ more)) →
      first_turn d (turn_at decide m (seen ++ h ∷ []) hs) ≡ Some t →
      (first_turn d (turn_at decide m (seen ++ h ∷ []) (hs ++ more)) ≡ Some t) ×
      (rest_behind d (h ∷ (hs ++ more)) (rest_at decide m (seen ++ h ∷ []) (hs ++ more)) ≡ rest_behind d (h ∷ hs) (rest_at decide m (seen ++ h ∷ []) hs) ++ more)
  more_by None m h seen hs more t is ih e = ih e
  more_by (Some turn) m h seen hs more t is ih e = (e, refl)

  none_more : (d : Option Turn) (m : M) (seen more : List M) (t : Turn) → decide m seen ≡ d → d ≡ Some t → (turn_at decide m seen more ≡ Some t) × (rest_at decide m seen more ≡ more)
  none_more d m seen [] t is e = (is ∙ e, refl)
  none_more d m seen (h ∷ more) t is e =
      let known : decide m seen ≡ Some t = is ∙ e in
      (ap (λ (u : Option Turn). first_turn u (turn_at decide m (seen ++ h ∷ []) more)) known, ap (λ (u : Option Turn). rest_behind u (h ∷ more) (rest_at decide m (seen ++ h ∷ []) more)) known)

  pub turn_more : (m : M) (seen hs more : List M) (t : Turn) → turn_at decide m seen hs ≡ Some t → (turn_at decide m seen (hs ++ more) ≡ Some t) × (rest_at decide m seen (hs ++ more) ≡ rest_at decide m seen hs ++ more)
  turn_more m seen [] more t e = none_more (decide m seen) m seen more t refl e
  turn_more m seen (h ∷ hs) more t e = more_by (decide m seen) m h seen hs more t refl (λ k. turn_more m (seen ++ h ∷ []) hs more t k) e

  -- with more answers it has sent what it has sent, and more
  cons_prefix : (m : M) (xs ys : List M) → IsPrefixOf xs ys → IsPrefixOf (m ∷ xs) (m ∷ ys)
  cons_prefix m xs ys p = (p.0, ap (λ l. m ∷ l) p.1)

  pub said_longer : (fuel : ℕ) (ms hs more : List M) → IsPrefixOf (said decide fuel ms hs) (said decide fuel ms (hs ++ more))
  said_longer zero ms hs more = ([], refl)
  said_longer (suc fuel) [] hs more = ([], refl)
  said_longer (suc fuel) (m ∷ ms) hs more = by (turn_at decide m [] hs) refl (said_longer fuel ms (rest_at decide m [] hs) more) (said_longer fuel (m ∷ ms) (rest_at decide m [] hs) more)
    where
      to : (t : Turn) → turn_at decide m [] hs ≡ Some t →
          IsPrefixOf (m ∷ chosen (Some t) (said decide fuel ms (rest_at decide m [] hs)) (said decide fuel (m ∷ ms) (rest_at decide m [] hs)) [])
          (m ∷ chosen (Some t) (said decide fuel ms (rest_at decide m [] hs ++ more)) (said decide fuel (m ∷ ms) (rest_at decide m [] hs ++ more)) []) →
          IsPrefixOf (said decide (suc fuel) (m ∷ ms) hs) (said decide (suc fuel) (m ∷ ms) (hs ++ more))
      to t e p =
          let k = turn_more m [] hs more t e in
          let there : said decide (suc fuel) (m ∷ ms) (hs ++ more) ≡ m ∷ chosen (Some t) (said decide fuel ms (rest_at decide m [] hs ++ more)) (said decide fuel (m ∷ ms) (rest_at decide m [] hs ++ more)) [] =
          λ i. m ∷ chosen (k.0 i) (said decide fuel ms (k.1 i)) (said decide fuel (m ∷ ms) (k.1 i)) [] in
          let here : said decide (suc fuel) (m ∷ ms) hs ≡ m ∷ chosen (Some t) (said decide fuel ms (rest_at decide m [] hs)) (said decide fuel (m ∷ ms) (rest_at decide m [] hs)) [] =
          ap (λ (u : Option Turn). m ∷ chosen u (said decide fuel ms (rest_at decide m [] hs)) (said decide fuel (m ∷ ms) (rest_at decide m [] hs)) []) e in
          subst (λ (l : List M). IsPrefixOf (said decide (suc fuel) (m ∷ ms) hs) l) (sym there) (subst (λ (l : List M). IsPrefixOf l (m ∷ chosen (Some t) (said decide fuel ms (rest_at decide m [] hs ++ more)) (said decide fuel (m ∷ ms) (rest_at decide m [] hs ++ more)) [])) (sym here) p)

      by : (t : Option Turn) → turn_at decide m [] hs ≡ t → IsPrefixOf (said decide fuel ms (rest_at decide m [] hs)) (said decide fuel ms (rest_at decide m [] hs ++ more)) →
          IsPrefixOf (said decide fuel (m ∷ ms) (rest_at decide m [] hs)) (said decide fuel (m ∷ ms) (rest_at decide m [] hs ++ more)) → IsPrefixOf (said decide (suc fuel) (m ∷ ms) hs) (said decide (suc fuel) (m ∷ ms) (hs ++ more))
      by None e onward repeated =
          let here : said decide (suc fuel) (m ∷ ms) hs ≡ m ∷ [] = ap (λ (u : Option Turn). m ∷ chosen u (said decide fuel ms (rest_at decide m [] hs)) (said decide fuel (m ∷ ms) (rest_at decide m [] hs)) []) e in
          let rest : List M = chosen (turn_at decide m [] (hs ++ more)) (said decide fuel ms (rest_at decide m [] (hs ++ more))) (said decide fuel (m ∷ ms) (rest_at decide m [] (hs ++ more))) [] in
          (rest, ap (λ (l : List M). l ++ rest) here)
      by (Some next) e onward repeated = to next e (cons_prefix m _ _ onward)
      by (Some again) e onward repeated = to again e (cons_prefix m _ _ repeated)
      by (Some stop) e onward repeated = to stop e ([], refl)

module _ {M : Type 0} (decide : M → List M → Option Turn) (P : M → Type 0) where
  -- each mail that it sends is one of its mails
  each_chosen : (turn : Option Turn) (m : M) (a b : List M) → P m → EachOf P a → EachOf P b → EachOf P (m ∷ chosen turn a b [])
  each_chosen None m a b p q r = (p, tt)
  each_chosen (Some next) m a b p q r = (p, q)
  each_chosen (Some again) m a b p q r = (p, r)
  each_chosen (Some stop) m a b p q r = (p, tt)

  pub said_each : (fuel : ℕ) (ms hs : List M) → EachOf P ms → EachOf P (said decide fuel ms hs)
  said_each zero ms hs all = tt
  said_each (suc fuel) [] hs all = tt
  said_each (suc fuel) (m ∷ ms) hs all = each_chosen (turn_at decide m [] hs) m _ _ all.0 (said_each fuel ms (rest_at decide m [] hs) all.1) (said_each fuel (m ∷ ms) (rest_at decide m [] hs) all)

module _ {V M : Type 0} (serve : V → M → V × List M) (emission : M → Bool) (decide : M → List M → Option Turn) where
  -- on the replies to a first part of its mails it has sent that part, and the mail behind it
  pub said_goes : (fuel : ℕ) (v : V) (ms p : List M) (m : M) (r : List M) → Decides serve emission decide ms → sent serve emission decide fuel v ms ≡ p ++ m ∷ r →
      (rest : List M) × (said decide fuel ms (plain emission (given serve v p)) ≡ p ++ m ∷ rest)
  said_goes zero v ms [] m r all e = absurd (cc)
  said_goes zero v ms (k ∷ p) m r all e = absurd (cc)
  said_goes (suc fuel) v [] [] m r all e = absurd (cc)
  said_goes (suc fuel) v [] (k ∷ p) m r all e = absurd (cc)
  said_goes (suc fuel) v (x ∷ ms) [] m r all e =
      let same : x ≡ m = cc in
      let rest : List M = chosen (turn_at decide x [] []) (said decide fuel ms (rest_at decide x [] [])) (said decide fuel (x ∷ ms) (rest_at decide x [] [])) [] in
      (rest, ap (λ y. y ∷ rest) same)
  said_goes (suc fuel) v (x ∷ ms) (k ∷ p) m r all e =
      by (turn_at decide x [] (plain emission (serve v x).1)) refl (λ f. said_goes fuel (serve v x).0 ms p m r all.1 f) (λ f. said_goes fuel (serve v x).0 (x ∷ ms) p m r all f)
    where
      tail_is : (t : Option Turn) → turn_at decide x [] (plain emission (serve v x).1) ≡ t →
          (x ≡ k) × (chosen t (sent serve emission decide fuel (serve v x).0 ms) (sent serve emission decide fuel (serve v x).0 (x ∷ ms)) [] ≡ p ++ m ∷ r)
      tail_is t is =
          let whole : x ∷ chosen (turn_at decide x [] (plain emission (serve v x).1)) (sent serve emission decide fuel (serve v x).0 ms) (sent serve emission decide fuel (serve v x).0 (x ∷ ms)) [] ≡ k ∷ (p ++ m ∷ r) = e in
          let known = subst (λ u. x ∷ chosen u (sent serve emission decide fuel (serve v x).0 ms) (sent serve emission decide fuel (serve v x).0 (x ∷ ms)) [] ≡ k ∷ (p ++ m ∷ r)) is whole in
          (cc, cc)

      heard_is : x ≡ k → plain emission (given serve v (k ∷ p)) ≡ plain emission (serve v x).1 ++ plain emission (given serve (serve v x).0 p)
      heard_is same = ap (λ y. plain emission (given serve v (y ∷ p))) (sym same) ∙ plain-append emission (serve v x).1 (given serve (serve v x).0 p)

      none : (t : Option Turn) → (x ≡ k) × ([] ≡ p ++ m ∷ r) → ⊥
      none t h = let n = ap length h.1 in absurd (omega (arith, n, length-append p (m ∷ r)))

      on : (t : Turn) → turn_at decide x [] (plain emission (serve v x).1) ≡ Some t → x ≡ k →
          said decide (suc fuel) (x ∷ ms) (plain emission (given serve v (k ∷ p))) ≡
          x ∷ chosen (Some t) (said decide fuel ms (plain emission (given serve (serve v x).0 p))) (said decide fuel (x ∷ ms) (plain emission (given serve (serve v x).0 p))) []
      on t is same =
          let hs = plain emission (serve v x).1 in
          let more = plain emission (given serve (serve v x).0 p) in
          let d = turn_more decide x [] hs more t is in
          let left : rest_at decide x [] (hs ++ more) ≡ more = d.1 ∙ ap (λ (l : List M). l ++ more) (all.0 v) in
          ap (said decide (suc fuel) (x ∷ ms)) (heard_is same) ∙ (λ i. x ∷ chosen (d.0 i) (said decide fuel ms (left i)) (said decide fuel (x ∷ ms) (left i)) [])

      by : (t : Option Turn) → turn_at decide x [] (plain emission (serve v x).1) ≡ t →
          (sent serve emission decide fuel (serve v x).0 ms ≡ p ++ m ∷ r → (rest : List M) × (said decide fuel ms (plain emission (given serve (serve v x).0 p)) ≡ p ++ m ∷ rest)) →
          (sent serve emission decide fuel (serve v x).0 (x ∷ ms) ≡ p ++ m ∷ r → (rest : List M) × (said decide fuel (x ∷ ms) (plain emission (given serve (serve v x).0 p)) ≡ p ++ m ∷ rest)) →
          (rest : List M) × (said decide (suc fuel) (x ∷ ms) (plain emission (given serve v (k ∷ p))) ≡ (k ∷ p) ++ m ∷ rest)
      by None is onward repeated = absurd (none None (tail_is None is))
      by (Some stop) is onward repeated = absurd (none (Some stop) (tail_is (Some stop) is))
      by (Some next) is onward repeated =
          let t = tail_is (Some next) is in
          let rest = onward t.1 in
          (rest.0, on next is t.0 ∙ (λ i. t.0 i ∷ rest.1 i))
      by (Some again) is onward repeated =
          let t = tail_is (Some again) is in
          let rest = repeated t.1 in
          (rest.0, on again is t.0 ∙ (λ i. t.0 i ∷ rest.1 i))

-- A client that goes by the answers sends, on a first part of the replies, a first part of its mails, and on all replies all of them.
use Rattle.std.proofs.Common.{◌≡◌, ◌⊎◌, inl, inr, ℕ, zero, suc, Bool, List, [], ◌∷◌, ◌++◌, Option, None, Some, refl, sym, ap, ◌∙◌, subst, append-nil, length, ◌<◌, ◌≤◌, arith}
use Rattle.exchange_model.specs.Prefix.{IsPrefixOf}
use Rattle.exchange_model.specs.Exchange.{given, plain}
use Rattle.exchange_model.specs.Dialogue.{Turn, next, again, stop, chosen, first_turn, rest_behind, turn_at, rest_at, said, sent, Decides}
use Rattle.exchange_model.specs.Lifted.{EachOf}
use Rattle.exchange_model.proofs.Lists.{cut, filter-append, prefix_refl, prefix_behind, append_none}

-- what is decided within the first answers is decided with more behind them, which are then left
record Decided {M : Type 0} (decide : M → List M → Option Turn) (m : M) (turn : Turn) (seen hs more : List M) : Type 0 where
  same : turn_at decide m seen (hs ++ more) ≡ Some turn
  rest : rest_at decide m seen (hs ++ more) ≡ rest_at decide m seen hs ++ more

decided_more : {M : Type 0} (decide : M → List M → Option Turn) (m : M) (turn : Turn) (seen : List M) (h : M) (hs more : List M) (now : Option Turn) →
    decide m seen ≡ now → first_turn now (turn_at decide m (seen ++ h ∷ []) hs) ≡ Some turn →
    (turn_at decide m (seen ++ h ∷ []) hs ≡ Some turn → Decided decide m turn (seen ++ h ∷ []) hs more) → Decided decide m turn seen (h ∷ hs) more
decided_more decide m turn seen h hs more None is found hyp = record { same = rw is (hyp found).same; rest = rw is (hyp found).rest }
decided_more decide m turn seen h hs more (Some other) is found hyp = record { same = rw is found; rest = rw is refl }

turn_more : {M : Type 0} (decide : M → List M → Option Turn) (m : M) (turn : Turn) (seen hs more : List M) →
    turn_at decide m seen hs ≡ Some turn → Decided decide m turn seen hs more
turn_more decide m turn seen [] [] e = record { same = e; rest = refl }
turn_more decide m turn seen [] (h ∷ more) e = record { same = rw e refl; rest = rw e refl }
turn_more decide m turn seen (h ∷ hs) more e = decided_more decide m turn seen h hs more (decide m seen) refl e (turn_more decide m turn (seen ++ h ∷ []) hs more)

module _ {V M : Type 0} (serve : V → M → V × List M) (emission : M → Bool) (decide : M → List M → Option Turn) where
  plain_given : (v : V) (m : M) (ms : List M) → plain emission (given serve v (m ∷ ms)) ≡ plain emission (serve v m).1 ++ plain emission (given serve (serve v m).0 ms)
  plain_given v m ms = filter-append _ (serve v m).1 (given serve (serve v m).0 ms)

  -- what follows a mail
  abbrev tail : ℕ → V → M → List M → Option Turn → List M
  tail fuel v m ms turn = chosen turn (sent serve emission decide fuel (serve v m).0 ms) (sent serve emission decide fuel (serve v m).0 (m ∷ ms)) []

  -- all replies heard, all mails said
  said_turn : (fuel : ℕ) (v : V) (m : M) (ms : List M) (turn : Option Turn) → turn_at decide m [] (plain emission (serve v m).1) ≡ turn →
      rest_at decide m [] (plain emission (serve v m).1) ≡ [] →
      (said decide fuel ms (plain emission (given serve (serve v m).0 (sent serve emission decide fuel (serve v m).0 ms))) ≡ sent serve emission decide fuel (serve v m).0 ms) →
      (said decide fuel (m ∷ ms) (plain emission (given serve (serve v m).0 (sent serve emission decide fuel (serve v m).0 (m ∷ ms)))) ≡ sent serve emission decide fuel (serve v m).0 (m ∷ ms)) →
      said decide (suc fuel) (m ∷ ms) (plain emission (serve v m).1 ++ plain emission (given serve (serve v m).0 (tail fuel v m ms turn)))
      ≡ m ∷ tail fuel v m ms turn
  said_turn fuel v m ms None is rest onward repeated = rw (append-nil, is) refl
  said_turn fuel v m ms (Some next) is rest onward repeated =
      let d = turn_more decide m next [] (plain emission (serve v m).1) (plain emission (given serve (serve v m).0 (sent serve emission decide fuel (serve v m).0 ms))) is in
      rw (d.same, d.rest, rest, onward) refl
  said_turn fuel v m ms (Some again) is rest onward repeated =
      let d = turn_more decide m again [] (plain emission (serve v m).1) (plain emission (given serve (serve v m).0 (sent serve emission decide fuel (serve v m).0 (m ∷ ms)))) is in
      rw (d.same, d.rest, rest, repeated) refl
  said_turn fuel v m ms (Some stop) is rest onward repeated = rw (append-nil, is) refl

  pub all_said : (fuel : ℕ) (v : V) (ms : List M) → Decides serve emission decide ms →
      said decide fuel ms (plain emission (given serve v (sent serve emission decide fuel v ms))) ≡ sent serve emission decide fuel v ms
  all_said zero v ms law = refl
  all_said (suc fuel) v [] law = refl
  all_said (suc fuel) v (m ∷ ms) law =
      ap (said decide (suc fuel) (m ∷ ms)) (plain_given v m _)
      ∙ said_turn fuel v m ms (turn_at decide m [] (plain emission (serve v m).1)) refl (law.0 v) (all_said fuel (serve v m).0 ms law.1) (all_said fuel (serve v m).0 (m ∷ ms) law)

  -- a first part of the replies that has all answers to the first mail
  said_behind : (fuel : ℕ) (v : V) (m : M) (ms hs more : List M) (turn : Option Turn) → turn_at decide m [] (plain emission (serve v m).1) ≡ turn →
      rest_at decide m [] (plain emission (serve v m).1) ≡ [] →
      plain emission (given serve (serve v m).0 (tail fuel v m ms turn)) ≡ hs ++ more →
      (plain emission (given serve (serve v m).0 (sent serve emission decide fuel (serve v m).0 ms)) ≡ hs ++ more → IsPrefixOf (said decide fuel ms hs) (sent serve emission decide fuel (serve v m).0 ms)) →
      (plain emission (given serve (serve v m).0 (sent serve emission decide fuel (serve v m).0 (m ∷ ms))) ≡ hs ++ more → IsPrefixOf (said decide fuel (m ∷ ms) hs) (sent serve emission decide fuel (serve v m).0 (m ∷ ms))) →
      IsPrefixOf (said decide (suc fuel) (m ∷ ms) (plain emission (serve v m).1 ++ hs)) (m ∷ tail fuel v m ms turn)
  said_behind fuel v m ms hs more None is rest e onward repeated =
      let nothing : hs ≡ [] = (append_none hs more (sym e)).0 in
      rw (nothing, append-nil, is) (prefix_refl (m ∷ []))
  said_behind fuel v m ms hs more (Some next) is rest e onward repeated =
      let d = turn_more decide m next [] (plain emission (serve v m).1) hs is in
      rw (d.same, d.rest, rest) (prefix_behind (m ∷ []) _ _ (onward e))
  said_behind fuel v m ms hs more (Some again) is rest e onward repeated =
      let d = turn_more decide m again [] (plain emission (serve v m).1) hs is in
      rw (d.same, d.rest, rest) (prefix_behind (m ∷ []) _ _ (repeated e))
  said_behind fuel v m ms hs more (Some stop) is rest e onward repeated =
      let d = turn_more decide m stop [] (plain emission (serve v m).1) hs is in
      rw (d.same) (prefix_refl (m ∷ []))

  -- one that has not
  said_within : (fuel : ℕ) (v : V) (m : M) (ms hs more : List M) (turn : Option Turn) → turn_at decide m [] hs ≡ turn →
      rest_at decide m [] (plain emission (serve v m).1) ≡ [] → plain emission (serve v m).1 ≡ hs ++ more → (others : List M) →
      (plain emission (serve v m).1 ≡ hs → IsPrefixOf (said decide (suc fuel) (m ∷ ms) hs) (m ∷ others)) →
      IsPrefixOf (said decide (suc fuel) (m ∷ ms) hs) (m ∷ others)
  said_within fuel v m ms hs more None is rest e others whole = rw is (others, refl)
  said_within fuel v m ms hs more (Some turn) is rest e others whole =
      let d = turn_more decide m turn [] hs more is in
      let nothing = append_none (rest_at decide m [] hs) more (sym d.rest ∙ ap (rest_at decide m []) (sym e) ∙ rest) in
      whole (e ∙ ap (λ l. hs ++ l) nothing.1 ∙ append-nil hs)

  pub follows : (fuel : ℕ) (v : V) (ms hs more : List M) → Decides serve emission decide ms →
      plain emission (given serve v (sent serve emission decide fuel v ms)) ≡ hs ++ more → IsPrefixOf (said decide fuel ms hs) (sent serve emission decide fuel v ms)
  follows zero v ms hs more law e = ([], refl)
  follows (suc fuel) v [] hs more law e = ([], refl)
  follows (suc fuel) v (m ∷ ms) hs more law e =
      let turn = turn_at decide m [] (plain emission (serve v m).1) in
      let replies = plain emission (serve v m).1 in
      let later = plain emission (given serve (serve v m).0 (tail fuel v m ms turn)) in
      let behind = λ (some rest : List M). λ (k : later ≡ some ++ rest).
      said_behind fuel v m ms some rest turn refl (law.0 v) k (follows fuel (serve v m).0 ms some rest law.1) (follows fuel (serve v m).0 (m ∷ ms) some rest law) in
      elim (cut replies later hs more (sym (plain_given v m (tail fuel v m ms turn)) ∙ e)) [
        | inl c ↦ subst (λ l. IsPrefixOf (said decide (suc fuel) (m ∷ ms) l) (m ∷ tail fuel v m ms turn)) (sym c.1) (behind c.0 more c.2)
        | inr c ↦ said_within fuel v m ms hs c.0 (turn_at decide m [] hs) refl (law.0 v) c.1 (tail fuel v m ms turn)
            (λ same. subst (λ l. IsPrefixOf (said decide (suc fuel) (m ∷ ms) l) (m ∷ tail fuel v m ms turn)) (append-nil replies ∙ same) (behind [] later refl))
      ]

-- a client that waits for one answer decides on the first
pub one_answer : {M : Type 0} (decide : M → List M → Option Turn) (m : M) (hs : List M) → decide m [] ≡ None → length hs ≤ 1 → rest_at decide m [] hs ≡ []
one_answer decide m [] waits few = refl
one_answer decide m (h ∷ []) waits few = rw waits refl
one_answer decide m (h ∷ other ∷ hs) waits few = absurd (omega arith)

-- What a client sends, mail by mail.
module _ {V M : Type 0} (serve : V → M → V × List M) (emission : M → Bool) (decide : M → List M → Option Turn) where
  pub sent_none : (fuel : ℕ) (v : V) → sent serve emission decide fuel v [] ≡ []
  sent_none zero v = refl
  sent_none (suc fuel) v = refl

  pub sent_onward : (fuel : ℕ) (v : V) (m : M) (ms : List M) → turn_at decide m [] (plain emission (serve v m).1) ≡ Some next →
      sent serve emission decide (suc fuel) v (m ∷ ms) ≡ m ∷ sent serve emission decide fuel (serve v m).0 ms
  sent_onward fuel v m ms is = rw is refl

  pub sent_repeated : (fuel : ℕ) (v : V) (m : M) (ms : List M) → turn_at decide m [] (plain emission (serve v m).1) ≡ Some again →
      sent serve emission decide (suc fuel) v (m ∷ ms) ≡ m ∷ sent serve emission decide fuel (serve v m).0 (m ∷ ms)
  sent_repeated fuel v m ms is = rw is refl

  pub sent_over : (fuel : ℕ) (v : V) (m : M) (ms : List M) → turn_at decide m [] (plain emission (serve v m).1) ≡ Some stop →
      sent serve emission decide (suc fuel) v (m ∷ ms) ≡ m ∷ []
  sent_over fuel v m ms is = rw is refl

  pub sent_waits : (fuel : ℕ) (v : V) (m : M) (ms : List M) → turn_at decide m [] (plain emission (serve v m).1) ≡ None →
      sent serve emission decide (suc fuel) v (m ∷ ms) ≡ m ∷ []
  sent_waits fuel v m ms is = rw is refl

-- A client that waits for an answer to each mail has sent, on so many replies, at most one mail more: neither more fuel nor more mails matter.
module _ {M : Type 0} (decide : M → List M → Option Turn) (waits : (m : M) → decide m [] ≡ None) where
  rest_within : (m : M) (seen hs : List M) → length (rest_at decide m seen hs) ≤ length hs
  rest_within m seen [] = omega arith
  rest_within m seen (h ∷ hs) = within (decide m seen) (rest_within m (seen ++ h ∷ []) hs)
    where
      within : (turn : Option Turn) → length (rest_at decide m (seen ++ h ∷ []) hs) ≤ length hs →
          length (rest_behind turn (h ∷ hs) (rest_at decide m (seen ++ h ∷ []) hs)) ≤ suc (length hs)
      within None less = omega arith
      within (Some turn) less = omega arith

  same_choice : (turn : Option Turn) (m : M) (a b c d : List M) → a ≡ b → c ≡ d → m ∷ chosen turn a c [] ≡ m ∷ chosen turn b d []
  same_choice None m a b c d e f = refl
  same_choice (Some next) m a b c d e f = ap (λ l. m ∷ l) e
  same_choice (Some again) m a b c d e f = ap (λ l. m ∷ l) f
  same_choice (Some stop) m a b c d e f = refl

  fewer : (m : M) (ms extra : List M) (rest hs : ℕ) → rest ≤ hs → (suc hs < length (m ∷ ms)) ⊎ (extra ≡ []) → (rest < length ms) ⊎ (extra ≡ [])
  fewer m ms extra rest hs less (inl long) = inl (omega arith)
  fewer m ms extra rest hs less (inr none) = inr none

  fewer_again : (m : M) (ms extra : List M) (rest hs : ℕ) → rest ≤ hs → (suc hs < length (m ∷ ms)) ⊎ (extra ≡ []) → (rest < length (m ∷ ms)) ⊎ (extra ≡ [])
  fewer_again m ms extra rest hs less (inl long) = inl (omega arith)
  fewer_again m ms extra rest hs less (inr none) = inr none

  pub said_more : (f g : ℕ) (ms extra hs : List M) → length hs < f → length hs < g → (length hs < length ms) ⊎ (extra ≡ []) →
      said decide f ms hs ≡ said decide g (ms ++ extra) hs
  said_more zero g ms extra hs few less long = absurd (omega arith)
  said_more (suc f) zero ms extra hs few less long = absurd (omega arith)
  said_more (suc f) (suc g) [] extra hs few less (inl long) = absurd (omega arith)
  said_more (suc f) (suc g) [] extra hs few less (inr none) = sym (ap (λ l. said decide (suc g) l hs) none)
  said_more (suc f) (suc g) (m ∷ ms) extra [] few less long = rw (waits m) refl
  said_more (suc f) (suc g) (m ∷ ms) extra (h ∷ hs) few less long =
      let shorter : length (rest_at decide m (h ∷ []) hs) ≤ length hs = rest_within m (h ∷ []) hs in
      let a : length (rest_at decide m (h ∷ []) hs) < f = omega arith in
      let b : length (rest_at decide m (h ∷ []) hs) < g = omega arith in
      rw (waits m) (same_choice (turn_at decide m (h ∷ []) hs) m _ _ _ _
      (said_more f g ms extra (rest_at decide m (h ∷ []) hs) a b (fewer m ms extra _ _ shorter long))
      (said_more f g (m ∷ ms) extra (rest_at decide m (h ∷ []) hs) a b (fewer_again m ms extra _ _ shorter long)))

pub each_append_right : {M : Type 0} (P : M → Type 0) (xs ys : List M) → EachOf P (xs ++ ys) → EachOf P ys
each_append_right P [] ys all = all
each_append_right P (x ∷ xs) ys all = each_append_right P xs ys all.1

-- a client sends mails that it has
module _ {V M : Type 0} (serve : V → M → V × List M) (emission : M → Bool) (decide : M → List M → Option Turn) (P : M → Type 0) where
  each_chosen : (turn : Option Turn) (a b : List M) → EachOf P a → EachOf P b → EachOf P (chosen turn a b [])
  each_chosen None a b p q = tt
  each_chosen (Some next) a b p q = p
  each_chosen (Some again) a b p q = q
  each_chosen (Some stop) a b p q = tt

  pub sent_each : (fuel : ℕ) (v : V) (ms : List M) → EachOf P ms → EachOf P (sent serve emission decide fuel v ms)
  sent_each zero v ms all = tt
  sent_each (suc fuel) v [] all = tt
  sent_each (suc fuel) v (m ∷ ms) all =
      (all.0, each_chosen (turn_at decide m [] (plain emission (serve v m).1)) _ _ (sent_each fuel (serve v m).0 ms all.1) (sent_each fuel (serve v m).0 (m ∷ ms) all))

-- a client that never sends a mail again
module _ {M : Type 0} (decide : M → List M → Option Turn) (never : (m : M) (hs : List M) → decide m hs ≡ Some again → ⊥) where
  first_once : (turn later : Option Turn) → (turn ≡ Some again → ⊥) → (later ≡ Some again → ⊥) → first_turn turn later ≡ Some again → ⊥
  first_once None later a b e = b e
  first_once (Some turn) later a b e = a e

  pub never_at : (m : M) (seen hs : List M) → turn_at decide m seen hs ≡ Some again → ⊥
  never_at m seen [] = never m seen
  never_at m seen (h ∷ hs) = first_once (decide m seen) (turn_at decide m (seen ++ h ∷ []) hs) (never m seen) (never_at m (seen ++ h ∷ []) hs)

  pub chosen_last : (turn : Option Turn) (a b : List M) → (turn ≡ Some again → ⊥) → a ≡ [] → chosen turn a b [] ≡ []
  chosen_last None a b once e = refl
  chosen_last (Some next) a b once e = e
  chosen_last (Some again) a b once e = absurd (once refl)
  chosen_last (Some stop) a b once e = refl

  said_none : (fuel : ℕ) (hs : List M) → said decide fuel [] hs ≡ []
  said_none zero hs = refl
  said_none (suc fuel) hs = refl

  -- with one mail it has sent that one, whatever it hears
  pub said_last : (fuel : ℕ) (m : M) (hs : List M) → said decide (suc fuel) (m ∷ []) hs ≡ m ∷ []
  said_last fuel m hs = ap (λ l. m ∷ l) (chosen_last (turn_at decide m [] hs) _ _ (never_at m [] hs) (said_none fuel (rest_at decide m [] hs)))

  chosen_few : (turn : Option Turn) (a b : List M) (n : ℕ) → (turn ≡ Some again → ⊥) → length a ≤ n → length (chosen turn a b []) ≤ n
  chosen_few None a b n once few = omega arith
  chosen_few (Some next) a b n once few = few
  chosen_few (Some again) a b n once few = absurd (once refl)
  chosen_few (Some stop) a b n once few = omega arith

  module _ {V : Type 0} (serve : V → M → V × List M) (emission : M → Bool) where
    pub sent_last : (fuel : ℕ) (v : V) (m : M) → sent serve emission decide (suc fuel) v (m ∷ []) ≡ m ∷ []
    sent_last fuel v m = ap (λ l. m ∷ l)
        (chosen_last (turn_at decide m [] (plain emission (serve v m).1)) _ _ (never_at m [] (plain emission (serve v m).1)) (sent_none serve emission decide fuel (serve v m).0))

    -- it sends no more mails than it has
    pub sent_few : (fuel : ℕ) (v : V) (ms : List M) → length (sent serve emission decide fuel v ms) ≤ length ms
    sent_few zero v ms = omega arith
    sent_few (suc fuel) v [] = omega arith
    sent_few (suc fuel) v (m ∷ ms) =
        let less = chosen_few (turn_at decide m [] (plain emission (serve v m).1)) (sent serve emission decide fuel (serve v m).0 ms) (sent serve emission decide fuel (serve v m).0 (m ∷ ms)) (length ms)
        (never_at m [] (plain emission (serve v m).1)) (sent_few fuel (serve v m).0 ms) in
        omega (arith, less)

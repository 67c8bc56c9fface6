-- Putting lines one by one.
use Rattle.std.proofs.Math.Seq.{take-add}
use Rattle.std.proofs.Common.{◌≡◌, ℕ, ◌+◌, ◌-◌, ◌<◌, ◌≤◌, List, [], ◌∷◌, ◌++◌, length, get_or, take, drop, Option, Some, None, refl, sym, ap, ◌∙◌, append_assoc, arith, inl, inr}
use Rattle.std.proofs.lemmas.List.{take_all, take_more, drop_more, take-append-drop, append-nil}
use Rattle.std.proofs.lemmas.Bool.{cases_lt}
use Rattle.ec_outside.specs.Faults.{Rose}
use Rattle.ec_outside.specs.Sink.{Wrote, WrotePrefix}
use Rattle.ecmbx_words.specs.Ends.{text_of}

-- the first i lines were taken, and the count of faults didn't fall
pub record HasPut (lines : List (List ℕ)) (i : ℕ) (old new : Option (List ℕ)) (before now : ℕ) : Type 0 where
  pub wrote : Wrote old new (text_of (take i lines))
  pub later : before ≤ now

pub text_of-append : (a b : List (List ℕ)) → text_of (a ++ b) ≡ text_of a ++ text_of b
text_of-append [] b = refl
text_of-append (line ∷ a) b = rw (text_of-append a b) (sym (append_assoc line (text_of a) (text_of b)))

wrote_more : (old middle new : Option (List ℕ)) (front text : List ℕ) → Wrote old middle front → Wrote middle new text → Wrote old new (front ++ text)
wrote_more None middle new front text h k = tt
wrote_more (Some old) None new front text h k = absurd cc
wrote_more (Some old) (Some middle) new front text h k =
    let m : middle ≡ old ++ front = cc in
    k ∙ ap Some (rw m (append_assoc old front text))

text_of-take : (lines : List (List ℕ)) (i : ℕ) (line : List ℕ) → i < length lines → line ≡ get_or lines i line → text_of (take (i + 1) lines) ≡ text_of (take i lines) ++ line
text_of-take lines i line lt is =
    let split : take (i + 1) lines ≡ take i lines ++ line ∷ [] = rw (← is) at (take_more lines i line lt) in
    ap text_of split ∙ text_of-append (take i lines) (line ∷ []) ∙ ap (λ t. text_of (take i lines) ++ t) (append-nil line)

-- one more line
pub next_line : (lines : List (List ℕ)) (i : ℕ) (line : List ℕ) (old middle new : Option (List ℕ)) (before now after : ℕ) → i < length lines → line ≡ get_or lines i line → Wrote middle new line → now ≤ after → HasPut lines i old middle before now
    → HasPut lines (i + 1) old new before after
next_line lines i line old middle new before now after lt is wrote later h =
    record { wrote = rw (text_of-take lines i line lt is) (wrote_more old middle new (text_of (take i lines)) line h.wrote wrote); later = omega (arith, h.later) }

-- a prefix of a line is a prefix of all
pub front_of : (lines : List (List ℕ)) (i : ℕ) (line : List ℕ) (old middle new : Option (List ℕ)) (before now : ℕ) → i < length lines → line ≡ get_or lines i line → WrotePrefix middle new line → HasPut lines i old middle before now → WrotePrefix old new (text_of lines)
front_of lines i line old middle new before now lt is (front, behind, wrote, parts) h =
    let split : drop i lines ≡ line ∷ drop (i + 1) lines = rw (← is) at (drop_more lines i line lt) in
    let whole : text_of lines ≡ text_of (take i lines) ++ (line ++ text_of (drop (i + 1) lines)) =
    ap text_of (sym (take-append-drop i lines)) ∙ text_of-append (take i lines) (drop i lines) ∙ ap (λ ls. text_of (take i lines) ++ text_of ls) split in
    (text_of (take i lines) ++ front, behind ++ text_of (drop (i + 1) lines), wrote_more old middle new (text_of (take i lines)) front h.wrote wrote, whole ∙ rw parts (simp append_assoc))

-- all lines
pub put_all : (lines : List (List ℕ)) (i : ℕ) (old new : Option (List ℕ)) (before now : ℕ) → length lines ≤ i → HasPut lines i old new before now → Wrote old new (text_of lines)
put_all lines i old new before now le h = rw (take_all i lines le) at h.wrote

-- a count that rose later rose from before on
pub rose_from : (before now after : ℕ) → before ≤ now → now ≤ after → Rose now after → Rose before after
rose_from before now after le le' (inl lt) = inl (omega arith)
rose_from before now after le le' (inr end) = elim (cases_lt before now) [ inl lt ↦ inl (omega arith) | inr same ↦ inr (omega arith) ]

-- ---- a text in pieces

-- the text before a place was taken, and the count of faults didn't fall
pub record HasTold (text : List ℕ) (from : ℕ) (old new : Option (List ℕ)) (before now : ℕ) : Type 0 where
  pub wrote : Wrote old new (take from text)
  pub within : from ≤ length text
  pub later : before ≤ now

-- a piece behind the text before it is the text before its end
piece_behind : (text : List ℕ) (from to : ℕ) → from ≤ to → to ≤ length text → take from text ++ take (to - from) (drop from text) ≡ take to text
piece_behind text from to le within =
    let sum : from + (to - from) ≡ to = omega (arith, le) in
    sym (take-add from (to - from) text) ∙ ap (λ n. take n text) sum

-- one more piece
pub next_piece : (text : List ℕ) (from to : ℕ) (old middle new : Option (List ℕ)) (before now after : ℕ) → from ≤ to → to ≤ length text → Wrote middle new (take (to - from) (drop from text)) → now ≤ after → HasTold text from old middle before now
    → HasTold text to old new before after
next_piece text from to old middle new before now after le within wrote later h =
    record {
      wrote = rw (← piece_behind text from to le within) (wrote_more old middle new (take from text) (take (to - from) (drop from text)) h.wrote wrote);
      within = within;
      later = omega (arith, h.later);
    }

-- a prefix of a piece is a prefix of the text
pub piece_front : (text : List ℕ) (from to : ℕ) (old middle new : Option (List ℕ)) (before now : ℕ) → from ≤ to → to ≤ length text → WrotePrefix middle new (take (to - from) (drop from text)) → HasTold text from old middle before now → WrotePrefix old new text
piece_front text from to old middle new before now le within (front, behind, wrote, parts) h =
    let whole : text ≡ (take from text ++ take (to - from) (drop from text)) ++ drop to text = sym (take-append-drop to text) ∙ ap (λ t. t ++ drop to text) (sym (piece_behind text from to le within)) in
    (take from text ++ front, behind ++ drop to text, wrote_more old middle new (take from text) front h.wrote wrote, whole ∙ rw parts (simp append_assoc))

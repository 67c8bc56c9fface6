-- WHICH FRAME OPENS A SLAVE ANEW, as it is given up at further frames.
use Rattle.std.proofs.Common.{◌≡◌, ◌<◌, ◌≤◌, ℕ, Bool, true, false, Option, Some, None, List, [], ◌∷◌, ◌++◌, refl, ap, ◌∙◌, arith}
use Rattle.std.specs.Prelude.{◌&&◌, nat_lt, nat_le, if◌then◌else◌}
use Rattle.std.specs.List.{All}
use Rattle.std.proofs.lemmas.Bool.{lt-ltb, le-ltb, le-leb, lt-leb}
use Rattle.std.proofs.lemmas.List.Elements.{All-head, All-tail}
use Rattle.life_runs.specs.of_life_model.Lives.{Era}
use Rattle.life_runs.specs.of_link_mails.Body.{Body}
use Rattle.life_runs.specs.of_master_duty.Reply.{Reply}
use Rattle.life_runs.specs.of_master_hand.Spoken.{Asked}
use Rattle.run_frames.specs.ScriptAnswers.{gave_between, opened_anew, era_scripted, next_opened, eras_scripted}
use Rattle.run_frames.specs.Steps.{OpenedBefore}

abbrev pub EraOf : Type 0
EraOf = Era Body Asked Reply

abbrev pub WasBefore : ℕ → EraOf → Type 0
WasBefore made e = OpenedBefore made e.opened

pub last_all : {X : Type 0} (P : X → Type 0) (xs : List X) (x : X) → All P (xs ++ x ∷ []) → P x
last_all P [] x h = All-head P x [] h
last_all P (y ∷ xs) x h = last_all P xs x (All-tail P y (xs ++ x ∷ []) h)

-- ONE GIVE-UP MORE, that is no earlier than the frame that opened the slave anew
not_both : (b c : Bool) → c ≡ false → (if b && c then true else false) ≡ false
not_both true c e = ap (λ (z : Bool). if z then true else false) e
not_both false c e = refl

between_more : (from until made : ℕ) (gave : List ℕ) → until ≤ made → gave_between from until (gave ++ made ∷ []) ≡ gave_between from until gave
between_more from until made [] e = not_both (nat_le from made) (nat_lt made until) (le-ltb made until e)
between_more from until made (k ∷ gave) e = ap (λ (z : Bool). if nat_le from k && nat_lt k until then true else z) (between_more from until made gave e)

-- all of them before the epoch was opened
none_later : (from until k : ℕ) (z : Bool) → k < from → z ≡ false → (if nat_le from k && nat_lt k until then true else z) ≡ false
none_later from until k z e f = ap (λ (b : Bool). if b && nat_lt k until then true else z) (lt-leb from k e) ∙ f

between_none : (from until : ℕ) (gave : List ℕ) → All (λ k. k < from) gave → gave_between from until gave ≡ false
between_none from until [] h = refl
between_none from until (k ∷ gave) h = none_later from until k (gave_between from until gave) (All-head (λ n. n < from) k gave h) (between_none from until gave (All-tail (λ n. n < from) k gave h))

-- the last of them while the epoch was open, or behind that
either_true : (b z : Bool) → z ≡ true → (if b then true else z) ≡ true
either_true true z e = refl
either_true false z e = e

between_last : (from until made : ℕ) (gave : List ℕ) → from ≤ made → made < until → gave_between from until (gave ++ made ∷ []) ≡ true
between_last from until made [] e f = (λ i. if le-leb from made e i && lt-ltb made until f i then true else false)
between_last from until made (k ∷ gave) e f = either_true (nat_le from k && nat_lt k until) (gave_between from until (gave ++ made ∷ [])) (between_last from until made gave e f)

-- WHAT OPENS IT ANEW
pub anew_spared : (gave : List ℕ) (from until : ℕ) → All (λ k. k < from) gave → opened_anew gave (Some from) (Some until) ≡ Some until
anew_spared gave from until h = ap (λ (b : Bool). if b then None else Some until) (between_none from until gave h)

pub anew_lost : (gave : List ℕ) (made : ℕ) (from : Option ℕ) (until : ℕ) → OpenedBefore made from → All (λ k. k < until) (gave ++ made ∷ []) → opened_anew (gave ++ made ∷ []) from (Some until) ≡ None
anew_lost gave made None until h all = refl
anew_lost gave made (Some from) until h all = ap (λ (b : Bool). if b then None else Some until) (between_last from until made gave (omega (arith, h)) (last_all (λ k. k < until) gave made all))

anew_given : (gave : List ℕ) (made : ℕ) (from behind : Option ℕ) → OpenedBefore made behind → opened_anew (gave ++ made ∷ []) from behind ≡ opened_anew gave from behind
anew_given gave made from None h = refl
anew_given gave made None (Some until) h = refl
anew_given gave made (Some from) (Some until) h = ap (λ (b : Bool). if b then None else Some until) (between_more from until made gave (omega (arith, h)))

next_before : (made : ℕ) (es : List EraOf) (behind : Option ℕ) → All (λ e. WasBefore made e) es → OpenedBefore made behind → OpenedBefore made (next_opened es behind)
next_before made [] behind h b = b
next_before made (e ∷ es) behind h b = All-head (λ e. WasBefore made e) e es h

-- so epochs that were opened before keep what they came to
pub eras_given : (gave : List ℕ) (made : ℕ) (es : List EraOf) (behind : Option ℕ) → All (λ e. WasBefore made e) es → OpenedBefore made behind → eras_scripted (gave ++ made ∷ []) es behind ≡ eras_scripted gave es behind
eras_given gave made [] behind h b = refl
eras_given gave made (e ∷ es) behind h b =
    let rest = All-tail (λ e. WasBefore made e) e es h in
    λ i. era_scripted (anew_given gave made e.opened (next_opened es behind) (next_before made es behind rest b) i) e ++ eras_given gave made es behind rest b i

-- AN EXAMPLE: opened at 9 and anew at 20; given up before, in between, or later
given_before_it : opened_anew (5 ∷ []) (Some 9) (Some 20) ≡ Some 20
given_before_it = refl

given_in_between : opened_anew (5 ∷ 12 ∷ []) (Some 9) (Some 20) ≡ None
given_in_between = refl

given_later : opened_anew (30 ∷ []) (Some 9) (Some 20) ≡ Some 20
given_later = refl

-- Events of one kind, with their numbers.
use Rattle.std.proofs.Common.{◌≡◌, ◌≤◌, ◌<◌, ℕ, zero, suc, ◌+◌, Bool, true, false, List, [], ◌∷◌, ◌++◌, map, length, refl, sym, ap, ◌∙◌, arith}
use Rattle.std.specs.Prelude.{◌==◌, nat_le, if◌then◌else◌, All}
use Rattle.std.proofs.lemmas.Bool.{le-leb, lt-leb}
use Rattle.std.proofs.lemmas.List.Elements.{All-head, All-tail}
use Rattle.master_node.specs.of_eoe_switch.declared.switching.SwitchEvent.{SwitchEvent}
use Rattle.master_node.specs.of_eoe_switch.declared.switching.SwitchEvent.TheVariants.{Arrive, Begun, Down}
use Rattle.master_node.specs.Happened.{arrivals_at}
use Rattle.packets_heard.specs.Numbers.{begins, comes_in, each_with, events_up_to, goes, numbers_where}
use Rattle.packets_heard.specs.Over.{IsNoBegun, begun_at}
use Rattle.packets_heard.specs.Listed.{downs_at}

-- how many such there are
abbrev pub count : (SwitchEvent → Bool) → List SwitchEvent → ℕ
count such [] = 0
count such (e ∷ es) = if such e then suc (count such es) else count such es

-- a number so often
abbrev pub repeat : ℕ → ℕ → List ℕ
repeat zero n = []
repeat (suc k) n = n ∷ repeat k n

pub each_repeat : {X : Type 0} (n : ℕ) (xs : List X) → each_with n xs ≡ repeat (length xs) n
each_repeat n [] = refl
each_repeat n (x ∷ xs) = ap (λ z. n ∷ z) (each_repeat n xs)

pub each_length : {X : Type 0} (n : ℕ) (xs : List X) → length (each_with n xs) ≡ length xs
each_length n [] = refl
each_length n (x ∷ xs) = ap suc (each_length n xs)

pub each_next : {X : Type 0} (n : ℕ) (xs : List X) → map (λ k. suc k) (each_with n xs) ≡ each_with (suc n) xs
each_next n [] = refl
each_next n (x ∷ xs) = ap (λ z. suc n ∷ z) (each_next n xs)

-- ---- one behind the other

module _ (such : SwitchEvent → Bool) where
  pub count_append : (xs ys : List SwitchEvent) → count such (xs ++ ys) ≡ count such xs + count such ys
  count_append [] ys = omega arith
  count_append (x ∷ xs) ys = go (such x) (count_append xs ys)
    where
      go : (b : Bool) → count such (xs ++ ys) ≡ count such xs + count such ys → (if b then suc (count such (xs ++ ys)) else count such (xs ++ ys)) ≡ (if b then suc (count such xs) else count such xs) + count such ys
      go true rest = omega (arith, rest)
      go false rest = rest

  where_append : (xs ys : List SwitchEvent) (ns ms : List ℕ) → length xs ≡ length ns → numbers_where such (xs ++ ys) (ns ++ ms) ≡ numbers_where such xs ns ++ numbers_where such ys ms
  where_append [] ys [] ms e = refl
  where_append [] ys (n ∷ ns) ms e = absurd (omega (arith, e))
  where_append (x ∷ xs) ys [] ms e = absurd (omega (arith, e))
  where_append (x ∷ xs) ys (n ∷ ns) ms e = go (such x) (where_append xs ys ns ms (omega (arith, e)))
    where
      go : (b : Bool) → numbers_where such (xs ++ ys) (ns ++ ms) ≡ numbers_where such xs ns ++ numbers_where such ys ms →
          (if b then n ∷ numbers_where such (xs ++ ys) (ns ++ ms) else numbers_where such (xs ++ ys) (ns ++ ms)) ≡ (if b then n ∷ numbers_where such xs ns else numbers_where such xs ns) ++ numbers_where such ys ms
      go true rest = ap (λ z. n ∷ z) rest
      go false rest = rest

  where_same : (n : ℕ) (es : List SwitchEvent) → numbers_where such es (each_with n es) ≡ repeat (count such es) n
  where_same n [] = refl
  where_same n (e ∷ es) = go (such e) (where_same n es)
    where
      go : (b : Bool) → numbers_where such es (each_with n es) ≡ repeat (count such es) n →
          (if b then n ∷ numbers_where such es (each_with n es) else numbers_where such es (each_with n es)) ≡ repeat (if b then suc (count such es) else count such es) n
      go true rest = ap (λ z. n ∷ z) rest
      go false rest = rest

  -- one frame more
  pub where_more : (old making behind : List SwitchEvent) (numbers : List ℕ) (made : ℕ) → length old ≡ length numbers →
      numbers_where such (old ++ (making ++ behind)) (numbers ++ (each_with made making ++ each_with (suc made) behind)) ≡ numbers_where such old numbers ++ (repeat (count such making) made ++ repeat (count such behind) (suc made))
  where_more old making behind numbers made e =
      where_append old (making ++ behind) numbers (each_with made making ++ each_with (suc made) behind) e
      ∙ ap (λ z. numbers_where such old numbers ++ z)
      (where_append making behind (each_with made making) (each_with (suc made) behind) (sym (each_length made making)) ∙ (λ i. where_same made making i ++ where_same (suc made) behind i))

-- ---- how many there are of each kind

module _ (p : ℕ) where
  pub count_begins : (es : List SwitchEvent) → count (begins p) es ≡ begun_at p es
  count_begins [] = refl
  count_begins (Arrive q packet ∷ es) = let rest = count_begins es in omega (arith, rest)
  count_begins (Begun q ∷ es) = go (q == p) (count_begins es)
    where
      go : (b : Bool) → count (begins p) es ≡ begun_at p es → (if b then suc (count (begins p) es) else count (begins p) es) ≡ (if b then 1 else 0) + begun_at p es
      go true rest = omega (arith, rest)
      go false rest = omega (arith, rest)
  count_begins (Down q ∷ es) = let rest = count_begins es in omega (arith, rest)

  pub count_goes : (es : List SwitchEvent) → count (goes p) es ≡ downs_at p es
  count_goes [] = refl
  count_goes (Arrive q packet ∷ es) = let rest = count_goes es in omega (arith, rest)
  count_goes (Begun q ∷ es) = let rest = count_goes es in omega (arith, rest)
  count_goes (Down q ∷ es) = go (q == p) (count_goes es)
    where
      go : (b : Bool) → count (goes p) es ≡ downs_at p es → (if b then suc (count (goes p) es) else count (goes p) es) ≡ (if b then 1 else 0) + downs_at p es
      go true rest = omega (arith, rest)
      go false rest = omega (arith, rest)

  pub count_comes : (es : List SwitchEvent) → count (comes_in p) es ≡ length (arrivals_at p es)
  count_comes [] = refl
  count_comes (Arrive q packet ∷ es) = go (q == p) (count_comes es)
    where
      go : (b : Bool) → count (comes_in p) es ≡ length (arrivals_at p es) → (if b then suc (count (comes_in p) es) else count (comes_in p) es) ≡ length ((if b then packet ∷ [] else []) ++ arrivals_at p es)
      go true rest = ap suc rest
      go false rest = rest
  count_comes (Begun q ∷ es) = count_comes es
  count_comes (Down q ∷ es) = count_comes es

  -- none begins by a frame's return or its loss
  pub none_begins : (es : List SwitchEvent) → All IsNoBegun es → count (begins p) es ≡ 0
  none_begins [] a = refl
  none_begins (Arrive q packet ∷ es) a = none_begins es (All-tail IsNoBegun (Arrive q packet) es a)
  none_begins (Begun q ∷ es) a = absurd (All-head IsNoBegun (Begun q) es a)
  none_begins (Down q ∷ es) a = none_begins es (All-tail IsNoBegun (Down q) es a)

-- ---- the events up to a frame

module _ (frame : ℕ) where
  up_append : (xs ys : List SwitchEvent) (ns ms : List ℕ) → length xs ≡ length ns → events_up_to frame (xs ++ ys) (ns ++ ms) ≡ events_up_to frame xs ns ++ events_up_to frame ys ms
  up_append [] ys [] ms e = refl
  up_append [] ys (n ∷ ns) ms e = absurd (omega (arith, e))
  up_append (x ∷ xs) ys [] ms e = absurd (omega (arith, e))
  up_append (x ∷ xs) ys (n ∷ ns) ms e = go (nat_le n frame) (up_append xs ys ns ms (omega (arith, e)))
    where
      go : (b : Bool) → events_up_to frame (xs ++ ys) (ns ++ ms) ≡ events_up_to frame xs ns ++ events_up_to frame ys ms →
          (if b then x ∷ events_up_to frame (xs ++ ys) (ns ++ ms) else events_up_to frame (xs ++ ys) (ns ++ ms)) ≡ (if b then x ∷ events_up_to frame xs ns else events_up_to frame xs ns) ++ events_up_to frame ys ms
      go true rest = ap (λ z. x ∷ z) rest
      go false rest = rest

  pub up_all : (n : ℕ) (es : List SwitchEvent) → n ≤ frame → events_up_to frame es (each_with n es) ≡ es
  up_all n [] l = refl
  up_all n (e ∷ es) l = (λ i. if le-leb n frame l i then e ∷ events_up_to frame es (each_with n es) else events_up_to frame es (each_with n es)) ∙ ap (λ z. e ∷ z) (up_all n es l)

  pub up_none : (n : ℕ) (es : List SwitchEvent) → frame < n → events_up_to frame es (each_with n es) ≡ []
  up_none n [] l = refl
  up_none n (e ∷ es) l = (λ i. if lt-leb n frame l i then e ∷ events_up_to frame es (each_with n es) else events_up_to frame es (each_with n es)) ∙ up_none n es l

  -- one frame more
  pub up_more : (old making behind : List SwitchEvent) (numbers : List ℕ) (made : ℕ) → length old ≡ length numbers →
      events_up_to frame (old ++ (making ++ behind)) (numbers ++ (each_with made making ++ each_with (suc made) behind))
      ≡ events_up_to frame old numbers ++ (events_up_to frame making (each_with made making) ++ events_up_to frame behind (each_with (suc made) behind))
  up_more old making behind numbers made e =
      up_append old (making ++ behind) numbers (each_with made making ++ each_with (suc made) behind) e
      ∙ ap (λ z. events_up_to frame old numbers ++ z) (up_append making behind (each_with made making) (each_with (suc made) behind) (sym (each_length made making)))

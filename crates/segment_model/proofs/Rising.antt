-- Each answer of a side came before its next row began.
use Rattle.std.proofs.Common.{◌≡◌, ℕ, suc, ◌<◌, ◌≤◌, ◌&&◌, Bool, true, false, Option, Some, None, option_map, List, [], ◌∷◌, ◌++◌, refl, ap, sym, subst, arith, if◌then◌else◌}
use Rattle.exchange_model.specs.Exchange.{Exchange, plain}
use Rattle.exchange_model.specs.Rows.{Row, begun, row_heard, row_told, answer_after}
use Rattle.segment_model.specs.Laws.{Rises}
use Rattle.segment_model.specs.Seats.{Side, Choice, newest, is_over, side_begins, side_holds, side_next}

pub record RisesTo {M Q R : Type 0} (past : List (Row M Q R)) (r : Row M Q R) (k : ℕ) : Type 0 where
  pub before : Rises past r.frame
  pub answer : (answer : R × ℕ) → r.answer ≡ Some answer → answer.1 < k
  pub frame : r.frame ≤ k

abbrev pub RisesNow : {M Q R : Type 0} → List (Row M Q R) → Option (Row M Q R) → ℕ → Type 0
RisesNow past None k = past ≡ []
RisesNow past (Some r) k = RisesTo past r k

-- one row more
rises_more : {M Q R : Type 0} (rs : List (Row M Q R)) (n : Row M Q R) (k : ℕ) → Rises rs n.frame → ((answer : R × ℕ) → n.answer ≡ Some answer → answer.1 < k) → Rises (rs ++ n ∷ []) k
rises_more [] n k h a = (a, tt)
rises_more (r ∷ []) n k h a = (h.0, (a, tt))
rises_more (r ∷ (s ∷ rs)) n k h a = (h.0, rises_more (s ∷ rs) n k h.1 a)

pub rises_all : {M Q R : Type 0} (past : List (Row M Q R)) (now : Option (Row M Q R)) (k : ℕ) → RisesNow past now k → Rises (past ++ newest now) k
rises_all {M} {Q} {R} past None k h = subst (λ l. Rises (l ++ newest {M = M} {Q = Q} {R = R} None) k) (sym h) tt
rises_all past (Some r) k h = rises_more past r k h.before h.answer

module _ {V A M Q R : Type 0} (x : Exchange V A M Q R) where
  fresh : (past : List (Row M Q R)) (q : Q) (k : ℕ) → Rises past k → RisesTo past (begun q k) k
  fresh past q k h = record { before = h; answer = λ a e. absurd (let none : None ≡ Some a = e in cc); frame = omega arith }

  began_rises : (d : Side M Q R) (k : ℕ) (now : Option (Row M Q R)) (begin : Option Q) → d.now ≡ now → RisesNow d.past now k → (let e = side_begins x.speech k d now begin in RisesNow e.past e.now k)
  began_rises d k now None e h = subst (λ n. RisesNow d.past n k) (sym e) h
  began_rises d k None (Some q) e h = go (x.speech.valid q)
    where
      go : (b : Bool) → (let t = if b then record d { now = Some (begun q k) } else d in RisesNow t.past t.now k)
      go true = fresh d.past q k (subst (λ l. Rises l k) (sym h) tt)
      go false = subst (λ n. RisesNow d.past n k) (sym e) h
  began_rises d k (Some r) (Some q) e h = go (x.speech.valid q && is_over x.speech d.halves.out.holding d.fresh r)
    where
      go : (b : Bool) → (let t = if b then record d { past = d.past ++ r ∷ []; now = Some (begun q k) } else d in RisesNow t.past t.now k)
      go true = fresh (d.past ++ r ∷ []) q k (rises_more d.past r k h.before h.answer)
      go false = subst (λ n. RisesNow d.past n k) (sym e) h

  held_rises : (d : Side M Q R) (ms : List M) (k : ℕ) → RisesNow d.past d.now k → (let e = side_holds d ms in RisesNow e.past e.now k)
  held_rises d [] k h = h
  held_rises d (m ∷ ms) k h = go d.now h
    where
      go : (now : Option (Row M Q R)) → RisesNow d.past now k → RisesNow d.past (option_map (λ r. row_told m r) now) k
      go None h = h
      go (Some r) h = record { before = h.before; answer = h.answer; frame = h.frame }

  pub next_rises : (d : Side M Q R) (c : Choice Q) (k : ℕ) → RisesNow d.past d.now k → (let e = side_next x.speech k d c in RisesNow e.past e.now k)
  next_rises d c k h = held_rises (side_begins x.speech k d d.now c.begin) _ k (began_rises d k d.now c.begin refl h)

  pub heard_rises : (past : List (Row M Q R)) (now : Option (Row M Q R)) (ms : List M) (k : ℕ) → RisesNow past now k → RisesNow past (option_map (λ r. row_heard x.speech k ms r) now) (suc k)
  heard_rises past None ms k h = h
  heard_rises past (Some r) ms k h = record { before = h.before; answer = go r.answer (x.speech.ends r.service (plain x.speech.emission (r.heard ++ ms))) h.answer; frame = let f = h.frame in omega (arith, f) }
    where
      go : (old : Option (R × ℕ)) (new : Option R) → ((answer : R × ℕ) → old ≡ Some answer → answer.1 < k) → (answer : R × ℕ) → answer_after k old new ≡ Some answer → answer.1 < suc k
      go None None h a e = absurd (let none : None ≡ Some a = e in cc)
      go None (Some r) h a e = let same : (r, k) ≡ a = cc in let n : k ≡ a.1 = ap (λ p. p.1) same in omega (arith, n)
      go (Some b) new h a e = let same : b ≡ a = cc in let n : b.1 ≡ a.1 = ap (λ p. p.1) same in let less = h b refl in omega (arith, n, less)

  pub waits_rises : (past : List (Row M Q R)) (now : Option (Row M Q R)) (k : ℕ) → RisesNow past now k → RisesNow past now (suc k)
  waits_rises past None k h = h
  waits_rises past (Some r) k h = record { before = h.before; answer = λ a e. (let less = h.answer a e in omega (arith, less)); frame = let f = h.frame in omega (arith, f) }

-- A slave that waits gains within a step and two rounds.
use Rattle.std.proofs.Common.{◌≡◌, ◌⊎◌, ℕ, zero, suc, ◌+◌, ◌*◌, ◌<◌, ◌≤◌, ◌%◌, ◌==◌, ◌&&◌, Bool, true, false, Option, List, [], ◌∷◌, length, refl, sym, ◌∙◌, subst, arith, if◌then◌else◌, inl, inr}
use Rattle.life_runs.specs.of_life_model.Tally.{quiet}
use Rattle.run_frames.specs.Clocks.{Clocked, clock_at, ahead_at}
use Rattle.run_frames.specs.Goes.{Under, AllClocked}
use Rattle.run_frames.specs.Orders.{is_live, live_at, under_at}
use Rattle.run_frames.specs.Waits.{Waits, all_anew, waits_on, all_on, SomeWaits}
use Rattle.run_frames.proofs.Clocking.{clock_some, clock_most, ahead_less, step_or}

-- SO LONG IT HAS WAITED, behind so many frames with nothing gained: until a step comes, until a visit behind it, until the next
pub record Waited (slowest count clock ahead still : ℕ) (w : Waits) : Type 0 where
  pub before : w.stepped ≡ false → (w.tries ≡ 0) × (still + clock ≤ slowest)
  pub first : w.stepped ≡ true → w.tries ≡ 0 → still + suc ahead ≤ slowest + count
  pub second : w.stepped ≡ true → w.tries ≡ 1 → still + suc ahead ≤ slowest + 2 * count

-- by one more frame
waited_on : (slowest count clock later ahead next still more tries : ℕ) (stepped steps under : Bool) → Waited slowest count clock ahead still (record { stepped = stepped; tries = tries }) → 1 ≤ clock → more ≤ suc still → suc next ≤ count →
    (steps ≡ true) ⊎ (suc later ≤ clock) → (under ≡ false → suc next ≤ ahead) →
    Waited slowest count later next more (record { stepped = if steps then true else stepped; tries = if under && stepped then suc tries else tries })
waited_on slowest count clock later ahead next still more tries false false under w some few near (inl tick) pass = absurd (cc)
waited_on slowest count clock later ahead next still more tries false false under w some few near (inr tick) pass =
    let b = w.before refl in
    let same : (if under && false then suc tries else tries) ≡ tries = never under in
    record { before = λ is. (same ∙ b.0, omega (arith, b.1, few, tick)); first = λ is. absurd (cc); second = λ is. absurd (cc) }
  where
    never : (b : Bool) → (if b && false then suc tries else tries) ≡ tries
    never true = refl
    never false = refl
waited_on slowest count clock later ahead next still more tries false true under w some few near tick pass =
    let b = w.before refl in
    let same : (if under && false then suc tries else tries) ≡ tries = never under in
    record { before = λ is. absurd (cc); first = λ is none. omega (arith, b.1, some, few, near); second = λ is one. absurd (let zero' : (if under && false then suc tries else tries) ≡ 0 = same ∙ b.0 in omega (arith, zero', one)) }
  where
    never : (b : Bool) → (if b && false then suc tries else tries) ≡ tries
    never true = refl
    never false = refl
waited_on slowest count clock later ahead next still more tries true steps true w some few near tick pass = record {
  before = λ is. absurd (let no' = always steps in cc);
  first = λ is none. absurd (omega (arith, none));
  second = λ is one. (let f = w.first refl (omega (arith, one)) in omega (arith, f, few, near));
}
  where
    always : (b : Bool) → (if b then true else true) ≡ true
    always true = refl
    always false = refl
waited_on slowest count clock later ahead next still more tries true steps false w some few near tick pass =
    let nearer = pass refl in
    record {
      before = λ is. absurd (let no' = always steps in cc);
      first = λ is none. (let f = w.first refl none in omega (arith, f, few, nearer));
      second = λ is one. (let f = w.second refl one in omega (arith, f, few, nearer));
    }
  where
    always : (b : Bool) → (if b then true else true) ≡ true
    always true = refl
    always false = refl

-- one visited once at most has waited no longer than what is quiet
waited_few : (slowest count clock ahead still : ℕ) (w : Waits) → Waited slowest count clock ahead still w → w.tries ≤ 1 → still ≤ quiet count slowest
waited_few slowest count clock ahead still w h few = by w.stepped w.tries refl refl few
  where
    by : (b : Bool) (n : ℕ) → w.stepped ≡ b → w.tries ≡ n → n ≤ 1 → still ≤ quiet count slowest
    by false n e f l = (let b = h.before e in omega (arith, b.1))
    by true zero e f l = (let b = h.first e f in omega (arith, b))
    by true (suc zero) e f l = (let b = h.second e f in omega (arith, b))
    by true (suc (suc n)) e f l = absurd (omega (arith, l))

module _ {M Q R : Type 0} (slowest count : ℕ) where
  -- each live slave has waited so long
  abbrev pub AllWaited : Option ℕ → ℕ → ℕ → ℕ → List (Clocked M Q R) → List Waits → Type 0
  AllWaited last number still place [] [] = Unit {0}
  AllWaited last number still place (c ∷ cs) (w ∷ ws) = (is_live c.life.stand ≡ true → Waited slowest count (clock_at c.pace number) (ahead_at count last place) still w) × AllWaited last number still (suc place) cs ws
  AllWaited last number still place _ _ = ⊥

  -- where something was gained none has
  pub anew_waited : (last : Option ℕ) (number place : ℕ) (cs bs : List (Clocked M Q R)) → length cs ≡ length bs → AllClocked slowest cs → AllWaited last number 0 place cs (all_anew bs)
  anew_waited last number place [] [] e k = tt
  anew_waited last number place [] (b ∷ bs) e k = absurd (cc)
  anew_waited last number place (c ∷ cs) [] e k = absurd (cc)
  anew_waited last number place (c ∷ cs) (b ∷ bs) e k = (
    λ live. record { before = λ is. (refl, omega (arith, clock_most c.pace number, k.0.most)); first = λ is. absurd (cc); second = λ is. absurd (cc) },
    anew_waited last number (suc place) cs bs (let f : length cs ≡ length bs = cc in f) k.1,
  )

  -- some that waits yet bounds it
  pub some_few : (last : Option ℕ) (number still place : ℕ) (cs : List (Clocked M Q R)) (ws : List Waits) → AllWaited last number still place cs ws → SomeWaits cs ws → still ≤ quiet count slowest
  some_few last number still place [] ws a s = absurd s
  some_few last number still place (c ∷ cs) [] a s = absurd s
  some_few last number still place (c ∷ cs) (w ∷ ws) a (inl one) = waited_few slowest count (clock_at c.pace number) (ahead_at count last place) still w (a.0 one.0) one.1
  some_few last number still place (c ∷ cs) (w ∷ ws) a (inr others) = some_few last number still (suc place) cs ws a.1 others

  -- ALL BEHIND ONE MORE FRAME of a round
  abbrev pub LiveBefore : List (Clocked M Q R) → List (Clocked M Q R) → Type 0
  LiveBefore [] [] = Unit {0}
  LiveBefore (a ∷ as') (b ∷ bs) = ((is_live b.life.stand ≡ true → is_live a.life.stand ≡ true) × (b.pace ≡ a.pace)) × LiveBefore as' bs
  LiveBefore _ _ = ⊥

  pub all_waited_on : (last next : Option ℕ) (number still more place : ℕ) (as' bs : List (Clocked M Q R)) (us : List (Under M Q R)) (ws : List Waits) → place + length as' ≤ count → length us ≡ length as' → AllClocked slowest as' → LiveBefore as' bs → more ≤ suc still →
      ((i k : ℕ) → k ≡ place + i → i < length as' → live_at as' i ≡ true → under_at us i ≡ false → suc (ahead_at count next k) ≤ ahead_at count last k) →
      AllWaited last number still place as' ws → AllWaited next (suc number) more place bs (all_on number as' us ws)
  all_waited_on last next number still more place [] [] [] [] long e k l few near a = tt
  all_waited_on last next number still more place [] [] [] (w ∷ ws) long e k l few near a = absurd a
  all_waited_on last next number still more place [] [] (u ∷ us) ws long e k l few near a = absurd (cc)
  all_waited_on last next number still more place [] (b ∷ bs) us ws long e k l few near a = absurd l
  all_waited_on last next number still more place (a' ∷ as') [] us ws long e k l few near a = absurd l
  all_waited_on last next number still more place (a' ∷ as') (b ∷ bs) [] ws long e k l few near a = absurd (cc)
  all_waited_on last next number still more place (a' ∷ as') (b ∷ bs) (u ∷ us) [] long e k l few near a = absurd a
  all_waited_on last next number still more place (a' ∷ as') (b ∷ bs) (u ∷ us) (w ∷ ws) long e k l few near a = (
    λ live.
        let there : place < count = omega (arith, long) in
        let was = l.0.0 live in
        let one = waited_on slowest count (clock_at a'.pace number) (clock_at a'.pace (suc number)) (ahead_at count last place) (ahead_at count next place) still more w.tries w.stepped (suc number % a'.pace == 0) u.under
        (a.0 was) (clock_some a'.pace number k.0.some) few (ahead_less count next place there) (step_or a'.pace number k.0.some) (λ out. near 0 place (omega arith) (omega arith) was out) in
        subst (λ p. Waited slowest count (clock_at p (suc number)) (ahead_at count next place) more (waits_on number a' u w)) (sym l.0.1) one,
    all_waited_on last next number still more (suc place) as' bs us ws (omega (arith, long)) (let f : length us ≡ length as' = cc in f) k.1 l.1 few (λ i j f less is out. near (suc i) j (omega (arith, f)) (omega (arith, less)) is out) a.1,
  )

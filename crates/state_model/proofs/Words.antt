-- What is kept between the registers of a slave and a state service in hand, and how the processor's step keeps it.
use Rattle.std.proofs.Common.{◌≡◌, ◌≢◌, ◌⊎◌, inl, inr, ℕ, Bool, true, false, Option, Some, None, refl, ap, sym, ◌∙◌, subst, if◌then◌else◌}
use Rattle.segment_model.specs.Slaves.{Registers}
use Rattle.state_model.specs.States.{Table, Hand, Phase, carry, word_carried, decided}

module _ (table : Table) where
  -- nothing in hand: a word that waits asks for the state that stands
  pub record Idle (s : ℕ) (r : Registers) : Type 0 where
    pub state : r.state ≡ s
    pub refused : r.refused ≡ None
    pub word : (word : ℕ × Bool) → r.control ≡ Some word → word.0 ≡ s

  -- the target was not carried out
  pub record Fresh (s t : ℕ) (r : Registers) : Type 0 where
    pub state : r.state ≡ s
    pub refused : r.refused ≡ None
    pub word : (word : ℕ × Bool) → r.control ≡ Some word → (word.0 ≡ s) ⊎ (word.0 ≡ t)

  -- the target is reached
  pub record Changed (s t : ℕ) (r : Registers) : Type 0 where
    pub made : table s t ≡ None
    pub state : r.state ≡ t
    pub refused : r.refused ≡ None
    pub word : (word : ℕ × Bool) → r.control ≡ Some word → word.0 ≡ t

  -- the target is refused
  pub record Denied (s t : ℕ) (r : Registers) : Type 0 where
    pub code : ℕ
    pub denied : table s t ≡ Some code
    pub state : r.state ≡ s
    pub refused : r.refused ≡ Some code
    pub word : (word : ℕ × Bool) → r.control ≡ Some word → word.1 ≡ false
    pub asks : (word : ℕ × Bool) → r.control ≡ Some word → word.0 ≡ t

  -- the acknowledge was not carried out
  pub record Flag (s t first : ℕ) (r : Registers) : Type 0 where
    pub denied : table s t ≡ Some first
    pub state : r.state ≡ s
    pub refused : r.refused ≡ Some first
    pub word : (word : ℕ × Bool) → r.control ≡ Some word → (word.1 ≡ false) ⊎ (word.0 ≡ s)
    pub asks : (word : ℕ × Bool) → r.control ≡ Some word → (word.0 ≡ s) ⊎ (word.0 ≡ t)

  -- the acknowledge was carried out
  pub record Cleared (s t first : ℕ) (r : Registers) : Type 0 where
    pub denied : table s t ≡ Some first
    pub state : r.state ≡ s
    pub refused : r.refused ≡ None
    pub word : (word : ℕ × Bool) → r.control ≡ Some word → word.0 ≡ s

  abbrev pub InHand : ℕ → ℕ → Phase → Registers → Type 0
  InHand s t Phase.Ask r = Fresh s t r ⊎ (Changed s t r ⊎ Denied s t r)
  InHand s t Phase.Await r = Fresh s t r ⊎ (Changed s t r ⊎ Denied s t r)
  InHand s t (Phase.Acknowledge state first) r = (state ≡ s) × (Flag s t first r ⊎ Cleared s t first r)
  InHand s t (Phase.Recover first) r = Flag s t first r ⊎ Cleared s t first r

  abbrev pub Kept : {M : Type 0} → ℕ → Option (Hand M) → Registers → Type 0
  Kept s None r = Idle s r
  Kept s (Some h) r = InHand s h.target h.phase r

  -- the cases of a step
  stepped : (P : Registers → Type 0) (r : Registers) → (r.control ≡ None → P r) →
      ((word : ℕ × Bool) → r.control ≡ Some word → r.refused ≡ None → P (decided r word.0 (table r.state word.0))) →
      ((code : ℕ) (word : ℕ × Bool) → r.refused ≡ Some code → r.control ≡ Some word → P (if word.1 then decided r word.0 (table r.state word.0) else record r { control = None })) →
      P (carry table r)
  stepped P r none calm flagged = go r.refused r.control refl refl
    where
      go : (refused : Option ℕ) (control : Option (ℕ × Bool)) → r.refused ≡ refused → r.control ≡ control → P (word_carried table r refused control)
      go refused None e f = none f
      go None (Some word) e f = calm word f e
      go (Some code) (Some word) e f = flagged code word e f

  -- the state that stands is carried out and changes nothing
  same : (s : ℕ) → table s s ≡ None → (r : Registers) (target : ℕ) → r.state ≡ s → target ≡ s → table r.state target ≡ None
  same s sits r target e f = ap (λ a. table a target) e ∙ ap (table s) f ∙ sits

  idle_step : (s : ℕ) → table s s ≡ None → (r : Registers) → Idle s r → Idle s (carry table r)
  idle_step s sits r k = stepped (Idle s) r (λ e. k)
      (λ word e f. let w = k.word word e in subst (λ v. Idle s (decided r word.0 v)) (sym (same s sits r word.0 k.state w)) record { state = w; refused = refl; word = λ c g. absurd (cc) })
      (λ code word e f. absurd (let no = k.refused in cc))

  asked_step : (s t : ℕ) → table s s ≡ None → table t t ≡ None ⊎ (table s t ≢ None) → (r : Registers) → Fresh s t r ⊎ (Changed s t r ⊎ Denied s t r) →
      (let n = carry table r in Fresh s t n ⊎ (Changed s t n ⊎ Denied s t n))
  asked_step s t sits may r (inl k) = stepped (λ n. Fresh s t n ⊎ (Changed s t n ⊎ Denied s t n)) r (λ e. inl k)
      (λ word e f. word_step word (k.word word e))
      (λ code word e f. absurd (let no = k.refused in cc))
    where
      decide : (word : ℕ × Bool) (v : Option ℕ) → word.0 ≡ t → table s t ≡ v → (let n = decided r word.0 v in Fresh s t n ⊎ (Changed s t n ⊎ Denied s t n))
      decide word None w e = inr (inl (record { made = e; state = w; refused = refl; word = λ c g. absurd (cc) }))
      decide word (Some code) w e = inr (inr (record { code = code; denied = e; state = k.state; refused = refl; word = λ c g. absurd (cc); asks = λ c g. absurd (cc) }))

      word_step : (word : ℕ × Bool) → (word.0 ≡ s) ⊎ (word.0 ≡ t) → (let n = decided r word.0 (table r.state word.0) in Fresh s t n ⊎ (Changed s t n ⊎ Denied s t n))
      word_step word (inl w) = subst (λ v. let n = decided r word.0 v in Fresh s t n ⊎ (Changed s t n ⊎ Denied s t n)) (sym (same s sits r word.0 k.state w))
          (inl (record { state = w; refused = refl; word = λ c g. absurd (cc) }))
      word_step word (inr w) = decide word (table r.state word.0) w (sym (ap (λ a. table a word.0) k.state ∙ ap (table s) w))
  asked_step s t sits may r (inr (inl k)) = stepped (λ n. Fresh s t n ⊎ (Changed s t n ⊎ Denied s t n)) r (λ e. inr (inl k))
      (λ word e f. let w = k.word word e in subst (λ v. let n = decided r word.0 v in Fresh s t n ⊎ (Changed s t n ⊎ Denied s t n)) (sym (same t (stays may) r word.0 k.state w))
      (inr (inl (record { made = k.made; state = w; refused = refl; word = λ c g. absurd (cc) }))))
      (λ code word e f. absurd (let no = k.refused in cc))
    where
      stays : table t t ≡ None ⊎ (table s t ≢ None) → table t t ≡ None
      stays (inl m) = m
      stays (inr m) = absurd (m k.made)
  asked_step s t sits may r (inr (inr k)) = stepped (λ n. Fresh s t n ⊎ (Changed s t n ⊎ Denied s t n)) r (λ e. inr (inr k))
      (λ word e f. absurd (let no = k.refused in cc))
      (λ code word e f. subst (λ b. let n = if b then decided r word.0 (table r.state word.0) else record r { control = None } in Fresh s t n ⊎ (Changed s t n ⊎ Denied s t n)) (sym (k.word word f))
      (inr (inr (record { code = k.code; denied = k.denied; state = k.state; refused = k.refused; word = λ c g. absurd (cc); asks = λ c g. absurd (cc) }))))

  acknowledged_step : (s t first : ℕ) → table s s ≡ None → (r : Registers) → Flag s t first r ⊎ Cleared s t first r → Flag s t first (carry table r) ⊎ Cleared s t first (carry table r)
  acknowledged_step s t first sits r (inl k) = stepped (λ n. Flag s t first n ⊎ Cleared s t first n) r (λ e. inl k)
      (λ word e f. absurd (let no = k.refused in cc))
      (λ code word e f. word_step word word.1 (k.word word f))
    where
      ignored : Flag s t first (record r { control = None })
      ignored = record { denied = k.denied; state = k.state; refused = k.refused; word = λ c g. absurd (cc); asks = λ c g. absurd (cc) }

      cleared : (word : ℕ × Bool) → word.0 ≡ s → Cleared s t first (decided r word.0 (table r.state word.0))
      cleared word w = subst (λ v. Cleared s t first (decided r word.0 v)) (sym (same s sits r word.0 k.state w))
          record { denied = k.denied; state = w; refused = refl; word = λ c g. absurd (cc) }

      word_step : (word : ℕ × Bool) (bit : Bool) → (bit ≡ false) ⊎ (word.0 ≡ s) →
          (let n = if bit then decided r word.0 (table r.state word.0) else record r { control = None } in Flag s t first n ⊎ Cleared s t first n)
      word_step word false w = inl ignored
      word_step word true (inl w) = absurd (cc)
      word_step word true (inr w) = inr (cleared word w)
  acknowledged_step s t first sits r (inr k) = stepped (λ n. Flag s t first n ⊎ Cleared s t first n) r (λ e. inr k)
      (λ word e f. let w = k.word word e in subst (λ v. let n = decided r word.0 v in Flag s t first n ⊎ Cleared s t first n) (sym (same s sits r word.0 k.state w))
      (inr (record { denied = k.denied; state = w; refused = refl; word = λ c g. absurd (cc) })))
      (λ code word e f. absurd (let no = k.refused in cc))

  pub kept_step : {M : Type 0} (s : ℕ) → table s s ≡ None → ((t : ℕ) → table s t ≡ None → table t t ≡ None) → (hand : Option (Hand M)) (r : Registers) → Kept s hand r → Kept s hand (carry table r)
  kept_step s sits stays None r k = idle_step s sits r k
  kept_step s sits stays (Some h) r k = go h.target h.phase k
    where
      may : (t : ℕ) (v : Option ℕ) → table s t ≡ v → table t t ≡ None ⊎ (table s t ≢ None)
      may t None e = inl (stays t e)
      may t (Some code) e = inr (λ f. absurd (cc))

      go : (t : ℕ) (phase : Phase) → InHand s t phase r → InHand s t phase (carry table r)
      go t Phase.Ask k = asked_step s t sits (may t (table s t) refl) r k
      go t Phase.Await k = asked_step s t sits (may t (table s t) refl) r k
      go t (Phase.Acknowledge state first) k = (k.0, acknowledged_step s t first sits r k.1)
      go t (Phase.Recover first) k = acknowledged_step s t first sits r k

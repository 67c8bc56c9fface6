-- What a step of the slave's processor does to the AL state.
use Rattle.std.proofs.Common.{◌≡◌, ◌⊎◌, inl, inr, ℕ, Bool, true, false, Option, Some, None, refl, ap, sym, ◌∙◌, if◌then◌else◌}
use Rattle.segment_model.specs.Slaves.{Registers}
use Rattle.state_model.specs.States.{Table, Phase, carry, word_carried, decided}
use Rattle.state_model.specs.Promises.{state_behind, reached}
use Rattle.state_model.proofs.Words.{Idle, Fresh, Changed, Denied, Flag, Cleared, InHand}
use Rattle.state_model.proofs.Rings.{SamePlace}

-- station address and sync managers stay
pub carry_place : (table : Table) (r : Registers) → SamePlace r (carry table r)
carry_place table r = go r.refused r.control
  where
    decides : (target : ℕ) (v : Option ℕ) → SamePlace r (decided r target v)
    decides target None = record { station = refl; first = refl; second = refl }
    decides target (Some code) = record { station = refl; first = refl; second = refl }

    flagged : (word : ℕ × Bool) (bit : Bool) → SamePlace r (if bit then decided r word.0 (table r.state word.0) else record r { control = None })
    flagged word true = decides word.0 (table r.state word.0)
    flagged word false = record { station = refl; first = refl; second = refl }

    go : (refused : Option ℕ) (control : Option (ℕ × Bool)) → SamePlace r (word_carried table r refused control)
    go refused None = record { station = refl; first = refl; second = refl }
    go None (Some word) = decides word.0 (table r.state word.0)
    go (Some code) (Some word) = flagged word word.1

-- the step carries out a word that may be carried out: behind it the registers are `n`
record Moves (table : Table) (r n : Registers) : Type 0 where
  word : ℕ × Bool
  control : r.control ≡ Some word
  made : table r.state word.0 ≡ None
  state : n.state ≡ word.0
  able : (r.refused ≡ None) ⊎ (word.1 ≡ true)

moves : (table : Table) (r : Registers) → ((carry table r).state ≡ r.state) ⊎ Moves table r (carry table r)
moves table r = go r.refused r.control refl refl
  where
    decide : (word : ℕ × Bool) → r.control ≡ Some word → (r.refused ≡ None) ⊎ (word.1 ≡ true) → (v : Option ℕ) → table r.state word.0 ≡ v →
        ((decided r word.0 v).state ≡ r.state) ⊎ Moves table r (decided r word.0 v)
    decide word e able None f = inr (record { word = word; control = e; made = f; state = refl; able = able })
    decide word e able (Some code) f = inl refl

    flagged : (word : ℕ × Bool) → r.control ≡ Some word → (bit : Bool) → word.1 ≡ bit →
        (let n = if bit then decided r word.0 (table r.state word.0) else record r { control = None } in (n.state ≡ r.state) ⊎ Moves table r n)
    flagged word e true f = decide word e (inr f) (table r.state word.0) refl
    flagged word e false f = inl refl

    go : (refused : Option ℕ) (control : Option (ℕ × Bool)) → r.refused ≡ refused → r.control ≡ control →
        (let n = word_carried table r refused control in (n.state ≡ r.state) ⊎ Moves table r n)
    go refused None e f = inl refl
    go None (Some word) e f = decide word f (inl e) (table r.state word.0) refl
    go (Some code) (Some word) e f = flagged word f word.1 refl

-- with nothing in hand the state stays
pub idle_carry : (table : Table) (s : ℕ) (r : Registers) → Idle table s r → (carry table r).state ≡ r.state
idle_carry table s r k = go (moves table r)
  where
    go : ((carry table r).state ≡ r.state) ⊎ Moves table r (carry table r) → (carry table r).state ≡ r.state
    go (inl e) = e
    go (inr m) = m.state ∙ k.word m.word m.control ∙ sym k.state

-- with a state service in hand it stays, or it goes from the state before to the one behind the service
abbrev pub StaysOr : Table → ℕ → ℕ → Registers → Type 0
StaysOr table s t r = ((carry table r).state ≡ r.state) ⊎ ((r.state ≡ s) × ((carry table r).state ≡ state_behind table s t))

asked_carry : (table : Table) (s t : ℕ) (r : Registers) → Fresh table s t r ⊎ (Changed table s t r ⊎ Denied table s t r) → StaysOr table s t r
asked_carry table s t r k = go (moves table r) k
  where
    fresh : (m : Moves table r (carry table r)) → Fresh table s t r → (m.word.0 ≡ s) ⊎ (m.word.0 ≡ t) → StaysOr table s t r
    fresh m k (inl e) = inl (m.state ∙ e ∙ sym k.state)
    fresh m k (inr e) =
        let made : table s t ≡ None = sym (ap (λ a. table a m.word.0) k.state ∙ ap (table s) e) ∙ m.made in
        inr (k.state, m.state ∙ e ∙ sym (ap (λ v. reached v s t) made))

    denied : (m : Moves table r (carry table r)) → Denied table s t r → (r.refused ≡ None) ⊎ (m.word.1 ≡ true) → StaysOr table s t r
    denied m k (inl e) = absurd (let no = k.refused in cc)
    denied m k (inr e) = absurd (let no = k.word m.word m.control in cc)

    go : ((carry table r).state ≡ r.state) ⊎ Moves table r (carry table r) → Fresh table s t r ⊎ (Changed table s t r ⊎ Denied table s t r) → StaysOr table s t r
    go (inl e) k = inl e
    go (inr m) (inl k) = fresh m k (k.word m.word m.control)
    go (inr m) (inr (inl k)) = inl (m.state ∙ k.word m.word m.control ∙ sym k.state)
    go (inr m) (inr (inr k)) = denied m k m.able

flagged_carry : (table : Table) (s t first : ℕ) (r : Registers) → Flag table s t first r ⊎ Cleared table s t first r → StaysOr table s t r
flagged_carry table s t first r k = go (moves table r) k
  where
    flag : (m : Moves table r (carry table r)) → Flag table s t first r → (r.refused ≡ None) ⊎ (m.word.1 ≡ true) → (m.word.1 ≡ false) ⊎ (m.word.0 ≡ s) → StaysOr table s t r
    flag m k (inl e) w = absurd (let no = k.refused in cc)
    flag m k (inr e) (inl w) = absurd (cc)
    flag m k (inr e) (inr w) = inl (m.state ∙ w ∙ sym k.state)

    go : ((carry table r).state ≡ r.state) ⊎ Moves table r (carry table r) → Flag table s t first r ⊎ Cleared table s t first r → StaysOr table s t r
    go (inl e) k = inl e
    go (inr m) (inl k) = flag m k m.able (k.word m.word m.control)
    go (inr m) (inr k) = inl (m.state ∙ k.word m.word m.control ∙ sym k.state)

pub hand_carry : (table : Table) (s t : ℕ) (phase : Phase) (r : Registers) → InHand table s t phase r → StaysOr table s t r
hand_carry table s t Phase.Ask r k = asked_carry table s t r k
hand_carry table s t Phase.Await r k = asked_carry table s t r k
hand_carry table s t (Phase.Acknowledge state first) r k = flagged_carry table s t first r k.1
hand_carry table s t (Phase.Recover first) r k = flagged_carry table s t first r k
